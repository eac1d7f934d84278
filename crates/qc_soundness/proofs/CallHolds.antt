-- The tile of a call holds of the sequence of each valid derivation of it.
use Rattle.std.proofs.Common.{append-nil, ◌≡◌, ◌∙◌, ◌+◌, ◌≤◌, ◌||◌, ◌&&◌, ℕ, zero, suc, List, [], ◌∷◌, ◌++◌, length, map, true, false, Option, None, Some, slice_get, count_by, inl, inr, refl, sym, ap, subst, arith}
use Rattle.std.specs.List.{AllByRecursion, list_all, list_any}
use Rattle.std.proofs.lemmas.List.Elements.{recursion_from_All}
use Rattle.std.proofs.lemmas.Option.{slice_get-map}
use Rattle.qc_terms.specs.declared.state.Event.{Event}
use Rattle.qc_terms.specs.declared.state.State.{State}
use Rattle.qc_terms.specs.declared.term.Dest.{Dest}
use Rattle.qc_terms.specs.declared.term.Effect.{Effect}
use Rattle.qc_terms.specs.declared.term.Rtl.{Rtl}
use Rattle.qc_terms.specs.Effects.{Outcome, effect_has_input, outcome_of, writes_of_effect, ToCell, ToCounter, Write, after_writes, before_writes, outcome_of_event, writes_of}
use Rattle.qc_terms.specs.State.{Context}
use Rattle.qc_terms.specs.Tree.{Tree}
use Rattle.qc_terms.specs.Typing.{IsTyped, IsTypedEffect}
use Rattle.qc_descr.specs.declared.description.Instruction.{Instruction}
use Rattle.qc_descr.specs.Description.{context_of_description, kinds_of}
use Rattle.qc_descr.specs.Law.CodedBytes.{valid_at}
use Rattle.qc_descr.specs.Step.{Progress}
use Rattle.qc_descr.specs.Valid.{EffectNames}
use Rattle.qc_tiles.specs.Sound.{EffectNamesOwn, facts_of, kinds_of_tile}
use Rattle.qc_code.specs.declared.template.Slot.{Slot}
use Rattle.qc_code.specs.Running.{goes_on, with_outcome}
use Rattle.qc_code.specs.Setting.{Line, line_rtl, rtl_of, slot_value, transfer_of}
use Rattle.qc_derivations.specs.Forest.{Forest, Node, Stand}
use Rattle.qc_derivations.specs.Goals.{Need}
use Rattle.qc_derivations.specs.Machine.{Assignment, Destination, Form, Machine, assignment_of, destination_of, form_of, machine_of, ToCounter as Counter, ToHalt, ToMemory, ToOutput, ToPlace, ToTrap}
use Rattle.qc_derivations.specs.Matching.{all_pairs, meets, Pair}
use Rattle.qc_derivations.specs.Nodes.{child_needs, flag_need, inputs_in_goal, is_allowed, is_met_once, task_of, inputs_in_destination, inputs_in_guard}
use Rattle.qc_derivations.specs.Rules.{flag_pair, is_written}
use Rattle.qc_derivations.specs.Sequence.{assignments_in, kinds_in, lines_of, node_scratches, node_slots, own_slot, own_slot_or, own_slots, scratches_from, scratches_of, slots_from}
use Rattle.qc_derivations.specs.Valid.{AreValid}
use Rattle.qc_soundness.proofs.Children.{TiesOnce}
use Rattle.qc_soundness.proofs.ChildStep.{Faults}
use Rattle.qc_soundness.proofs.ForestHolds.{forest_runs, run_apart, run_lines}
use Rattle.qc_soundness.proofs.ForestRuns.{ForestComes, IsBefore, outer_is_beyond}
use Rattle.qc_soundness.proofs.Goals.{KeepsRules, Laws}
use Rattle.qc_soundness.proofs.LeafValues.{AreHeld, NodeLine, Suits, line_high, line_operands, line_slots}
use Rattle.qc_soundness.proofs.Needs.{IsReached}
use Rattle.qc_soundness.proofs.NodeChildren.{IsInner, fault_up, inner_of, typed-parts}
use Rattle.qc_soundness.proofs.Optional.{and_both, map_parts, numbers}
use Rattle.qc_soundness.proofs.Patterns.{inputs_met, GoesToParts, PartHolds}
use Rattle.qc_soundness.proofs.RootGoal.{AlikeOne, AlikeTo, AllHoldOf, GuardHolds, ToHolds}
use Rattle.qc_soundness.proofs.RootLine.{SomeTraps, good_after, inputs_alike, no_ties, traps_before, traps_of_parts}
use Rattle.qc_soundness.proofs.RootRuns.{Does, IsRootFree, why_traps, SomeNone, does_near, outcome_as, root_spared}
use Rattle.qc_soundness.proofs.Scene.{IsBeyond, IsGood, IsOuter, IsScene, Scene, good-parts, at_front}
use Rattle.qc_soundness.proofs.Single.{count_met}
use Rattle.qc_soundness.proofs.Writes.{AreKept, kept-less, kept-refl}
use Rattle.qc_terms.specs.declared.state.Event.TheVariants.{Quiet}
use Rattle.qc_soundness.proofs.CallRuns.{IsHalf, call_effects, leaves_of_two, parts_of_two, two_goals}
use Rattle.qc_soundness.proofs.CallWrites.{Call, CallEffects, call_near, call_quiet}
use Rattle.qc_soundness.proofs.RootStates.{AreNear}
use Rattle.qc_soundness.proofs.TileRuns.{begun, first_lines, last_line, typed_of}
use Rattle.qc_derivations.specs.Same.{inputs_in}
use Rattle.qc_terms.specs.declared.term.Place.{Place}
use Rattle.qc_terms.specs.declared.term.Dest.TheVariants as dest

-- ---- what holds of parts

hold_more : (P Q : Tree → Type 0) (a : Assignment) → ((t : Tree) → P t → Q t) → AllHoldOf P a → AllHoldOf Q a
hold_more P Q a more holds = record { guard = guard a.guard holds.guard; to = to a.to holds.to; value = more a.value holds.value }
  where
    guard : (g : Option Tree) → GuardHolds P g → GuardHolds Q g
    guard None holds = tt
    guard (Some g) holds = more g holds

    to : (x : Destination) → ToHolds P x → ToHolds Q x
    to (ToMemory width address) holds = more address holds
    to (ToPlace p) holds = tt
    to Counter holds = tt
    to ToOutput holds = tt
    to ToHalt holds = tt
    to ToTrap holds = tt

no_inputs : (a : Assignment) → inputs_in_goal a ≡ 0 → AllHoldOf (λ t. inputs_in t ≡ 0) a
no_inputs a none = record { guard = guard a.guard (omega (arith, none)); to = to a.to (omega (arith, none)); value = omega (arith, none) }
  where
    guard : (g : Option Tree) → inputs_in_guard g ≡ 0 → GuardHolds (λ t. inputs_in t ≡ 0) g
    guard None none = tt
    guard (Some g) none = none

    to : (x : Destination) → inputs_in_destination x ≡ 0 → ToHolds (λ t. inputs_in t ≡ 0) x
    to (ToMemory width address) none = none
    to (ToPlace p) none = tt
    to Counter none = tt
    to ToOutput none = tt
    to ToHalt none = tt
    to ToTrap none = tt

inputs-parts : GoesToParts (λ t. inputs_in t ≡ 0)
inputs-parts = record {
  unary = λ op arg none. none;
  left = λ op left right none. omega (arith, none);
  right = λ op left right none. omega (arith, none);
  load = λ width address none. none;
}

none_met : (xs : List Pair) → AllByRecursion (PartHolds (λ t. inputs_in t ≡ 0)) xs → inputs_met xs ≡ 0
none_met [] all = refl
none_met (x ∷ xs) all = let rest = none_met xs all.1 in let one = all.0 in omega (arith, one, rest)

typed_all : (context : Context) (es : List Effect) → AllByRecursion (IsTypedEffect context) es → AllByRecursion (λ e. AllHoldOf (IsTyped context) (assignment_of e)) es
typed_all context [] typed = tt
typed_all context (e ∷ es) typed = (typed_of context e typed.0, typed_all context es typed.1)

-- ---- the two effects

-- half of a call's tile: it reads no input, has a value, and writes so
pub record IsHalfTile (c : Scene) (f : Effect) (write : Write) : Type 0 where
  pub good : AllHoldOf (IsGood c) (assignment_of f)
  pub names : EffectNames c.d.facts.word (kinds_of_tile (facts_of c.d) c.t) f
  pub own : EffectNamesOwn (facts_of c.d) f
  pub quiet : effect_has_input f ≡ false
  pub valued : SomeNone c f → ⊥
  pub writes : writes_of_effect f c.e.operands c.after c.start ≡ Some (write ∷ [])

half_of : (c : Scene) (f : Effect) (g : Assignment) (write : Write) → IsHalfTile c f write → AlikeOne (assignment_of f) g → IsHalf c f g write
half_of c f g write tile alike = record { good = tile.good; alike = alike; names = tile.names; own = tile.own; none = go (inputs_in_goal g) refl; writes = tile.writes }
  where
    go : (n : ℕ) → inputs_in_goal g ≡ n → inputs_in_goal g ≡ 0
    go zero none = none
    go (suc n) some = absurd (let no : true ≡ false = sym ((inputs_alike f g alike).0 (omega (arith, some))) ∙ tile.quiet in cc no)

never_traps : (c : Scene) (f : Effect) (g : Assignment) (write : Write) (code : ℕ) → IsScene c → IsHalfTile c f write → AlikeOne (assignment_of f) g → SomeTraps c code g → ⊥
never_traps c f g write code is tile alike traps = elim (why_traps c code f (traps_before c code (assignment_of f) g is tile.good alike traps)) [
  | inl over ↦ let no : true ≡ false = sym over.1 ∙ tile.quiet in cc no
  | inr none ↦ tile.valued none.1
]

pub record IsCallTile (c : Scene) (f k : Effect) : Type 0 where
  pub call : Call
  pub link : IsHalfTile c f (ToCell call.space call.index call.word)
  pub counter : IsHalfTile c k (ToCounter call.target)
  pub place : Place
  pub link_to : f.to ≡ dest.Reg place
  pub counter_to : k.to ≡ dest.Pc

apart_goals : (stands : List Stand) (g h : Assignment) (q : Place) → g.to ≡ ToPlace q → h.to ≡ Counter → (a : Assignment) → meets true stands g.to a.to ≡ true → meets true stands h.to a.to ≡ true → ⊥
apart_goals stands g h q is_g is_h a one two =
    go a.to (subst (λ x. meets true stands x a.to ≡ true) is_g one) (subst (λ x. meets true stands x a.to ≡ true) is_h two)
  where
    go : (x : Destination) → meets true stands (ToPlace q) x ≡ true → meets true stands Counter x ≡ true → ⊥
    go (ToPlace p) one two = cc two
    go (ToMemory width address) one two = cc one
    go Counter one two = cc one
    go ToOutput one two = cc one
    go ToHalt one two = cc one
    go ToTrap one two = cc one

pub call_runs : Laws → (c : Scene) (bound : ℕ) (f k : Effect) (node : Node) (children : Forest) (inner : List Need) → IsScene c → IsCallTile c f k → c.start.ending ≡ None →
    KeepsRules (task_of c.d c.t bound) true (assignment_of f ∷ assignment_of k ∷ []) node inner → AreValid (task_of c.d c.t bound) inner children →
    node_scratches (machine_of c.d) node + scratches_of (machine_of c.d) children ≤ c.count → c.e.next (0 + length (first_lines c (own_slot (assignment_of f ∷ assignment_of k ∷ [])) node children)) ≡ c.after →
    Does c (outcome_of (record { effects = f ∷ k ∷ [] }) c.e.operands c.after c.start)
    (run_lines c 0 (first_lines c (own_slot (assignment_of f ∷ assignment_of k ∷ [])) node children ++ (last_line c (own_slot (assignment_of f ∷ assignment_of k ∷ [])) node ∷ [])) (begun c))
call_runs laws c bound f k node children inner is tile running kept valid count last_after =
    let goals = two_goals laws node.steps (assignment_of f) (assignment_of k) kept.rewritten kept.is_rewritten in
    let form = map_parts form_of (slice_get c.d.instructions node.instruction) kept.form (sym (slice_get-map form_of c.d.instructions node.instruction) ∙ kept.is_form) in
    let needs = map_parts (λ (ns : List Need). ns ++ flag_need (flag_pair (machine_of c.d) kept.pairs)) (child_needs 0 node.stands kept.pairs) inner kept.needs in
    built goals.first goals.second goals.are goals.first_alike goals.second_alike form.0 form.1 form.2 needs.0 needs.1 needs.2
  where
    slots_are : slice_get (machine_of c.d).forms node.instruction ≡ Some kept.form →
        node_slots (machine_of c.d) (own_slot (assignment_of f ∷ assignment_of k ∷ [])) 0 node ≡ slots_from (machine_of c.d) kept.form.assignments kept.form.kinds (own_slot (assignment_of f ∷ assignment_of k ∷ [])) 0 0 node.stands
    slots_are is_form = ap (λ x. slots_from (machine_of c.d) (assignments_in x) (kinds_in x) (own_slot (assignment_of f ∷ assignment_of k ∷ [])) 0 0 node.stands) is_form

    scratches_are : slice_get (machine_of c.d).forms node.instruction ≡ Some kept.form →
        0 + node_scratches (machine_of c.d) node ≡ 0 + scratches_from (machine_of c.d) kept.form.assignments 0 node.stands
    scratches_are is_form = ap (λ x. 0 + scratches_from (machine_of c.d) (assignments_in x) 0 node.stands) is_form

    built : (g h : Assignment) → kept.rewritten ≡ g ∷ h ∷ [] → AlikeOne (assignment_of f) g → AlikeOne (assignment_of k) h → (i : Instruction) → slice_get c.d.instructions node.instruction ≡ Some i → form_of i ≡ kept.form →
        (regs : List Need) → child_needs 0 node.stands kept.pairs ≡ Some regs → regs ++ flag_need (flag_pair (machine_of c.d) kept.pairs) ≡ inner →
        Does c (outcome_of (record { effects = f ∷ k ∷ [] }) c.e.operands c.after c.start)
        (run_lines c 0 (first_lines c (own_slot (assignment_of f ∷ assignment_of k ∷ [])) node children ++ (last_line c (own_slot (assignment_of f ∷ assignment_of k ∷ [])) node ∷ [])) (begun c))
    built g h goals alike also i is_i is_form regs needs whole =
        let m : Machine = machine_of c.d in
        let own : Slot = own_slot (assignment_of f ∷ assignment_of k ∷ []) in
        let l : NodeLine = record { root = true; form = kept.form; stands = node.stands; pairs = kept.pairs; own = own; scratch = 0 } in
        let es : List Effect = i.rtl.effects in
        let gs : List Assignment = g ∷ h ∷ [] in
        let listed : l.form.assignments ≡ map assignment_of es = ap (λ (x : Form). x.assignments) (sym is_form) in
        let pairs : all_pairs true l.stands gs (map assignment_of es) ≡ Some l.pairs =
        subst (λ ys. all_pairs true node.stands ys (map assignment_of es) ≡ Some kept.pairs) goals
        (subst (λ ys. all_pairs true node.stands kept.rewritten ys ≡ Some kept.pairs) listed kept.are_pairs) in
        let met_once : list_all (is_met_once true node.stands kept.form.assignments) gs ≡ true = subst (λ ys. list_all (is_met_once true node.stands kept.form.assignments) ys ≡ true) goals kept.met_once in
        let met = and_both (is_met_once true node.stands kept.form.assignments g) (is_met_once true node.stands kept.form.assignments h && true) met_once in
        let met_h = and_both (is_met_once true node.stands kept.form.assignments h) true met.1 in
        let once_g : count_met true l.stands g es ≡ 1 = subst (λ ys. count_by (λ (a : Assignment). meets true node.stands g.to a.to) ys ≡ 1) listed (numbers (count_by (λ (a : Assignment). meets true node.stands g.to a.to) kept.form.assignments) 1 met.0) in
        let once_h : count_met true l.stands h es ≡ 1 = subst (λ ys. count_by (λ (a : Assignment). meets true node.stands h.to a.to) ys ≡ 1) listed (numbers (count_by (λ (a : Assignment). meets true node.stands h.to a.to) kept.form.assignments) 1 met_h.0) in
        let allowed : list_all (is_allowed m true l.stands gs) (map assignment_of es) ≡ true =
        subst (λ ys. list_all (is_allowed m true node.stands ys) (map assignment_of es) ≡ true) goals
        (subst (λ ys. list_all (is_allowed m true node.stands kept.rewritten) ys ≡ true) listed kept.allowed) in
        let valid_i = valid_at c.d node.instruction i is.placed.valid is_i in
        let names : AllByRecursion (EffectNames c.d.facts.word l.form.kinds) es =
        subst (λ (x : Form). AllByRecursion (EffectNames c.d.facts.word x.kinds) es) is_form (recursion_from_All (EffectNames c.d.facts.word (kinds_of i)) es valid_i.names) in
        let typed : AllByRecursion (IsTypedEffect (context_of_description c.d)) es = recursion_from_All (IsTypedEffect (context_of_description c.d)) es valid_i.typed in
        let suits : Suits c l = kept.operands in
        let link : IsHalf c f g (ToCell tile.call.space tile.call.index tile.call.word) = half_of c f g (ToCell tile.call.space tile.call.index tile.call.word) tile.link alike in
        let counter : IsHalf c k h (ToCounter tile.call.target) = half_of c k h (ToCounter tile.call.target) tile.counter also in
        let ties : TiesOnce c l = record { own = λ j tied. absurd (no_ties c l j refl suits tied); once = λ a b first second. absurd (no_ties c l a refl suits first) } in
        let scratches : 0 + node_scratches m node ≡ line_high c l = scratches_are kept.is_form in
        let slots : node_slots m own 0 node ≡ line_slots c l = slots_are kept.is_form in
        let high : line_high c l ≤ c.count = omega (arith, scratches, count) in
        let none : inputs_met l.pairs ≡ 0 = none_met l.pairs (parts_of_two (λ t. inputs_in t ≡ 0) inputs-parts l.stands g h (no_inputs g link.none) (no_inputs h counter.none) es l.pairs pairs) in
        let inside : IsInner c l (λ n. ⊥) (λ code. ⊥) inner (own_slots own node (line_slots c l)) =
        subst (λ ns. IsInner c l (λ n. ⊥) (λ code. ⊥) ns (own_slots own node (line_slots c l))) whole
        (inner_of c is l suits (λ n. ⊥) (λ code. ⊥) ties (λ j n tied mine. no_ties c l j refl suits tied)
        (parts_of_two (IsGood c) (good-parts c) l.stands g h (good_after c (assignment_of f) g tile.link.good alike) (good_after c (assignment_of k) h tile.counter.good also) es l.pairs pairs)
        (leaves_of_two (IsTyped (context_of_description c.d)) (typed-parts (context_of_description c.d)) l.stands g h es (typed_all (context_of_description c.d) es typed) l.pairs pairs)
        (λ code. parts_of_two (λ t. Faults c code t → ⊥) (fault_up c code ⊥) l.stands g h
        (hold_more (λ t. Faults c code t → SomeTraps c code g) (λ t. Faults c code t → ⊥) g (λ t up fault. never_traps c f g (ToCell tile.call.space tile.call.index tile.call.word) code is tile.link alike (up fault)) (traps_of_parts c code g))
        (hold_more (λ t. Faults c code t → SomeTraps c code h) (λ t. Faults c code t → ⊥) h (λ t up fault. never_traps c k h (ToCounter tile.call.target) code is tile.counter also (up fault)) (traps_of_parts c code h))
        es l.pairs pairs)
        kept.leaves high regs needs node.flag (flag_pair m l.pairs) refl kept.flag) in
        let owns : List Slot = own_slots own node (line_slots c l) in
        let first : List Line = first_lines c own node children in
        let first_is : first ≡ lines_of m children owns (line_high c l) =
        ap (λ xs. lines_of m children (own_slots own node xs) (0 + node_scratches m node)) slots ∙ ap (lines_of m children owns) scratches in
        let middle : Progress = run_lines c 0 first (begun c) in
        let top : ℕ = line_high c l + scratches_of m children in
        let before : IsBefore c inner (begun c) = record { kept = kept-refl (IsOuter c) c.start; running = running; untaken = λ some. refl } in
        let most = inside.at_most in
        let comes : ForestComes c inner owns (line_high c l) top (begun c) middle =
        subst (λ xs. ForestComes c inner owns (line_high c l) top (begun c) (run_lines c 0 xs (begun c))) (sym first_is)
        (forest_runs laws c bound is children inner owns (line_high c l) 0 (begun c) valid inside.suit (omega (arith, scratches, count)) inside.good (omega (arith, most, none)) before) in
        let after : ℕ = c.e.next (0 + length first) in
        subst (λ x. Does c (outcome_of (record { effects = f ∷ k ∷ [] }) c.e.operands c.after c.start) x) (sym (run_apart c 0 first (last_line c own node) [] (begun c)))
        (elim comes [
          | inl stopped ↦ absurd (inside.fault stopped.0 stopped.1.fault)
          | inr run ↦
              let outer : AreKept (IsOuter c) c.start middle.state =
              kept-less (IsBeyond c (IsReached inner owns (line_high c l) top)) (IsOuter c) c.start middle.state
              (λ space index. outer_is_beyond c inner owns (line_high c l) (line_high c l) top space index inside.suit high (omega (arith, scratches, count))) run.kept in
              let held : AreHeld c l middle.state = inside.held middle.state (outer.facts ∙ is.placed.state.facts) run.held in
              let it : CallEffects (IsRootFree c l) tile.call true true es (record { operands = line_operands c l; after = c.after; state = middle.state }) =
              call_effects c is l suits refl middle.state outer held tile.call f k g h link counter
              (λ q here. ap (λ (x : Dest). own_slot_or (own_slot (assignment_of k ∷ [])) (destination_of x)) here)
              (λ q here. let no : dest.Pc ≡ dest.Reg q = sym tile.counter_to ∙ here in cc no)
              (apart_goals l.stands g h tile.place (subst (λ (x : Dest). AlikeTo (destination_of x) g.to) tile.link_to alike.to) (subst (λ (x : Dest). AlikeTo (destination_of x) h.to) tile.counter_to also.to))
              es true true l.pairs once_g once_h pairs kept.leaves allowed names (λ number any. ap (λ ys. is_written number ys) listed ∙ any) in
              let taken : middle.state.taken ≡ c.start.taken = run.taken ∙ (omega (arith, most, none)) in
              finish own l i es refl is_i slots after last_after middle run.ending run.output outer taken high it
        ])
      where
        finish : (own : Slot) (l : NodeLine) (i : Instruction) (es : List Effect) → i.rtl.effects ≡ es → slice_get c.d.instructions node.instruction ≡ Some i → node_slots (machine_of c.d) own 0 node ≡ line_slots c l → (after : ℕ) → after ≡ c.after →
            (r : Progress) → r.state.ending ≡ None → r.output ≡ [] → AreKept (IsOuter c) c.start r.state → r.state.taken ≡ c.start.taken → line_high c l ≤ c.count →
            CallEffects (IsRootFree c l) tile.call true true es (record { operands = line_operands c l; after = c.after; state = r.state }) →
            Does c (outcome_of (record { effects = f ∷ k ∷ [] }) c.e.operands c.after c.start) (goes_on r.state.ending (transfer_of c.d c.t c.e after (last_line c own node)) r)
        finish own l i es is_es is_i slots after same r ending output outer taken high it =
            let Go : Rtl → List ℕ → ℕ → Progress = λ rtl xs n. with_outcome r (outcome_of rtl xs n r.state) in
            let s : State = before_writes false c.after c.start in
            let u : State = before_writes false c.after r.state in
            let read = at_front c in
            let tiles : List Write = ToCell tile.call.space tile.call.index tile.call.word ∷ ToCounter tile.call.target ∷ [] in
            let tile_quiet : list_any effect_has_input (f ∷ k ∷ []) ≡ false = ap (λ b. b || (effect_has_input k || false)) tile.link.quiet ∙ ap (λ b. b || false) tile.counter.quiet in
            let tile_writes : writes_of (f ∷ k ∷ []) c.e.operands c.after c.start ≡ Some tiles = rw (tile.link.writes, tile.counter.writes) refl in
            let tile_is : outcome_of (record { effects = f ∷ k ∷ [] }) c.e.operands c.after c.start ≡ record { state = after_writes tiles s; event = Quiet } =
            outcome_as (f ∷ k ∷ []) (at_front c) false (Some tiles) tile_quiet tile_writes in
            let line_is : outcome_of (record { effects = es }) (line_operands c l) c.after r.state ≡ record { state = after_writes it.writes u; event = Quiet } =
            outcome_as es (record { operands = line_operands c l; after = c.after; state = r.state }) false (Some it.writes) it.quiet it.are
            ∙ ap (λ (e : Event). outcome_of_event e it.writes false c.after r.state) (call_quiet (IsRootFree c l) tile.call true true it.writes it.call) in
            let begin : AreNear (IsOuter c) s u = record {
              kept = record { facts = outer.facts; widths = outer.widths; rows = outer.rows; cells = outer.cells; memory = outer.memory; input = outer.input };
              pc = refl;
              taken = taken;
              ending = ending ∙ sym running;
            } in
            let near : AreNear (IsOuter c) (after_writes tiles s) (after_writes it.writes u) =
            call_near (IsOuter c) (IsRootFree c l) tile.call true true it.writes s u
            (λ v facts x y a b out free. root_spared c l v x y a b high (facts ∙ outer.facts ∙ is.placed.state.facts) out free) it.call begin in
            let does : Does c (record { state = after_writes tiles s; event = Quiet }) (record { state = after_writes it.writes u; output = r.output ++ [] }) =
            does_near c Quiet (after_writes tiles s) (after_writes it.writes u) (r.output ++ []) near (append-nil r.output ∙ output) in
            let line : Progress = Go (record { effects = es }) (line_operands c l) c.after in
            let done : Does c (outcome_of (record { effects = f ∷ k ∷ [] }) c.e.operands c.after c.start) line =
            subst (λ (o : Outcome). Does c o line) (sym tile_is) (subst (λ (o : Outcome). Does c (record { state = after_writes tiles s; event = Quiet }) (with_outcome r o)) (sym line_is) does) in
            let goes : line ≡ goes_on r.state.ending (transfer_of c.d c.t c.e after (last_line c own node)) r =
            ap (λ (ys : List Effect). Go (record { effects = ys }) (line_operands c l) c.after) (sym is_es)
            ∙ ap (λ (o : Option Instruction). Go (rtl_of o) (line_operands c l) c.after) (sym is_i)
            ∙ ap (λ xs. Go (line_rtl c.d (last_line c own node)) (map (slot_value c.t c.e) xs) c.after) (sym slots)
            ∙ ap (λ n. Go (line_rtl c.d (last_line c own node)) (map (slot_value c.t c.e) (node_slots (machine_of c.d) own 0 node)) n) (sym same)
            ∙ ap (λ (e : Option Event). goes_on e (transfer_of c.d c.t c.e after (last_line c own node)) r) (sym ending) in
            subst (λ (x : Progress). Does c (outcome_of (record { effects = f ∷ k ∷ [] }) c.e.operands c.after c.start) x) goes done
