-- The tile holds of the sequence of a valid derivation.
use Rattle.std.proofs.Common.{◌≡◌, ◌∙◌, ◌⊎◌, ◌+◌, ◌-◌, ◌≤◌, ◌||◌, ◌&&◌, ℕ, zero, suc, List, [], ◌∷◌, ◌++◌, length, map, take, filter, Bool, true, false, Option, None, Some, IfSome, IsSome, All, Contains, slice_get, slice_index, count_by, get_or, nat_eq, inl, inr, refl, sym, ap, subst, arith}
use Rattle.std.specs.List.{AllByRecursion, list_all, list_any}
use Rattle.std.specs.Option.{option_map}
use Rattle.std.proofs.lemmas.List.Elements.{All-contains, All-map, recursion_from_All}
use Rattle.std.proofs.lemmas.Option.{slice_get-map}
use Rattle.qc_lists.specs.Law.Lists.{each_of_append}
use Rattle.qc_terms.specs.declared.state.Event.{Event}
use Rattle.qc_terms.specs.declared.state.State.{State}
use Rattle.qc_terms.specs.declared.term.Dest.{Dest}
use Rattle.qc_terms.specs.declared.term.Dest.TheVariants as dest
use Rattle.qc_terms.specs.declared.term.Effect.{Effect}
use Rattle.qc_terms.specs.declared.term.Rtl.{Rtl}
use Rattle.qc_terms.specs.declared.term.Term.{Term}
use Rattle.qc_terms.specs.Effects.{Outcome, effect_has_input, input_is_over, outcome_of, outcome_of_trap, writes_of_effect}
use Rattle.qc_terms.specs.State.{Context, context_of}
use Rattle.qc_terms.specs.Tree.{Immediate, tree_of, width_of}
use Rattle.qc_terms.specs.Typing.{EffectFits, IsTyped, IsTypedEffect, TakesWidth}
use Rattle.qc_descr.specs.declared.description.Description.{Description}
use Rattle.qc_descr.specs.declared.description.Instruction.{Instruction}
use Rattle.qc_descr.specs.Description.{context_of_description, kinds_of}
use Rattle.qc_descr.specs.Law.CodedBytes.{valid_at}
use Rattle.qc_descr.specs.Step.{Progress}
use Rattle.qc_descr.specs.Valid.{EffectNames, IsValid}
use Rattle.qc_tiles.specs.declared.shape.Shape.{Shape}
use Rattle.qc_tiles.specs.declared.shape.Shape.TheVariants as shape
use Rattle.qc_tiles.specs.declared.tile.Tile.{Tile}
use Rattle.qc_tiles.specs.declared.tile.TileFacts.{TileFacts}
use Rattle.qc_tiles.specs.Names.{all_names, shape_of}
use Rattle.qc_tiles.specs.Sound.{EffectNamesOwn, GuardedHasValues, IsSoundTile, facts_of, guard_has_load, has_load, is_store, kinds_of_tile}
use Rattle.qc_tiles.specs.Tiles.{effects_of, gives, stands_at, tile_of, tiles_among, tiles_of}
use Rattle.qc_tiles.specs.Law.Descriptions.{description_tiles}
use Rattle.qc_tiles.specs.Law.Effects.{gives_no_input}
use Rattle.qc_code.specs.declared.template.Slot.{Slot}
use Rattle.qc_code.specs.declared.template.Template.{Template}
use Rattle.qc_code.specs.Running.{Transfer, goes_on, run_of, with_outcome}
use Rattle.qc_code.specs.Setting.{Line, line_rtl, rtl_of, slot_value, transfer_of, transfers_from}
use Rattle.qc_code.specs.TileHolds.{DoesAs, TileHolds, is_flag_space}
use Rattle.qc_code.specs.Law.Slots.{IsReady, tile_is_ready}
use Rattle.qc_derivations.specs.declared.derivation.Bounds.{Bounds}
use Rattle.qc_derivations.specs.declared.derivation.Derivation.{Derivation}
use Rattle.qc_derivations.specs.Forest.{Empty, Forest, Grow, Node, children_under, forest_of, node_of}
use Rattle.qc_derivations.specs.Law.Forest.{grows_of-tree}
use Rattle.qc_derivations.specs.Goals.{AsTile, Need}
use Rattle.qc_derivations.specs.Machine.{Assignment, Form, Machine, assignment_of, assignments_of, destination_of, form_of, machine_of}
use Rattle.qc_derivations.specs.Matching.{all_pairs, meets}
use Rattle.qc_derivations.specs.Nodes.{child_needs, flag_need, inputs_in_goal, is_allowed, is_met_once, takes_one_input, task_of}
use Rattle.qc_derivations.specs.Rules.{flag_pair, is_written, writes_operand}
use Rattle.qc_derivations.specs.Sequence.{assignments_in, kinds_in, lines_of, node_scratches, node_slots, own_slot, own_slot_or, own_slots, scratches_from, scratches_of, sequence_of, slots_from}
use Rattle.qc_derivations.specs.Valid.{AreValid, IsValidDerivation}
use Rattle.qc_soundness.proofs.Children.{TiesOnce}
use Rattle.qc_soundness.proofs.ChildLine.{all_free}
use Rattle.qc_soundness.proofs.ChildStep.{Faults}
use Rattle.qc_soundness.proofs.ForestHolds.{forest_runs, run_apart, run_lines}
use Rattle.qc_soundness.proofs.ForestRuns.{ForestComes, HasStopped, IsBefore, outer_is_beyond}
use Rattle.qc_soundness.proofs.Goals.{KeepsRules, Laws, keeps_rules-of}
use Rattle.qc_soundness.proofs.GoThrough.{forest_quiet, needs_are_inner, quiet_through}
use Rattle.qc_soundness.proofs.LeafValues.{AreHeld, NodeLine, Suits, line_high, line_operands, line_slots}
use Rattle.qc_soundness.proofs.LineEffects.{WritesFree, harmless_writes}
use Rattle.qc_soundness.proofs.Needs.{IsReached, inputs_needed}
use Rattle.qc_soundness.proofs.NodeChildren.{IsInner, fault_up, inner_of, typed-parts}
use Rattle.qc_soundness.proofs.Optional.{and_both, le_from, map_parts, numbers, or_neither}
use Rattle.qc_soundness.proofs.Patterns.{inputs_met}
use Rattle.qc_soundness.proofs.RootGoal.{AlikeOne, AllHoldOf, GuardHolds, HasPairs, ToHolds, all_leaves_hold, all_parts_hold, effect_is_good, has_pairs, root_goal}
use Rattle.qc_soundness.proofs.RootLine.{SomeTraps, goal_inputs_met, good_after, inputs_alike, no_ties, reads_input, reads_no_input, root_writes, traps_before, traps_of_parts}
use Rattle.qc_soundness.proofs.RootRuns.{Does, IsRootFree, Takes, Untouching, does_trap, root_does, tile_traps, why_traps}
use Rattle.qc_soundness.proofs.Scene.{IsBeyond, IsGood, IsOuter, IsScene, Scene, allocatable_no_flag, good-parts}
use Rattle.qc_soundness.proofs.Single.{Harmless, IsSingle, all_of_parts, any_of_parts, count_met, missing_are_harmless, single}
use Rattle.qc_soundness.proofs.Writes.{AreKept, kept-less, kept-refl}

-- ---- tiles that trap read no input

pub not_trap : (x e : Effect) → x ∷ [] ≡ e ∷ [] → e.to ≡ dest.Trap → x.to ≡ dest.Trap
not_trap x e same trap = let it : x ≡ e = cc in ap (λ (y : Effect). y.to) it ∙ trap

two_not_one : (x y e : Effect) → x ∷ y ∷ [] ≡ e ∷ [] → ⊥
two_not_one x y e same = let it : y ∷ [] ≡ [] = cc in cc it

trap_quiet : (f : TileFacts) (s : Shape) (e : Effect) → effects_of f s ≡ e ∷ [] → e.to ≡ dest.Trap → effect_has_input e ≡ false
trap_quiet f shape.Trap e same trap =
    subst (λ (x : Effect). effect_has_input x ≡ false) (let it : gives dest.Trap (Immediate 0 8) ≡ e = cc in it) (gives_no_input dest.Trap (Immediate 0 8) refl refl)
trap_quiet f shape.Call e same trap = absurd (two_not_one _ _ e same)
trap_quiet f shape.Move e same trap = absurd (let it = not_trap _ e same trap in cc it)
trap_quiet f shape.Const e same trap = absurd (let it = not_trap _ e same trap in cc it)
trap_quiet f (shape.Unary op) e same trap = absurd (let it = not_trap _ e same trap in cc it)
trap_quiet f (shape.Binary op) e same trap = absurd (let it = not_trap _ e same trap in cc it)
trap_quiet f (shape.Test op) e same trap = absurd (let it = not_trap _ e same trap in cc it)
trap_quiet f (shape.Branch op) e same trap = absurd (let it = not_trap _ e same trap in cc it)
trap_quiet f (shape.LoadPart bits) e same trap = absurd (let it = not_trap _ e same trap in cc it)
trap_quiet f shape.LoadWord e same trap = absurd (let it = not_trap _ e same trap in cc it)
trap_quiet f (shape.StorePart bits) e same trap = absurd (let it = not_trap _ e same trap in cc it)
trap_quiet f shape.StoreWord e same trap = absurd (let it = not_trap _ e same trap in cc it)
trap_quiet f shape.Goto e same trap = absurd (let it = not_trap _ e same trap in cc it)
trap_quiet f shape.Ret e same trap = absurd (let it = not_trap _ e same trap in cc it)
trap_quiet f shape.SaveLink e same trap = absurd (let it = not_trap _ e same trap in cc it)
trap_quiet f shape.LoadLink e same trap = absurd (let it = not_trap _ e same trap in cc it)
trap_quiet f shape.Spill e same trap = absurd (let it = not_trap _ e same trap in cc it)
trap_quiet f shape.Reload e same trap = absurd (let it = not_trap _ e same trap in cc it)
trap_quiet f shape.Frame e same trap = absurd (let it = not_trap _ e same trap in cc it)
trap_quiet f shape.In e same trap = absurd (let it = not_trap _ e same trap in cc it)
trap_quiet f shape.Out e same trap = absurd (let it = not_trap _ e same trap in cc it)
trap_quiet f shape.Halt e same trap = absurd (let it = not_trap _ e same trap in cc it)

abbrev pub TrapsQuietly : Tile → Type 0
TrapsQuietly t = (e : Effect) → t.rtl.effects ≡ e ∷ [] → e.to ≡ dest.Trap → effect_has_input e ≡ false

pub all_trap_quietly : (f : TileFacts) → All TrapsQuietly (tiles_of f)
unfolding tiles_among
all_trap_quietly f =
    All-map TrapsQuietly (tile_of f) (filter (λ name. stands_at f.word (shape_of name)) all_names)
    (λ k d below e same trap. trap_quiet f (shape_of (get_or (filter (λ name. stands_at f.word (shape_of name)) all_names) k d)) e same trap)

-- ---- the root

pub typed_of : (context : Context) (e : Effect) → IsTypedEffect context e → AllHoldOf (IsTyped context) (assignment_of e)
typed_of context e typed = record { guard = guard e.guard typed.guard; to = to e.to typed.to; value = typed.value }
  where
    guard : (g : Option Term) → IfSome g (λ t. IsTyped context (tree_of t) × (width_of (tree_of t) ≡ 1)) → GuardHolds (IsTyped context) (option_map tree_of g)
    guard None typed = tt
    guard (Some g) typed = typed.0

    to : (x : Dest) → TakesWidth context x (width_of (tree_of e.value)) → ToHolds (IsTyped context) (destination_of x)
    to (dest.Mem width address) typed = typed.2
    to (dest.Reg p) typed = tt
    to dest.Pc typed = tt
    to dest.Out typed = tt
    to dest.Halt typed = tt
    to dest.Trap typed = tt

pub root_free : (c : Scene) → IsScene c → (l : NodeLine) → Suits c l → (s : State) (after : ℕ) (es : List Effect) → AllByRecursion (EffectNames c.d.facts.word l.form.kinds) es →
    AllByRecursion (Harmless (machine_of c.d) l.stands) es → AllByRecursion (λ e. WritesFree (IsRootFree c l) e (record { operands = line_operands c l; after = after; state = s })) es
root_free c is l suits s after [] names harmless = tt
root_free c is l suits s after (e ∷ es) names harmless = (
  harmless_writes c is l suits s after c.d.allocatable 0 e names.0 harmless.0
      (λ space index to flag. inl (λ same. let no : true ≡ false = sym flag ∙ ap (is_flag_space c.d) (sym same) ∙ allocatable_no_flag c.d is.placed.valid in cc no)),
  root_free c is l suits s after es names.1 harmless.1,
)

abbrev pub begun : Scene → Progress
begun c = record { state = c.start; output = [] }

-- the lines of the root's children
abbrev pub first_lines : Scene → Slot → Node → Forest → List Line
first_lines c own node children = lines_of (machine_of c.d) children (own_slots own node (node_slots (machine_of c.d) own 0 node)) (0 + node_scratches (machine_of c.d) node)

abbrev pub last_line : Scene → Slot → Node → Line
last_line c own node = (node.instruction, node_slots (machine_of c.d) own 0 node)

-- a tile of one effect, and what holds of it
pub record IsOne (c : Scene) (f : Effect) : Type 0 where
  pub good : AllHoldOf (IsGood c) (assignment_of f)
  pub names : EffectNames c.d.facts.word (kinds_of_tile (facts_of c.d) c.t) f
  pub own : EffectNamesOwn (facts_of c.d) f
  pub guarded : GuardedHasValues f
  pub apart : effect_has_input f ≡ true → Untouching f
  pub trap : f.to ≡ dest.Trap → effect_has_input f ≡ false

tile_runs : Laws → (c : Scene) (bound : ℕ) (f : Effect) (node : Node) (children : Forest) (inner : List Need) → IsScene c → IsOne c f → c.start.ending ≡ None →
    KeepsRules (task_of c.d c.t bound) true (assignment_of f ∷ []) node inner → AreValid (task_of c.d c.t bound) inner children →
    node_scratches (machine_of c.d) node + scratches_of (machine_of c.d) children ≤ c.count → c.e.next (0 + length (first_lines c (own_slot (assignment_of f ∷ [])) node children)) ≡ c.after →
    Does c (outcome_of (record { effects = f ∷ [] }) c.e.operands c.after c.start)
    (run_lines c 0 (first_lines c (own_slot (assignment_of f ∷ [])) node children ++ (last_line c (own_slot (assignment_of f ∷ [])) node ∷ [])) (begun c))
tile_runs laws c bound f node children inner is tile running kept valid count last_after =
    let goal = root_goal laws node.steps (assignment_of f) kept.rewritten kept.is_rewritten in
    let form = map_parts form_of (slice_get c.d.instructions node.instruction) kept.form (sym (slice_get-map form_of c.d.instructions node.instruction) ∙ kept.is_form) in
    let needs = map_parts (λ (ns : List Need). ns ++ flag_need (flag_pair (machine_of c.d) kept.pairs)) (child_needs 0 node.stands kept.pairs) inner kept.needs in
    built goal.0 goal.1 goal.2 form.0 form.1 form.2 needs.0 needs.1 needs.2
  where
    built : (g : Assignment) → kept.rewritten ≡ g ∷ [] → AlikeOne (assignment_of f) g → (i : Instruction) → slice_get c.d.instructions node.instruction ≡ Some i → form_of i ≡ kept.form →
        (regs : List Need) → child_needs 0 node.stands kept.pairs ≡ Some regs → regs ++ flag_need (flag_pair (machine_of c.d) kept.pairs) ≡ inner →
        Does c (outcome_of (record { effects = f ∷ [] }) c.e.operands c.after c.start)
        (run_lines c 0 (first_lines c (own_slot (assignment_of f ∷ [])) node children ++ (last_line c (own_slot (assignment_of f ∷ [])) node ∷ [])) (begun c))
    built g goals alike i is_i is_form regs needs whole =
        let m : Machine = machine_of c.d in
        let own : Slot = own_slot (assignment_of f ∷ []) in
        let l : NodeLine = record { root = true; form = kept.form; stands = node.stands; pairs = kept.pairs; own = own; scratch = 0 } in
        let es : List Effect = i.rtl.effects in
        let listed : l.form.assignments ≡ map assignment_of es = ap (λ (x : Form). x.assignments) (sym is_form) in
        let pairs : all_pairs true l.stands (g ∷ []) (map assignment_of es) ≡ Some l.pairs =
        subst (λ gs. all_pairs true node.stands gs (map assignment_of es) ≡ Some kept.pairs) goals
        (subst (λ ys. all_pairs true node.stands kept.rewritten ys ≡ Some kept.pairs) listed kept.are_pairs) in
        let met_once : (nat_eq (count_by (λ (a : Assignment). meets true node.stands g.to a.to) kept.form.assignments) 1 && true) ≡ true =
        subst (λ gs. list_all (is_met_once true node.stands kept.form.assignments) gs ≡ true) goals kept.met_once in
        let once : count_met true l.stands g es ≡ 1 =
        subst (λ ys. count_by (λ (a : Assignment). meets true node.stands g.to a.to) ys ≡ 1) listed
        (numbers (count_by (λ (a : Assignment). meets true node.stands g.to a.to) kept.form.assignments) 1
        (and_both (nat_eq (count_by (λ (a : Assignment). meets true node.stands g.to a.to) kept.form.assignments) 1) true met_once).0) in
        let allowed : list_all (is_allowed m true l.stands (g ∷ [])) (map assignment_of es) ≡ true =
        subst (λ gs. list_all (is_allowed m true node.stands gs) (map assignment_of es) ≡ true) goals
        (subst (λ ys. list_all (is_allowed m true node.stands kept.rewritten) ys ≡ true) listed kept.allowed) in
        let one : IsSingle true l.stands g es l.pairs = single true l.stands g es l.pairs pairs once in
        let valid_i = valid_at c.d node.instruction i is.placed.valid is_i in
        let names : AllByRecursion (EffectNames c.d.facts.word l.form.kinds) es =
        subst (λ (x : Form). AllByRecursion (EffectNames c.d.facts.word x.kinds) es) is_form
        (recursion_from_All (EffectNames c.d.facts.word (kinds_of i)) es valid_i.names) in
        let typed : AllByRecursion (IsTypedEffect (context_of_description c.d)) es = recursion_from_All (IsTypedEffect (context_of_description c.d)) es valid_i.typed in
        let typed_this : IsTypedEffect (context_of_description c.d) one.this =
        (each_of_append (IsTypedEffect (context_of_description c.d)) one.before (one.this ∷ one.behind) (subst (AllByRecursion (IsTypedEffect (context_of_description c.d))) one.is typed)).1.0 in
        let named = each_of_append (EffectNames c.d.facts.word l.form.kinds) one.before (one.this ∷ one.behind) (subst (AllByRecursion (EffectNames c.d.facts.word l.form.kinds)) one.is names) in
        let suits : Suits c l = kept.operands in
        let has : HasPairs (assignment_of one.this) g l.pairs = has_pairs (assignment_of one.this) g l.pairs one.are_pairs in
        let fine : AllHoldOf (IsGood c) g = good_after c (assignment_of f) g tile.good alike in
        let ties : TiesOnce c l = record {
          own = λ j tied. absurd (no_ties c l j refl suits tied);
          once = λ a b first second. absurd (no_ties c l a refl suits first);
        } in
        let scratches : 0 + node_scratches m node ≡ line_high c l = scratches_are kept.is_form in
        let slots : node_slots m own 0 node ≡ line_slots c l = slots_are kept.is_form in
        let high : line_high c l ≤ c.count = omega (arith, scratches, count) in
        let inside : IsInner c l (λ k. ⊥) (λ code. SomeTraps c code g) inner (own_slots own node (line_slots c l)) =
        subst (λ ns. IsInner c l (λ k. ⊥) (λ code. SomeTraps c code g) ns (own_slots own node (line_slots c l))) whole
        (inner_of c is l suits (λ k. ⊥) (λ code. SomeTraps c code g) ties (λ j k tied mine. no_ties c l j refl suits tied)
        (all_parts_hold (IsGood c) (good-parts c) (assignment_of one.this) g l.pairs has fine)
        (all_leaves_hold (IsTyped (context_of_description c.d)) (typed-parts (context_of_description c.d)) (assignment_of one.this) g l.pairs has (typed_of (context_of_description c.d) one.this typed_this))
        (λ code. all_parts_hold (λ t. Faults c code t → SomeTraps c code g) (fault_up c code (SomeTraps c code g)) (assignment_of one.this) g l.pairs has (traps_of_parts c code g))
        kept.leaves high regs needs node.flag (flag_pair m l.pairs) refl kept.flag) in
        let few : inputs_in_goal g ≤ 1 = few_inputs g (subst (λ gs. takes_one_input gs ≡ true) goals kept.input) in
        let counted : inputs_in_goal g ≡ inputs_in_goal (assignment_of one.this) + inputs_met l.pairs = goal_inputs_met l.stands (assignment_of one.this) g l.pairs has one.this_meets in
        let owns : List Slot = own_slots own node (line_slots c l) in
        let first : List Line = first_lines c own node children in
        let first_is : first ≡ lines_of m children owns (line_high c l) =
        ap (λ xs. lines_of m children (own_slots own node xs) (0 + node_scratches m node)) slots ∙ ap (lines_of m children owns) scratches in
        let middle : Progress = run_lines c 0 first (begun c) in
        let top : ℕ = line_high c l + scratches_of m children in
        let before : IsBefore c inner (begun c) = record { kept = kept-refl (IsOuter c) c.start; running = running; untaken = λ some. refl } in
        let comes : ForestComes c inner owns (line_high c l) top (begun c) middle =
        subst (λ xs. ForestComes c inner owns (line_high c l) top (begun c) (run_lines c 0 xs (begun c))) (sym first_is)
        (forest_runs laws c bound is children inner owns (line_high c l) 0 (begun c) valid inside.suit (omega (arith, scratches, count)) inside.good
        (let a = inside.at_most in omega (arith, a, counted, few)) before) in
        let after : ℕ = c.e.next (0 + length first) in
        let q : Progress = goes_on middle.state.ending (transfer_of c.d c.t c.e after (last_line c own node)) middle in
        subst (λ x. Does c (outcome_of (record { effects = f ∷ [] }) c.e.operands c.after c.start) x) (sym (run_apart c 0 first (last_line c own node) [] (begun c)))
        (elim comes [
          | inl stopped ↦ stopped_root g alike l own node middle stopped.0 inner stopped.1 (inside.fault stopped.0 stopped.1.fault) (transfer_of c.d c.t c.e after (last_line c own node))
              (λ quiet. let a = inside.at_most in let b = none_needed g alike quiet in omega (arith, a, b, counted))
          | inr run ↦
              let outer : AreKept (IsOuter c) c.start middle.state =
              kept-less (IsBeyond c (IsReached inner owns (line_high c l) top)) (IsOuter c) c.start middle.state
              (λ space index. outer_is_beyond c inner owns (line_high c l) (line_high c l) top space index inside.suit high (omega (arith, scratches, count))) run.kept in
              let held : AreHeld c l middle.state = inside.held middle.state (outer.facts ∙ is.placed.state.facts) run.held in
              let test : Assignment → Bool = is_allowed m true l.stands (g ∷ []) in
              let allows = all_of_parts test one.before (one.this ∷ one.behind) (subst (λ xs. list_all test (map assignment_of xs) ≡ true) one.is allowed) in
              let later = and_both (test (assignment_of one.this)) (list_all test (map assignment_of one.behind)) allows.1 in
              let rd = (λ (es : List Effect). all_free (IsRootFree c l) es (record { operands = line_operands c l; after = c.after; state = middle.state })) in
              let free_first = rd one.before (root_free c is l suits middle.state c.after one.before named.0 (missing_are_harmless true m l.stands g one.before allows.0 one.before_misses)) in
              let free_last = rd one.behind (root_free c is l suits middle.state c.after one.behind named.1.1 (missing_are_harmless true m l.stands g one.behind later.1 one.behind_misses)) in
              let same : writes_of_effect one.this (line_operands c l) c.after middle.state ≡ writes_of_effect f c.e.operands c.after c.start =
              root_writes c l l.pairs one.this f g middle.state c.after is suits refl outer held refl kept.leaves has one.this_meets tile.good alike named.1.0 tile.names.to tile.own.to
              (λ q here. ap (λ (x : Dest). own_slot_or (own_slot []) (destination_of x)) here)
              (λ space number here. ap (λ ys. is_written number ys) (listed ∙ ap (λ xs. map assignment_of xs) one.is)
              ∙ any_of_parts (λ a. writes_operand number a.to) one.before one.this one.behind (subst (λ (x : Dest). writes_operand number (destination_of x) ≡ true) (sym here) (itself number)))
              (λ some. ap (λ xs. slice_index xs middle.state.taken) outer.input
              ∙ ap (slice_index c.start.input) (run.taken ∙ (let a = inside.at_most in omega (arith, a, some, counted, few)))) in
              let takes : Takes c (effect_has_input one.this) (effect_has_input f) middle.state =
              takes_case g alike one.this inner (inputs_met l.pairs) few counted inside.at_most inside.at_least middle.state run.taken run.over (effect_has_input f) refl (effect_has_input one.this) refl in
              let done = root_does c is l high one.before one.this one.behind f middle outer run.ending running run.output free_first free_last same takes tile.apart tile.trap in
              subst (λ (x : Progress). Does c (outcome_of (record { effects = f ∷ [] }) c.e.operands c.after c.start) x)
              (line_goes c own node l i one.before one.this one.behind is_i one.is slots after last_after middle run.ending) done
        ])
      where
        itself : (n : ℕ) → nat_eq n n ≡ true
        itself n = grind arith

        few_inputs : (g : Assignment) → takes_one_input (g ∷ []) ≡ true → inputs_in_goal g ≤ 1
        few_inputs g takes = let it = le_from (0 + inputs_in_goal g) 1 takes in omega (arith, it)

        slots_are : slice_get (machine_of c.d).forms node.instruction ≡ Some kept.form →
            node_slots (machine_of c.d) (own_slot (assignment_of f ∷ [])) 0 node ≡ slots_from (machine_of c.d) kept.form.assignments kept.form.kinds (own_slot (assignment_of f ∷ [])) 0 0 node.stands
        slots_are is_form = ap (λ x. slots_from (machine_of c.d) (assignments_in x) (kinds_in x) (own_slot (assignment_of f ∷ [])) 0 0 node.stands) is_form

        scratches_are : slice_get (machine_of c.d).forms node.instruction ≡ Some kept.form →
            0 + node_scratches (machine_of c.d) node ≡ 0 + scratches_from (machine_of c.d) kept.form.assignments 0 node.stands
        scratches_are is_form = ap (λ x. 0 + scratches_from (machine_of c.d) (assignments_in x) 0 node.stands) is_form

        none_needed : (g : Assignment) → AlikeOne (assignment_of f) g → effect_has_input f ≡ false → inputs_in_goal g ≡ 0
        none_needed g alike quiet = go (inputs_in_goal g) refl
          where
            go : (n : ℕ) → inputs_in_goal g ≡ n → inputs_in_goal g ≡ 0
            go zero none = none
            go (suc n) some = absurd (let no : true ≡ false = sym ((inputs_alike f g alike).0 (omega (arith, some))) ∙ quiet in cc no)

        stopped_root : (g : Assignment) → AlikeOne (assignment_of f) g → (l : NodeLine) (own : Slot) (node : Node) (r : Progress) (code : ℕ) (inner : List Need) → HasStopped c inner code (begun c) r → SomeTraps c code g → (x : Transfer) →
            (effect_has_input f ≡ false → inputs_needed inner ≡ 0) → Does c (outcome_of (record { effects = f ∷ [] }) c.e.operands c.after c.start) (goes_on r.state.ending x r)
        stopped_root g alike l own node r code inner stop traps x quiet =
            let why = why_traps c code f (traps_before c code (assignment_of f) g is tile.good alike traps) in
            let both = tile_traps c code f tile.guarded tile.apart why in
            subst (λ (o : Outcome). Does c o (goes_on r.state.ending x r)) (sym both.0)
            (subst (λ (e : Option Event). Does c (outcome_of_trap code c.start) (goes_on e x r)) (sym stop.ending)
            (does_trap c code r.state r stop.kept (stop.taken (elim both.1 [ inl five ↦ inr five | inr none ↦ inl (quiet none) ]))
            (ap (λ (e : Option Event). record r.state { ending = e }) stop.ending) stop.output))

        takes_case : (g : Assignment) → AlikeOne (assignment_of f) g → (this : Effect) (inner : List Need) (met : ℕ) → inputs_in_goal g ≤ 1 → inputs_in_goal g ≡ inputs_in_goal (assignment_of this) + met →
            inputs_needed inner ≤ met → (inputs_needed inner ≡ 0 → met ≡ 0) → (r : State) → r.taken ≡ c.start.taken + inputs_needed inner → (1 ≤ inputs_needed inner → input_is_over c.start ≡ false) →
            (tiles : Bool) → effect_has_input f ≡ tiles → (lines : Bool) → effect_has_input this ≡ lines → Takes c lines tiles r
        takes_case g alike this inner met few counted at_most at_least r taken over false no_tile true line =
            absurd (let a = none_needed g alike no_tile in let b = reads_input this line in omega (arith, a, b, counted))
        takes_case g alike this inner met few counted at_most at_least r taken over false no_tile false line =
            inl (refl, taken ∙ (let a = none_needed g alike no_tile in omega (arith, a, counted, at_most)))
        takes_case g alike this inner met few counted at_most at_least r taken over true tiles true line =
            inl (refl, taken ∙ (let b = reads_input this line in omega (arith, b, counted, few, at_most)))
        takes_case g alike this inner met few counted at_most at_least r taken over true tiles false line = go (inputs_needed inner) refl
          where
            some : 1 ≤ inputs_in_goal g
            some = (inputs_alike f g alike).1 tiles

            none : inputs_in_goal (assignment_of this) ≡ 0
            none = reads_no_input this line

            go : (n : ℕ) → inputs_needed inner ≡ n → Takes c false true r
            go zero nothing = absurd (let a = at_least nothing in omega (arith, a, some, none, counted))
            go (suc n) more = inr (refl, refl, taken ∙ (omega (arith, more, at_most, counted, few)), over (omega (arith, more)))

        line_goes : (c : Scene) (own : Slot) (node : Node) (l : NodeLine) (i : Instruction) (before : List Effect) (this : Effect) (behind : List Effect) → slice_get c.d.instructions node.instruction ≡ Some i →
            i.rtl.effects ≡ before ++ (this ∷ behind) → node_slots (machine_of c.d) own 0 node ≡ line_slots c l → (after : ℕ) → after ≡ c.after → (r : Progress) → r.state.ending ≡ None →
            with_outcome r (outcome_of (record { effects = before ++ (this ∷ behind) }) (line_operands c l) c.after r.state)
            ≡ goes_on r.state.ending (transfer_of c.d c.t c.e after (last_line c own node)) r
        line_goes c own node l i before this behind is_i is slots after same r ending =
            let Go : Rtl → List ℕ → ℕ → Progress = λ rtl xs n. with_outcome r (outcome_of rtl xs n r.state) in
            let one : Go (record { effects = before ++ (this ∷ behind) }) (line_operands c l) c.after ≡ Go i.rtl (line_operands c l) c.after =
            ap (λ (es : List Effect). Go (record { effects = es }) (line_operands c l) c.after) (sym is) in
            let two : Go i.rtl (line_operands c l) c.after ≡ Go (line_rtl c.d (last_line c own node)) (line_operands c l) c.after =
            ap (λ (o : Option Instruction). Go (rtl_of o) (line_operands c l) c.after) (sym is_i) in
            let three : Go (line_rtl c.d (last_line c own node)) (line_operands c l) c.after ≡ Go (line_rtl c.d (last_line c own node)) (map (slot_value c.t c.e) (node_slots (machine_of c.d) own 0 node)) c.after =
            ap (λ xs. Go (line_rtl c.d (last_line c own node)) (map (slot_value c.t c.e) xs) c.after) (sym slots) in
            let four : Go (line_rtl c.d (last_line c own node)) (map (slot_value c.t c.e) (node_slots (machine_of c.d) own 0 node)) c.after ≡ goes_on None (transfer_of c.d c.t c.e after (last_line c own node)) r =
            ap (λ n. Go (line_rtl c.d (last_line c own node)) (map (slot_value c.t c.e) (node_slots (machine_of c.d) own 0 node)) n) (sym same) in
            one ∙ two ∙ three ∙ four ∙ ap (λ (e : Option Event). goes_on e (transfer_of c.d c.t c.e after (last_line c own node)) r) (sym ending)

-- ---- the tile holds

pub one_effect : (es : List Effect) → length es ≡ 1 → (f : Effect) × (es ≡ f ∷ [])
one_effect [] one = absurd (omega (arith, one))
one_effect (f ∷ []) one = (f, refl)
one_effect (f ∷ g ∷ es) one = absurd (omega (arith, one))

abbrev pub template_of : Description → Tile → Forest → Template
template_of d t forest = record {
  instances = lines_of (machine_of d) forest (own_slot (assignments_of t.rtl) ∷ []) 0;
  scratches = scratches_of (machine_of d) forest;
}

untouching : (f : Effect) (b : Bool) → ((list_any effect_has_input (f ∷ []) ≡ true) → list_any (λ (e : Effect). guard_has_load e.guard || (is_store e.to || has_load (tree_of e.value))) (f ∷ []) ≡ false) → effect_has_input f ≡ true → Untouching f
untouching f b apart reads =
    let none = apart (ap (λ x. x || false) reads) in
    let one = or_neither (guard_has_load f.guard || (is_store f.to || has_load (tree_of f.value))) false none in
    let two = or_neither (guard_has_load f.guard) (is_store f.to || has_load (tree_of f.value)) one.0 in
    let three = or_neither (is_store f.to) (has_load (tree_of f.value)) two.1 in
    record { guard = two.0; to = three.0; value = three.1 }

pub tree_holds : Laws → (d : Description) (t : Tile) (bound : ℕ) (node : Node) (children : Forest) (f : Effect) → IsValid d → IsSoundTile (context_of_description d) (facts_of d) t → TrapsQuietly t →
    t.rtl.effects ≡ f ∷ [] → AreValid (task_of d t bound) (AsTile (assignments_of t.rtl) ∷ []) (Grow node children Empty) → TileHolds d t (template_of d t (Grow node children Empty))
tree_holds laws d t bound node children f valid sound quietly is_f derived row e s setting wide running =
    let m : Machine = machine_of d in
    let x : Template = template_of d t (Grow node children Empty) in
    let own : Slot = own_slot (assignments_of t.rtl) in
    let c : Scene = record { d = d; t = t; row = row; e = e; count = x.scratches; lines = length x.instances; after = e.next (length x.instances - 1); start = s } in
    let first : List Line = first_lines c own node children in
    let length_is : length x.instances ≡ suc (length first) = length_after first (last_line c own node) in
    let scene : IsScene c = record {
      placed = record { valid = valid; setting = setting; state = wide };
      after = setting.words (length x.instances - 1) (omega (arith, length_is));
    } in
    let ready : IsReady s t.rtl e.operands = tile_is_ready d t x.scratches (length x.instances) row e s scene.placed sound in
    let at : (P : Effect → Type 0) → All P t.rtl.effects → P f = λ P all. (subst (AllByRecursion P) is_f (recursion_from_All P t.rtl.effects all)).0 in
    let names : EffectNames d.facts.word (kinds_of_tile (facts_of d) t) f = at (EffectNames d.facts.word (kinds_of_tile (facts_of d) t)) sound.names in
    let mine : EffectNamesOwn (facts_of d) f = at (EffectNamesOwn (facts_of d)) sound.cells in
    let tile : IsOne c f = record {
      good = effect_is_good c f scene (at (IsTypedEffect (context_of s)) ready.typed) (at (EffectFits (context_of s) e.operands) ready.fits) names mine;
      names = names;
      own = mine;
      guarded = at GuardedHasValues sound.guarded;
      apart = untouching f true (subst (λ es. (list_any effect_has_input es ≡ true) → list_any (λ (e : Effect). guard_has_load e.guard || (is_store e.to || has_load (tree_of e.value))) es ≡ false) is_f sound.input);
      trap = quietly f is_f;
    } in
    let goals_are : assignments_of t.rtl ≡ assignment_of f ∷ [] = ap (map assignment_of) is_f in
    let kept : KeepsRules (task_of d t bound) true (assignment_of f ∷ []) node derived.0 =
    subst (λ ys. KeepsRules (task_of d t bound) true ys node derived.0) goals_are (keeps_rules-of (task_of d t bound) true (assignments_of t.rtl) node derived.0 derived.1) in
    let own_is : own ≡ own_slot (assignment_of f ∷ []) = ap own_slot goals_are in
    let last_is : e.next (0 + length first) ≡ c.after = ap e.next (omega (arith, length_is)) in
    let does : Does c (outcome_of (record { effects = f ∷ [] }) e.operands c.after s) (run_lines c 0 x.instances (begun c)) =
    subst (λ o. Does c (outcome_of (record { effects = f ∷ [] }) e.operands c.after s) (run_lines c 0 (first_lines c o node children ++ (last_line c o node ∷ [])) (begun c))) (sym own_is)
    (tile_runs laws c bound f node children derived.0 scene tile running kept derived.2 (omega arith)
    (subst (λ o. e.next (0 + length (first_lines c o node children)) ≡ c.after) own_is last_is)) in (
      subst (λ es. DoesAs d x.scratches e (outcome_of (record { effects = es }) e.operands c.after s) (run_lines c 0 x.instances (begun c))) (sym is_f) does,
      (λ k below. subst (λ n. IsSome (run_of (take (suc k) (transfers_from d t e 0 x.instances)) (begun c)).state.ending ⊎ ((run_of (take (suc k) (transfers_from d t e 0 x.instances)) (begun c)).state.pc ≡ e.next n))
          (let same : 0 + k ≡ k = omega arith in same)
          (quiet_through d t e 0 first (last_line c own node) (begun c) k
          (forest_quiet laws d t bound children derived.0 (own_slots own node (node_slots m own 0 node)) (0 + node_scratches m node) derived.2 (needs_are_inner m node kept.pairs derived.0 kept.needs)) below)),
    )
  where
    length_after : (xs : List Line) (y : Line) → length (xs ++ (y ∷ [])) ≡ suc (length xs)
    length_after [] y = refl
    length_after (x ∷ xs) y = ap suc (length_after xs y)

-- the tile of one effect holds of the sequence of each valid derivation of it
pub one_effect_holds : Laws → (d : Description) (t : Tile) (bounds : Bounds) (derivation : Derivation) → IsValid d → Contains (tiles_of (facts_of d)) t → length t.rtl.effects ≡ 1 →
    IsValidDerivation d t bounds derivation → TileHolds d t (sequence_of d t derivation)
unfolding sequence_of
one_effect_holds laws d t bounds derivation valid listed one derived =
    let sound : IsSoundTile (context_of_description d) (facts_of d) t = All-contains (IsSoundTile (context_of_description d) (facts_of d)) (tiles_of (facts_of d)) t (description_tiles d valid) listed in
    let quietly : TrapsQuietly t = All-contains TrapsQuietly (tiles_of (facts_of d)) t (all_trap_quietly (facts_of d)) listed in
    let f = one_effect t.rtl.effects one in
    let tree : forest_of derivation ≡ Grow (node_of derivation) (children_under derivation) Empty = grows_of-tree derivation Empty in
    subst (λ forest. TileHolds d t (template_of d t forest)) (sym tree)
    (tree_holds laws d t bounds.laws (node_of derivation) (children_under derivation) f.0 valid sound quietly f.1
    (subst (λ forest. AreValid (task_of d t bounds.laws) (AsTile (assignments_of t.rtl) ∷ []) forest) tree derived.nodes))
