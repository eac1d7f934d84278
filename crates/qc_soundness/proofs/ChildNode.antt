-- A child's node: what its children leave, and then its line.
use Rattle.std.proofs.Common.{◌≡◌, ◌∙◌, ◌⊎◌, ◌+◌, ◌≤◌, ◌<◌, ◌^◌, ◌&&◌, ℕ, zero, suc, List, [], ◌∷◌, ◌++◌, map, true, false, count_by, Option, None, Some, nat_eq, slice_get, slice_index, inl, inr, refl, sym, ap, subst, arith}
use Rattle.std.specs.List.{AllByRecursion, list_all}
use Rattle.std.proofs.lemmas.List.Elements.{recursion_from_All}
use Rattle.std.proofs.lemmas.Option.{slice_get-map}
use Rattle.qc_lists.specs.Law.Lists.{each_of_append}
use Rattle.qc_terms.specs.declared.state.Event.{Event}
use Rattle.qc_terms.specs.declared.state.Event.TheVariants.{Trapped}
use Rattle.qc_terms.specs.declared.term.Effect.{Effect}
use Rattle.qc_terms.specs.declared.term.Place.{Place}
use Rattle.qc_terms.specs.Cells.{cell_of}
use Rattle.qc_terms.specs.Effects.{input_is_over, outcome_of}
use Rattle.qc_terms.specs.State.{context_of}
use Rattle.qc_terms.specs.Tree.{Tree, tree_of}
use Rattle.qc_terms.specs.Typing.{IsTypedEffect}
use Rattle.qc_descr.specs.declared.description.Instruction.{Instruction}
use Rattle.qc_descr.specs.Description.{context_of_description, kinds_of}
use Rattle.qc_descr.specs.Law.CodedBytes.{valid_at}
use Rattle.qc_descr.specs.Step.{Progress}
use Rattle.qc_descr.specs.Valid.{EffectNames}
use Rattle.qc_equations.specs.Alike.{AreAlike}
use Rattle.qc_code.specs.declared.template.Slot.{Slot}
use Rattle.qc_code.specs.Running.{Transfer, goes_on, with_outcome}
use Rattle.qc_derivations.specs.Forest.{Node}
use Rattle.qc_derivations.specs.Goals.{Need, gets}
use Rattle.qc_derivations.specs.Machine.{Assignment, Form, Machine, ToPlace, assignment_of, form_of, machine_of}
use Rattle.qc_derivations.specs.Matching.{Pair, all_pairs, meets}
use Rattle.qc_derivations.specs.Nodes.{child_needs, flag_need, is_allowed, is_met_once, takes_one_input, task_of}
use Rattle.qc_derivations.specs.Rules.{flag_pair}
use Rattle.qc_derivations.specs.Same.{inputs_in}
use Rattle.qc_derivations.specs.Sequence.{assignments_in, kinds_in, node_scratches, node_slots, own_slots, scratches_from, slots_from}
use Rattle.qc_soundness.proofs.ChildLine.{line_writes, own_index, own_space}
use Rattle.qc_soundness.proofs.ChildStep.{Faults, HasGone, HasTrapped, IsOwnScratch, IsStep, IsTarget, IsTouched, child_step}
use Rattle.qc_soundness.proofs.ForestRuns.{ForestComes, HasStopped, outer_is_beyond}
use Rattle.qc_soundness.proofs.Goals.{KeepsRules, Laws, child_goal}
use Rattle.qc_soundness.proofs.LeafValues.{AreHeld, NodeLine, Suits, line_high, line_operands, line_slots}
use Rattle.qc_soundness.proofs.Needs.{IsReached, inputs_needed}
use Rattle.qc_soundness.proofs.NodeChildren.{IsInner, inner_is, value_pairs}
use Rattle.qc_soundness.proofs.Optional.{and_both, le_from, map_parts, numbers}
use Rattle.qc_soundness.proofs.Patterns.{inputs_meet, inputs_met, inputs_none, inputs_some, value_at}
use Rattle.qc_soundness.proofs.Scene.{IsBeyond, IsGood, IsOuter, IsScene, Scene, at_front, beyond-less, good-alike}
use Rattle.qc_soundness.proofs.Single.{IsSingle, count_met, single}
use Rattle.qc_soundness.proofs.Writes.{AreKept, kept-less, kept-trans}

-- ---- goals that are alike

pub same_value : (c : Scene) (v u : Tree) → IsScene c → IsGood c v → AreAlike v u → value_at u (at_front c) ≡ value_at v (at_front c)
same_value c v u is good alike =
    alike.value (context_of c.start) c.e.operands c.after c.start good.typed is.placed.state.state refl good.fits
    (subst (λ f. c.after < 2 ^ f.word) (sym is.placed.state.facts) is.after)

pub alike_fault : (c : Scene) (v u : Tree) (code : ℕ) → IsScene c → IsGood c v → AreAlike v u → Faults c code u → Faults c code v
alike_fault c v u code is good alike (inl over) = inl (over.0, sym alike.input ∙ over.1, over.2)
alike_fault c v u code is good alike (inr none) = inr (none.0, sym (same_value c v u is good alike) ∙ none.1)

pub same_inputs : (v u : Tree) → AreAlike v u → inputs_in v ≤ 1 → inputs_in u ≤ 1 → inputs_in u ≡ inputs_in v
same_inputs v u alike few less = go (inputs_in v) refl
  where
    go : (n : ℕ) → inputs_in v ≡ n → inputs_in u ≡ n
    go zero none = inputs_none u (alike.input ∙ inputs_some v none)
    go (suc n) some = by (inputs_in u) refl
      where
        by : (m : ℕ) → inputs_in u ≡ m → inputs_in u ≡ suc n
        by zero nothing = absurd (let it = inputs_none v (sym alike.input ∙ inputs_some u nothing) in omega (arith, it, some))
        by (suc m) more = omega (arith, more, some, few, less)

-- ---- a node

abbrev pub node_line : Node → Form → List Pair → Slot → ℕ → NodeLine
node_line node form pairs own low = record { root = false; form = form; stands = node.stands; pairs = pairs; own = own; scratch = low }

pub record IsChildNode (c : Scene) (l : NodeLine) (to : Place) (v : Tree) (node : Node) (inner : List Need) : Type 0 where
  pub u : Tree
  pub alike : AreAlike v u
  pub i : Instruction
  pub is_i : slice_get c.d.instructions node.instruction ≡ Some i
  pub slots : node_slots (machine_of c.d) l.own l.scratch node ≡ line_slots c l
  pub scratches : l.scratch + node_scratches (machine_of c.d) node ≡ line_high c l
  pub inner_is : IsInner c l (IsOwnScratch l to) (λ code. Faults c code u) inner (own_slots l.own node (line_slots c l))
  pub inputs : inputs_in u ≡ inputs_in v
  pub met : inputs_met l.pairs ≤ inputs_in u
  pub step : (after : ℕ) (p : Progress) → AreKept (IsOuter c) c.start p.state → p.state.ending ≡ None → AreHeld c l p.state →
      (1 ≤ inputs_in u → inputs_met l.pairs ≡ 0 → p.state.taken ≡ c.start.taken) →
      IsStep c l to u p (with_outcome p (outcome_of i.rtl (line_operands c l) after p.state))

pub child_node : Laws → (c : Scene) (bound : ℕ) (node : Node) (inner : List Need) (to : Place) (v : Tree) (own : Slot) (low : ℕ) → IsScene c →
    (kept : KeepsRules (task_of c.d c.t bound) false (gets (ToPlace to) v ∷ []) node inner) →
    IsTarget c (node_line node kept.form kept.pairs own low) to → IsGood c v → inputs_in v ≤ 1 → line_high c (node_line node kept.form kept.pairs own low) ≤ c.count → low ≤ c.count →
    IsChildNode c (node_line node kept.form kept.pairs own low) to v node inner
child_node laws c bound node inner to v own low is kept target good few high below =
    let goal = child_goal laws node.steps (ToPlace to) v kept.rewritten kept.is_rewritten in
    let form = map_parts form_of (slice_get c.d.instructions node.instruction) kept.form (sym (slice_get-map form_of c.d.instructions node.instruction) ∙ kept.is_form) in
    let needs = map_parts (λ (ns : List Need). ns ++ flag_need (flag_pair (machine_of c.d) kept.pairs)) (child_needs 0 node.stands kept.pairs) inner kept.needs in
    built goal.0 goal.1 goal.2 form.0 form.1 form.2 needs.0 needs.1 needs.2
  where
    built : (u : Tree) → kept.rewritten ≡ gets (ToPlace to) u ∷ [] → AreAlike v u → (i : Instruction) → slice_get c.d.instructions node.instruction ≡ Some i → form_of i ≡ kept.form →
        (regs : List Need) → child_needs 0 node.stands kept.pairs ≡ Some regs → regs ++ flag_need (flag_pair (machine_of c.d) kept.pairs) ≡ inner →
        IsChildNode c (node_line node kept.form kept.pairs own low) to v node inner
    built u goals alike i is_i is_form regs needs whole =
        let m : Machine = machine_of c.d in
        let l : NodeLine = node_line node kept.form kept.pairs own low in
        let goal : Assignment = gets (ToPlace to) u in
        let es : List Effect = i.rtl.effects in
        let listed : l.form.assignments ≡ map assignment_of es = ap (λ (f : Form). f.assignments) (sym is_form) in
        let pairs : all_pairs false l.stands (goal ∷ []) (map assignment_of es) ≡ Some l.pairs =
        subst (λ gs. all_pairs false node.stands gs (map assignment_of es) ≡ Some kept.pairs) goals
        (subst (λ ys. all_pairs false node.stands kept.rewritten ys ≡ Some kept.pairs) listed kept.are_pairs) in
        let met_once : (nat_eq (count_by (λ (a : Assignment). meets false node.stands (ToPlace to) a.to) kept.form.assignments) 1 && true) ≡ true =
        subst (λ gs. list_all (is_met_once false node.stands kept.form.assignments) gs ≡ true) goals kept.met_once in
        let once : count_met false l.stands goal es ≡ 1 =
        subst (λ ys. count_by (λ (a : Assignment). meets false node.stands (ToPlace to) a.to) ys ≡ 1) listed
        (numbers (count_by (λ (a : Assignment). meets false node.stands (ToPlace to) a.to) kept.form.assignments) 1
        (and_both (nat_eq (count_by (λ (a : Assignment). meets false node.stands (ToPlace to) a.to) kept.form.assignments) 1) true met_once).0) in
        let allowed : list_all (is_allowed m false l.stands (goal ∷ [])) (map assignment_of es) ≡ true =
        subst (λ gs. list_all (is_allowed m false node.stands gs) (map assignment_of es) ≡ true) goals
        (subst (λ ys. list_all (is_allowed m false node.stands kept.rewritten) ys ≡ true) listed kept.allowed) in
        let one : IsSingle false l.stands goal es l.pairs = single false l.stands goal es l.pairs pairs once in
        let valid = valid_at c.d node.instruction i is.placed.valid is_i in
        let names : AllByRecursion (EffectNames c.d.facts.word l.form.kinds) es =
        subst (λ (f : Form). AllByRecursion (EffectNames c.d.facts.word f.kinds) es) is_form
        (recursion_from_All (EffectNames c.d.facts.word (kinds_of i)) es valid.names) in
        let typed : AllByRecursion (IsTypedEffect (context_of_description c.d)) es = recursion_from_All (IsTypedEffect (context_of_description c.d)) es valid.typed in
        let typed_this : IsTypedEffect (context_of_description c.d) one.this =
        (each_of_append (IsTypedEffect (context_of_description c.d)) one.before (one.this ∷ one.behind) (subst (AllByRecursion (IsTypedEffect (context_of_description c.d))) one.is typed)).1.0 in
        let suits : Suits c l = kept.operands in
        let fine : IsGood c u = good-alike c v u alike good in
        let u_few : inputs_in u ≤ 1 = once_input u (subst (λ gs. takes_one_input gs ≡ true) goals kept.input) in
        let inputs : inputs_in u ≡ inputs_in v = same_inputs v u alike few u_few in
        let met_few : inputs_met l.pairs ≤ inputs_in u =
        (let it = inputs_meet false (tree_of one.this.value) u l.pairs (value_pairs l.stands to u one.this l.pairs one.this_meets one.are_pairs) in omega (arith, it)) in
        record {
          u = u;
          alike = alike;
          i = i;
          is_i = is_i;
          slots = slots_are kept.is_form;
          scratches = scratches_are kept.is_form;
          inner_is = subst (λ ns. IsInner c l (IsOwnScratch l to) (λ code. Faults c code u) ns (own_slots l.own node (line_slots c l))) whole
              (inner_is c is l suits to target u fine es listed one allowed typed_this.value kept.leaves high regs needs node.flag (flag_pair m l.pairs) refl kept.flag);
          inputs = inputs;
          met = met_few;
          step = λ after p keeps running held untaken.
              child_step c l to u i.rtl after p is target high below keeps running untaken u_few
              (line_writes c is l suits p.state after keeps held kept.leaves to u fine u_few
              (λ some none. ap (λ xs. slice_index xs p.state.taken) keeps.input ∙ ap (slice_index c.start.input) (untaken some none)) es listed names pairs once allowed);
        }
      where
        once_input : (u : Tree) → takes_one_input (gets (ToPlace to) u ∷ []) ≡ true → inputs_in u ≤ 1
        once_input u takes = let it = le_from (0 + (0 + (0 + inputs_in u))) 1 takes in omega (arith, it)

        slots_are : slice_get (machine_of c.d).forms node.instruction ≡ Some kept.form →
            node_slots (machine_of c.d) own low node ≡ slots_from (machine_of c.d) kept.form.assignments kept.form.kinds own 0 low node.stands
        slots_are is_form = ap (λ f. slots_from (machine_of c.d) (assignments_in f) (kinds_in f) own 0 low node.stands) is_form

        scratches_are : slice_get (machine_of c.d).forms node.instruction ≡ Some kept.form →
            low + node_scratches (machine_of c.d) node ≡ low + scratches_from (machine_of c.d) kept.form.assignments 0 node.stands
        scratches_are is_form = ap (λ f. low + scratches_from (machine_of c.d) (assignments_in f) 0 node.stands) is_form

-- ---- children, and then the line

pub record NodeStopped (c : Scene) (v : Tree) (code : ℕ) (p q : Progress) : Type 0 where
  pub fault : Faults c code v
  pub ending : q.state.ending ≡ Some (Trapped code)
  pub kept : AreKept (IsOuter c) p.state q.state
  pub taken : (inputs_in v ≡ 0) ⊎ (code ≡ 5) → q.state.taken ≡ p.state.taken
  pub output : q.output ≡ p.output

pub record NodeRun (c : Scene) (l : NodeLine) (to : Place) (v : Tree) (high : ℕ) (p q : Progress) : Type 0 where
  pub ending : q.state.ending ≡ None
  pub kept : AreKept (IsBeyond c (λ k. ((l.scratch ≤ k) × (k < high)) ⊎ IsOwnScratch l to k)) p.state q.state
  pub taken : q.state.taken ≡ p.state.taken + inputs_in v
  pub set : value_at v (at_front c) ≡ Some (cell_of q.state.cells (own_space c to) (own_index c l to))
  pub over : 1 ≤ inputs_in v → input_is_over c.start ≡ false
  pub output : q.output ≡ p.output

abbrev pub NodeComes : Scene → NodeLine → Place → Tree → ℕ → Progress → Progress → Type 0
NodeComes c l to v high p q = ((code : ℕ) × NodeStopped c v code p q) ⊎ NodeRun c l to v high p q

pub node_runs : (c : Scene) (l : NodeLine) (to : Place) (v : Tree) (node : Node) (inner : List Need) (high after : ℕ) (p r : Progress) → IsScene c → IsGood c v → inputs_in v ≤ 1 →
    line_high c l ≤ high → high ≤ c.count → l.scratch ≤ line_high c l → IsTarget c l to → (is : IsChildNode c l to v node inner) → AreKept (IsOuter c) c.start p.state →
    (1 ≤ inputs_in v → p.state.taken ≡ c.start.taken) → ForestComes c inner (own_slots l.own node (line_slots c l)) (line_high c l) high p r →
    NodeComes c l to v high p (goes_on r.state.ending (record { rtl = is.i.rtl; operands = line_operands c l; after = after }) r)
node_runs c l to v node inner high after p r scene good few within count low target is before untaken (inl stopped) =
    let stop : HasStopped c inner stopped.0 p r = stopped.1 in
    let x : Transfer = record { rtl = is.i.rtl; operands = line_operands c l; after = after } in
    subst (λ (e : Option Event). NodeComes c l to v high p (goes_on e x r)) (sym stop.ending)
    (inl (
      stopped.0,
      record {
        fault = alike_fault c v is.u stopped.0 scene good is.alike (is.inner_is.fault stopped.0 stop.fault);
        ending = stop.ending;
        kept = stop.kept;
        taken = λ when. stop.taken (elim when [
          | inl none ↦ inl (omega (arith, none, is.inputs, is.met, is.inner_is.at_most))
          | inr five ↦ inr five
        ]);
        output = stop.output;
      },
    ))
node_runs c l to v node inner high after p r scene good few within count low target is before untaken (inr run) =
    let x : Transfer = record { rtl = is.i.rtl; operands = line_operands c l; after = after } in
    let q : Progress = with_outcome r (outcome_of is.i.rtl (line_operands c l) after r.state) in
    let owns : List Slot = own_slots l.own node (line_slots c l) in
    let outer : AreKept (IsOuter c) p.state r.state =
    kept-less (IsBeyond c (IsReached inner owns (line_high c l) high)) (IsOuter c) p.state r.state
    (λ space index. outer_is_beyond c inner owns (line_high c l) (line_high c l) high space index is.inner_is.suit (omega (arith, within, count)) count) run.kept in
    let keeps : AreKept (IsOuter c) c.start r.state = kept-trans (IsOuter c) c.start p.state r.state before outer in
    let held : AreHeld c l r.state = is.inner_is.held r.state (keeps.facts ∙ scene.placed.state.facts) run.held in
    let step : IsStep c l to is.u r q = is.step after r keeps run.ending held
    (λ some none. run.taken ∙ (let it = untaken (omega (arith, some, is.inputs)) in omega (arith, it, none, is.inner_is.at_most))) in
    subst (λ (e : Option Event). NodeComes c l to v high p (goes_on e x r)) (sym run.ending)
    (elim step.comes [
      | inl trap ↦ inl (trap.0, stopped_here step trap.0 trap.1 trap.2 outer)
      | inr gone ↦ inr (gone_here step gone.0 gone.1)
    ])
  where
    equal_inputs : inputs_met l.pairs ≡ inputs_needed inner
    equal_inputs = go (inputs_needed inner) refl
      where
        go : (n : ℕ) → inputs_needed inner ≡ n → inputs_met l.pairs ≡ inputs_needed inner
        go zero none = is.inner_is.at_least none ∙ sym none
        go (suc n) some = omega (arith, some, is.inner_is.at_most, is.met, is.inputs, few)

    stopped_here : IsStep c l to is.u r (with_outcome r (outcome_of is.i.rtl (line_operands c l) after r.state)) → (code : ℕ) → Faults c code is.u →
        HasTrapped code r (with_outcome r (outcome_of is.i.rtl (line_operands c l) after r.state)) → AreKept (IsOuter c) p.state r.state →
        NodeStopped c v code p (with_outcome r (outcome_of is.i.rtl (line_operands c l) after r.state))
    stopped_here step code fault trap outer = record {
      fault = alike_fault c v is.u code scene good is.alike fault;
      ending = trap.ending;
      kept = kept-trans (IsOuter c) p.state r.state (with_outcome r (outcome_of is.i.rtl (line_operands c l) after r.state)).state outer
          (kept-less (λ space index. Unit {0}) (IsOuter c) r.state (with_outcome r (outcome_of is.i.rtl (line_operands c l) after r.state)).state (λ space index is. tt) trap.kept);
      taken = λ when. trap.taken ∙ run.taken ∙ go when;
      output = trap.output ∙ run.output;
    }
      where
        none_taken : (n : ℕ) → inputs_needed inner ≡ n → code ≡ 5 → r.state.taken ≡ r.state.taken → p.state.taken + inputs_needed inner ≡ p.state.taken
        none_taken zero none five same = omega (arith, none)
        none_taken (suc n) some five same = absurd (elim fault [
          | inl over ↦ let no : true ≡ false = sym over.2 ∙ run.over (omega (arith, some)) in cc no
          | inr one ↦ omega (arith, one.0, five)
        ])

        go : (inputs_in v ≡ 0) ⊎ (code ≡ 5) → p.state.taken + inputs_needed inner ≡ p.state.taken
        go (inl none) = omega (arith, none, is.inputs, is.met, is.inner_is.at_most)
        go (inr five) = none_taken (inputs_needed inner) refl five refl

    gone_here : (step : IsStep c l to is.u r (with_outcome r (outcome_of is.i.rtl (line_operands c l) after r.state))) →
        HasGone c l to is.u step.inputs r (with_outcome r (outcome_of is.i.rtl (line_operands c l) after r.state)) → (1 ≤ step.inputs → input_is_over c.start ≡ false) →
        NodeRun c l to v high p (with_outcome r (outcome_of is.i.rtl (line_operands c l) after r.state))
    gone_here step gone over =
        let q : Progress = with_outcome r (outcome_of is.i.rtl (line_operands c l) after r.state) in
        let Both : ℕ → Type 0 = λ k. ((l.scratch ≤ k) × (k < high)) ⊎ IsOwnScratch l to k in
        let owns : List Slot = own_slots l.own node (line_slots c l) in
        record {
          ending = gone.ending;
          kept = kept-trans (IsBeyond c Both) p.state r.state q.state
              (kept-less (IsBeyond c (IsReached inner owns (line_high c l) high)) (IsBeyond c Both) p.state r.state
              (λ space index. beyond-less c Both (IsReached inner owns (line_high c l) high) space index (λ k reached. below k reached)) run.kept)
              (kept-less (IsBeyond c (IsTouched c l to)) (IsBeyond c Both) r.state q.state
              (λ space index. beyond-less c Both (IsTouched c l to) space index (λ k touched. mine k touched)) gone.kept);
          taken = gone.taken ∙ (let it = run.taken in omega (arith, it, step.counted, equal_inputs, is.inputs));
          set = sym (same_value c v is.u scene good is.alike) ∙ gone.set;
          over = λ some. over_here step.inputs refl (omega (arith, some, step.counted, equal_inputs, is.inputs));
          output = gone.output ∙ run.output;
        }
      where
        mine : (k : ℕ) → IsTouched c l to k → ((l.scratch ≤ k) × (k < high)) ⊎ IsOwnScratch l to k
        mine k (inl between) = inl (between.0, omega (arith, between.1, within))
        mine k (inr own) = inr own

        below : (k : ℕ) → IsReached inner (own_slots l.own node (line_slots c l)) (line_high c l) high k → ((l.scratch ≤ k) × (k < high)) ⊎ IsOwnScratch l to k
        below k (inl between) = inl (omega (arith, between.0, low), between.1)
        below k (inr end) = mine k (is.inner_is.ends k end)

        over_here : (n : ℕ) → step.inputs ≡ n → 1 ≤ step.inputs + inputs_needed inner → input_is_over c.start ≡ false
        over_here zero none some = run.over (omega (arith, none, some))
        over_here (suc n) more some = over (omega (arith, more))
