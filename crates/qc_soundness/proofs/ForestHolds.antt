-- The lines of a valid forest leave what is needed where it is needed, or trap where a need does.
use Rattle.std.proofs.Common.{◌≡◌, ◌∙◌, ◌⊎◌, ◌+◌, ◌≤◌, ◌<◌, ℕ, suc, List, [], ◌∷◌, ◌++◌, length, map, false, Some, slice_get, inl, inr, refl, sym, ap, subst, arith}
use Rattle.std.specs.List.{AllByRecursion}
use Rattle.qc_terms.specs.declared.state.Event.TheVariants.{Trapped}
use Rattle.qc_terms.specs.declared.term.Place.{Place}
use Rattle.qc_terms.specs.declared.term.Place.TheVariants as place
use Rattle.qc_terms.specs.declared.term.Rtl.{Rtl}
use Rattle.qc_terms.specs.Cells.{cell_of}
use Rattle.qc_descr.specs.Step.{Progress}
use Rattle.qc_code.specs.declared.template.Slot.{Slot}
use Rattle.qc_code.specs.Running.{Transfer, goes_on, run_of}
use Rattle.qc_code.specs.Setting.{Line, line_rtl, rtl_of, slot_value, transfer_of, transfers_from}
use Rattle.qc_code.specs.Law.Running.{run_of-append, run_of-ended, transfers_from-append}
use Rattle.qc_derivations.specs.Forest.{Empty, Forest, Grow, Node}
use Rattle.qc_derivations.specs.Goals.{AsTile, InFlag, InRegister, Need, gets}
use Rattle.qc_derivations.specs.Machine.{Form, Machine, ToPlace, machine_of}
use Rattle.qc_derivations.specs.Matching.{Pair}
use Rattle.qc_derivations.specs.Nodes.{Task, children_of, task_of}
use Rattle.qc_derivations.specs.Same.{inputs_in}
use Rattle.qc_derivations.specs.Sequence.{assignments_in, lines_of, node_scratches, node_slots, own_slots, scratches_from, scratches_of}
use Rattle.qc_derivations.specs.Valid.{AreValid}
use Rattle.qc_soundness.proofs.ChildLine.{own_index, own_space}
use Rattle.qc_soundness.proofs.ChildNode.{IsChildNode, NodeComes, NodeStopped, child_node, node_line, node_runs}
use Rattle.qc_soundness.proofs.ChildStep.{IsOwnScratch, IsTarget}
use Rattle.qc_soundness.proofs.ForestRuns.{ForestComes, IsBefore, join}
use Rattle.qc_soundness.proofs.Goals.{KeepsRules, Laws, keeps_rules-of}
use Rattle.qc_soundness.proofs.LeafValues.{NodeLine, line_high, line_operands, line_slots}
use Rattle.qc_soundness.proofs.Needs.{HeldAt, IsReached, NeedHolds, SuitAll, SuitsOne, inputs_needed, needed}
use Rattle.qc_soundness.proofs.Patterns.{value_at}
use Rattle.qc_soundness.proofs.Scene.{IsBeyond, IsGood, IsScene, Scene, at_front, beyond-less}
use Rattle.qc_soundness.proofs.Writes.{kept-less, kept-refl}

-- the lines, of which the first has this number, from where a run is
abbrev pub run_lines : Scene → ℕ → List Line → Progress → Progress
run_lines c k lines p = run_of (transfers_from c.d c.t c.e k lines) p

-- lines, then a line, and then others
pub run_apart : (c : Scene) (k : ℕ) (first : List Line) (line : Line) (rest : List Line) (p : Progress) →
    run_lines c k (first ++ (line ∷ rest)) p
    ≡ run_lines c (suc (k + length first)) rest
    (goes_on (run_lines c k first p).state.ending (transfer_of c.d c.t c.e (c.e.next (k + length first)) line) (run_lines c k first p))
run_apart c k first line rest p =
    ap (λ xs. run_of xs p) (transfers_from-append c.d c.t c.e k first (line ∷ rest))
    ∙ run_of-append (transfers_from c.d c.t c.e k first) (transfers_from c.d c.t c.e (k + length first) (line ∷ rest)) p

-- no needs, no lines
none_runs : (c : Scene) (task : Task) (ns : List Need) (rest : Forest) (os : List Slot) (low k : ℕ) (p : Progress) → AreValid task ns rest → ns ≡ [] →
    run_lines c k (lines_of (machine_of c.d) rest os low) p ≡ p
none_runs c task [] Empty os low k p valid none = refl
none_runs c task [] (Grow node children rest) os low k p valid none = absurd valid
none_runs c task (n ∷ ns) rest os low k p valid none = absurd (cc none)

-- ---- one tree

-- where a need's value goes
abbrev pub place_needed : Need → Place
place_needed (InRegister v) = place.Operand 0 0
place_needed (InFlag space index v) = place.Cell space index
place_needed (AsTile assignments) = place.Operand 0 0

need_target : (c : Scene) (n : Need) (node : Node) (form : Form) (pairs : List Pair) (o : Slot) (low : ℕ) (ns : List Need) → SuitsOne c n o low ns →
    IsTarget c (node_line node form pairs o low) (place_needed n)
need_target c (InRegister v) node form pairs o low ns suit = suit
need_target c (InFlag space index v) node form pairs o low ns suit = (suit.0, suit.1)
need_target c (AsTile assignments) node form pairs o low ns suit = absurd suit

-- what a node comes to, as a forest of one tree
as_forest : (c : Scene) (n : Need) (node : Node) (form : Form) (pairs : List Pair) (o : Slot) (low high : ℕ) (ns : List Need) (p q : Progress) → SuitsOne c n o low ns →
    NodeComes c (node_line node form pairs o low) (place_needed n) (needed n) high p q → ForestComes c (n ∷ []) (o ∷ []) low high p q
as_forest c n node form pairs o low high ns p q suit (inl stopped) =
    let stop : NodeStopped c (needed n) stopped.0 p q = stopped.1 in
    inl (
      stopped.0,
      record {
        fault = inl stop.fault;
        ending = stop.ending;
        kept = stop.kept;
        taken = λ when. stop.taken (elim when [ inl none ↦ inl (omega (arith, none)) | inr five ↦ inr five ]);
        output = stop.output;
      },
    )
as_forest c n node form pairs o low high ns p q suit (inr run) =
    let l : NodeLine = node_line node form pairs o low in
    let Touched : ℕ → Type 0 = λ k. ((low ≤ k) × (k < high)) ⊎ IsOwnScratch l (place_needed n) k in
    inr (record {
      ending = run.ending;
      kept = kept-less (IsBeyond c Touched) (IsBeyond c (IsReached (n ∷ []) (o ∷ []) low high)) p.state q.state
          (λ space index. beyond-less c (IsReached (n ∷ []) (o ∷ []) low high) Touched space index (λ k touched. go n suit k touched)) run.kept;
      taken = run.taken ∙ (omega arith);
      held = (set n suit run.set, tt);
      over = λ some. run.over (omega (arith, some));
      output = run.output;
    })
  where
    go : (n : Need) → SuitsOne c n o low ns → (k : ℕ) → ((low ≤ k) × (k < high)) ⊎ IsOwnScratch (node_line node form pairs o low) (place_needed n) k → IsReached (n ∷ []) (o ∷ []) low high k
    go n suit k (inl between) = inl between
    go (InRegister v) suit k (inr own) = inr (inl own)
    go (InFlag space index v) suit k (inr own) = absurd own
    go (AsTile a) suit k (inr own) = absurd suit

    set : (n : Need) → SuitsOne c n o low ns → value_at (needed n) (at_front c) ≡ Some (cell_of q.state.cells (own_space c (place_needed n)) (own_index c (node_line node form pairs o low) (place_needed n))) →
        HeldAt c n o q.state
    set (InRegister v) suit holds = holds
    set (InFlag space index v) suit holds = holds
    set (AsTile a) suit holds = absurd suit

scratches_are : (m : Machine) (node : Node) (form : Form) → slice_get m.forms node.instruction ≡ Some form → (o : Slot) (low : ℕ) →
    low + node_scratches m node ≡ low + scratches_from m form.assignments 0 node.stands
scratches_are m node form is o low = ap (λ f. low + scratches_from m (assignments_in f) 0 node.stands) is

line_is : (c : Scene) (after : ℕ) (node : Node) (l : NodeLine) (rtl : Rtl) (slots : List Slot) → line_rtl c.d (node.instruction, slots) ≡ rtl → slots ≡ line_slots c l →
    record { rtl = rtl; operands = line_operands c l; after = after } ≡ transfer_of c.d c.t c.e after (node.instruction, slots)
line_is c after node l rtl slots same equal =
    let one : record { rtl = rtl; operands = line_operands c l; after = after } ≡ record { rtl = line_rtl c.d (node.instruction, slots); operands = line_operands c l; after = after } =
    ap (λ (x : Rtl). let t : Transfer = record { rtl = x; operands = line_operands c l; after = after } in t) (sym same) in
    one ∙ ap (λ xs. let t : Transfer = record { rtl = line_rtl c.d (node.instruction, slots); operands = map (slot_value c.t c.e) xs; after = after } in t) (sym equal)

suits_more : (c : Scene) (ns : List Need) (os : List Slot) (low high : ℕ) → SuitAll c ns os low → low ≤ high → SuitAll c ns os high
suits_more c [] [] low high suit less = tt
suits_more c [] (o ∷ os) low high suit less = absurd suit
suits_more c (n ∷ ns) [] low high suit less = absurd suit
suits_more c (InRegister v ∷ ns) (o ∷ os) low high suit less = ((suit.0.0, suit.0.1, omega (arith, suit.0.2, less)), suit.1, suits_more c ns os low high suit.2 less)
suits_more c (InFlag s i v ∷ ns) (o ∷ os) low high suit less = (suit.0, suit.1, suits_more c ns os low high suit.2 less)
suits_more c (AsTile a ∷ ns) (o ∷ os) low high suit less = absurd suit.0

-- ---- all trees

pub forest_runs : Laws → (c : Scene) (bound : ℕ) → IsScene c → (forest : Forest) (ns : List Need) (os : List Slot) (low k : ℕ) (p : Progress) → AreValid (task_of c.d c.t bound) ns forest →
    SuitAll c ns os low → low + scratches_of (machine_of c.d) forest ≤ c.count → AllByRecursion (NeedHolds (IsGood c)) ns → inputs_needed ns ≤ 1 → IsBefore c ns p →
    ForestComes c ns os low (low + scratches_of (machine_of c.d) forest) p (run_lines c k (lines_of (machine_of c.d) forest os low) p)
forest_runs laws c bound is Empty [] os low k p valid suit count good few before =
    inr (record {
      ending = before.running;
      kept = kept-refl (IsBeyond c (IsReached [] os low (low + 0))) p.state;
      taken = omega arith;
      held = tt;
      over = λ some. absurd (omega (arith, some));
      output = refl;
    })
forest_runs laws c bound is Empty (n ∷ ns) os low k p valid suit count good few before = absurd valid
forest_runs laws c bound is (Grow node children rest) [] os low k p valid suit count good few before = absurd valid
forest_runs laws c bound is (Grow node children rest) (n ∷ ns) [] low k p valid suit count good few before = absurd suit
forest_runs laws c bound is (Grow node children rest) (n ∷ ns) (o ∷ os) low k p valid suit count good few before =
    let m : Machine = machine_of c.d in
    let inner : List Need = valid.0 in
    let kept : KeepsRules (task_of c.d c.t bound) false (gets (ToPlace (place_needed n)) (needed n) ∷ []) node inner = rules n suit.0 valid.1 in
    let l : NodeLine = node_line node kept.form kept.pairs o low in
    let target : IsTarget c l (place_needed n) = need_target c n node kept.form kept.pairs o low ns suit.0 in
    let own_scratches : low + node_scratches m node ≡ line_high c l = scratches_are m node kept.form kept.is_form o low in
    let below : line_high c l ≤ c.count = omega (arith, count, own_scratches) in
    let one : IsChildNode c l (place_needed n) (needed n) node inner =
    child_node laws c bound node inner (place_needed n) (needed n) o low is kept target good.0 (omega (arith, few)) below (omega (arith, count)) in
    let owns : List Slot = own_slots o node (line_slots c l) in
    let same_owns : own_slots o node (node_slots m o low node) ≡ owns = ap (own_slots o node) one.slots in
    let first : List Line = lines_of m children (own_slots o node (node_slots m o low node)) (low + node_scratches m node) in
    let first_is : first ≡ lines_of m children owns (line_high c l) =
    ap (λ xs. lines_of m children xs (low + node_scratches m node)) same_owns ∙ ap (lines_of m children owns) own_scratches in
    let middle : Progress = run_lines c k first p in
    let mid : ℕ = low + (node_scratches m node + scratches_of m children) in
    let after : ℕ = c.e.next (k + length first) in
    let r : Progress = goes_on middle.state.ending (transfer_of c.d c.t c.e after (node.instruction, node_slots m o low node)) middle in
    let later : List Line = lines_of m rest os mid in
    let q : Progress = run_lines c (suc (k + length first)) later r in
    let whole : run_lines c k (lines_of m (Grow node children rest) (o ∷ os) low) p ≡ q = run_apart c k first (node.instruction, node_slots m o low node) later p in
    let inner_few : inputs_needed inner ≤ inputs_in (needed n) = (let a = one.inner_is.at_most in let b = one.met in let d = one.inputs in omega (arith, a, b, d)) in
    let inside : ForestComes c inner owns (line_high c l) (line_high c l + scratches_of m children) p middle =
    subst (λ xs. ForestComes c inner owns (line_high c l) (line_high c l + scratches_of m children) p (run_lines c k xs p)) (sym first_is)
    (forest_runs laws c bound is children inner owns (line_high c l) k p valid.2 one.inner_is.suit (omega (arith, count, own_scratches)) one.inner_is.good (omega (arith, inner_few, few))
    (record { kept = before.kept; running = before.running; untaken = λ some. before.untaken (omega (arith, some, inner_few)) })) in
    let mid_is : line_high c l + scratches_of m children ≡ mid = omega (arith, own_scratches) in
    let node_comes : NodeComes c l (place_needed n) (needed n) mid p (goes_on middle.state.ending (record { rtl = one.i.rtl; operands = line_operands c l; after = after }) middle) =
    node_runs c l (place_needed n) (needed n) node inner mid after p middle is good.0 (omega (arith, few)) (omega (arith, mid_is)) (omega (arith, count)) (omega arith) target one before.kept
    (λ some. before.untaken (omega (arith, some))) (subst (λ h. ForestComes c inner owns (line_high c l) h p middle) mid_is inside) in
    let same_line : goes_on middle.state.ending (record { rtl = one.i.rtl; operands = line_operands c l; after = after }) middle ≡ r =
    ap (λ (x : Transfer). goes_on middle.state.ending x middle) (line_is c after node l one.i.rtl (node_slots m o low node) (ap rtl_of one.is_i) one.slots) in
    let tree : ForestComes c (n ∷ []) (o ∷ []) low mid p r =
    as_forest c n node kept.form kept.pairs o low mid ns p r suit.0 (subst (λ x. NodeComes c l (place_needed n) (needed n) mid p x) same_line node_comes) in
    let high : ℕ = low + scratches_of m (Grow node children rest) in
    let high_is : mid + scratches_of m rest ≡ high = omega arith in
    subst (λ x. ForestComes c (n ∷ ns) (o ∷ os) low high p x) (sym whole)
    (join c n o ns os low mid high p r q is suit (omega arith) (omega (arith, high_is)) count few before tree
    (λ code ended. run_of-ended (transfers_from c.d c.t c.e (suc (k + length first)) later) r (Trapped code) ended)
    (λ none. none_runs c (task_of c.d c.t bound) ns rest os mid (suc (k + length first)) r valid.3 none)
    (λ next. subst (λ h. ForestComes c ns os mid h r q) high_is
    (forest_runs laws c bound is rest ns os mid (suc (k + length first)) r valid.3 (suits_more c ns os low mid suit.2 (omega arith)) (omega (arith, count)) good.1 (omega (arith, few)) next)))
  where
    rules : (n : Need) → SuitsOne c n o low ns → children_of (task_of c.d c.t bound) n node ≡ Some valid.0 →
        KeepsRules (task_of c.d c.t bound) false (gets (ToPlace (place_needed n)) (needed n) ∷ []) node valid.0
    rules (InRegister v) suit e = keeps_rules-of (task_of c.d c.t bound) false (gets (ToPlace (place.Operand 0 0)) v ∷ []) node valid.0 e
    rules (InFlag space index v) suit e = keeps_rules-of (task_of c.d c.t bound) false (gets (ToPlace (place.Cell space index)) v ∷ []) node valid.0 e
    rules (AsTile a) suit e = absurd suit
