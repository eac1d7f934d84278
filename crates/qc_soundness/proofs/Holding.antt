-- What children have computed is where the node's line reads it, and at most one child is computed into the node's register.
use Rattle.std.proofs.Common.{◌≡◌, ◌∙◌, ◌+◌, ◌≤◌, ◌<◌, ◌||◌, ◌&&◌, not, ℕ, zero, suc, List, [], ◌∷◌, ◌++◌, length, map, Bool, true, false, cond, None, Some, nat_eq, slice_get, slice_index, refl, sym, ap, subst, arith}
use Rattle.std.specs.List.{AllByRecursion, list_all, list_any}
use Rattle.std.specs.Option.{option_map}
use Rattle.std.proofs.lemmas.Option.{same_Some}
use Rattle.qc_terms.specs.declared.state.State.{State}
use Rattle.qc_terms.specs.declared.term.Dest.{Dest}
use Rattle.qc_terms.specs.declared.term.Dest.TheVariants as dest
use Rattle.qc_terms.specs.declared.term.Effect.{Effect}
use Rattle.qc_terms.specs.declared.term.Place.{Place}
use Rattle.qc_terms.specs.declared.term.Place.TheVariants as place
use Rattle.qc_terms.specs.Cells.{cell_of}
use Rattle.qc_terms.specs.State.{is_zero_cell}
use Rattle.qc_terms.specs.Tree.{Tree}
use Rattle.qc_terms.specs.Value.{read_of}
use Rattle.qc_descr.specs.declared.description.OperandKind.{OperandKind}
use Rattle.qc_code.specs.declared.template.Slot.{Slot}
use Rattle.qc_code.specs.declared.template.Slot.TheVariants as slot
use Rattle.qc_code.specs.Setting.{slot_value}
use Rattle.qc_derivations.specs.Forest.{Cell, Child, Constant, Own, Param, Spare, Stand}
use Rattle.qc_derivations.specs.Goals.{InRegister, Need, gets}
use Rattle.qc_derivations.specs.Machine.{Assignment, Machine, ToPlace, assignment_of, destination_of, machine_of}
use Rattle.qc_derivations.specs.Matching.{Pair, meets, takes_goal}
use Rattle.qc_derivations.specs.Nodes.{child_needs, is_allowed}
use Rattle.qc_derivations.specs.Rules.{guard_touches, is_free_destination, is_spare, is_written, register_part, touches_input_or_memory, writes_operand}
use Rattle.qc_derivations.specs.Same.{is_operand}
use Rattle.qc_derivations.specs.Sequence.{child_slots, scratches_at, slots_from}
use Rattle.qc_soundness.proofs.Children.{IsTied, TiesOnce}
use Rattle.qc_soundness.proofs.ChildStep.{IsTarget}
use Rattle.qc_soundness.proofs.LeafValues.{NodeLine, line_high, line_operands, line_slots}
use Rattle.qc_soundness.proofs.Leaves.{value_in_line}
use Rattle.qc_soundness.proofs.Needs.{HeldAll, SuitAll}
use Rattle.qc_soundness.proofs.Optional.{and_both, map_parts, numbers, or_neither, then_parts}
use Rattle.qc_soundness.proofs.Patterns.{value_at}
use Rattle.qc_soundness.proofs.Scene.{IsScene, Scene, at_front, no_zero_scratch}
use Rattle.qc_soundness.proofs.Single.{Harmless, IsSingle, all_of_parts, missing_are_harmless}

-- ---- what is held

-- the value of a child's part is in a scratch that is the operand's slot
pub record IsHeldIn (c : Scene) (s : State) (slots : List Slot) (high j : ℕ) (v : Tree) : Type 0 where
  pub own : Slot
  pub is : slice_get slots j ≡ Some own
  pub value : value_at v (at_front c) ≡ Some (cell_of s.cells c.d.allocatable (slot_value c.t c.e own))
  pub scratch : ℕ
  pub is_scratch : own ≡ slot.Scratch scratch
  pub below : scratch < high

pub held_at : (c : Scene) (s : State) (pairs : List Pair) (high number : ℕ) (stands : List Stand) (slots : List Slot) (inner : List Need) → child_needs number stands pairs ≡ Some inner →
    SuitAll c inner (child_slots stands slots) high → HeldAll c inner (child_slots stands slots) s → length slots ≡ length stands →
    (j : ℕ) → slice_get stands j ≡ Some Child → (v : Tree) → register_part (number + j) pairs ≡ Some v → IsHeldIn c s slots high j v
held_at c s pairs high number [] slots inner e suit held lengths j is v part = absurd (let no : None ≡ Some Child = is in cc no)
held_at c s pairs high number (stand ∷ stands) [] inner e suit held lengths j is v part = absurd (omega (arith, lengths))
held_at c s pairs high number (Child ∷ stands) (o ∷ slots) inner e suit held lengths zero is v part =
    let one = then_parts (λ (t : Tree). option_map (λ (ns : List Need). InRegister t ∷ ns) (child_needs (number + 1) stands pairs)) (register_part number pairs) inner e in
    let two = map_parts (λ (ns : List Need). InRegister one.0 ∷ ns) (child_needs (number + 1) stands pairs) inner one.2 in
    let suits = subst (λ ns. SuitAll c ns (o ∷ child_slots stands slots) high) (sym two.2) suit in
    let holds = subst (λ ns. HeldAll c ns (o ∷ child_slots stands slots) s) (sym two.2) held in
    let plus : number + 0 ≡ number = omega arith in
    let same : one.0 ≡ v = same_Some one.0 v (sym one.1 ∙ ap (λ n. register_part n pairs) (sym plus) ∙ part) in
    record {
      own = o;
      is = refl;
      value = ap (λ t. value_at t (at_front c)) (sym same) ∙ holds.0;
      scratch = suits.0.0;
      is_scratch = suits.0.1;
      below = suits.0.2;
    }
held_at c s pairs high number (Child ∷ stands) (o ∷ slots) inner e suit held lengths (suc j) is v part =
    let one = then_parts (λ (t : Tree). option_map (λ (ns : List Need). InRegister t ∷ ns) (child_needs (number + 1) stands pairs)) (register_part number pairs) inner e in
    let two = map_parts (λ (ns : List Need). InRegister one.0 ∷ ns) (child_needs (number + 1) stands pairs) inner one.2 in
    let suits = subst (λ ns. SuitAll c ns (o ∷ child_slots stands slots) high) (sym two.2) suit in
    let holds = subst (λ ns. HeldAll c ns (o ∷ child_slots stands slots) s) (sym two.2) held in
    let plus : number + suc j ≡ (number + 1) + j = omega arith in
    let deep = held_at c s pairs high (number + 1) stands slots two.0 two.1 suits.2 holds.1 (omega (arith, lengths)) j is v (ap (λ n. register_part n pairs) (sym plus) ∙ part) in
    record { own = deep.own; is = deep.is; value = deep.value; scratch = deep.scratch; is_scratch = deep.is_scratch; below = deep.below }
held_at c s pairs high number (stand ∷ stands) (o ∷ slots) inner e suit held lengths zero is v part = absurd (let no : Some stand ≡ Some Child = is in cc no)
held_at c s pairs high number (Own ∷ stands) (o ∷ slots) inner e suit held lengths (suc j) is v part =
    let plus : number + suc j ≡ (number + 1) + j = omega arith in
    let deep = held_at c s pairs high (number + 1) stands slots inner e suit held (omega (arith, lengths)) j is v (ap (λ n. register_part n pairs) (sym plus) ∙ part) in
    record { own = deep.own; is = deep.is; value = deep.value; scratch = deep.scratch; is_scratch = deep.is_scratch; below = deep.below }
held_at c s pairs high number (Spare ∷ stands) (o ∷ slots) inner e suit held lengths (suc j) is v part =
    let plus : number + suc j ≡ (number + 1) + j = omega arith in
    let deep = held_at c s pairs high (number + 1) stands slots inner e suit held (omega (arith, lengths)) j is v (ap (λ n. register_part n pairs) (sym plus) ∙ part) in
    record { own = deep.own; is = deep.is; value = deep.value; scratch = deep.scratch; is_scratch = deep.is_scratch; below = deep.below }
held_at c s pairs high number (Param n ∷ stands) (o ∷ slots) inner e suit held lengths (suc j) is v part =
    let plus : number + suc j ≡ (number + 1) + j = omega arith in
    let deep = held_at c s pairs high (number + 1) stands slots inner e suit held (omega (arith, lengths)) j is v (ap (λ n. register_part n pairs) (sym plus) ∙ part) in
    record { own = deep.own; is = deep.is; value = deep.value; scratch = deep.scratch; is_scratch = deep.is_scratch; below = deep.below }
held_at c s pairs high number (Cell a b ∷ stands) (o ∷ slots) inner e suit held lengths (suc j) is v part =
    let plus : number + suc j ≡ (number + 1) + j = omega arith in
    let deep = held_at c s pairs high (number + 1) stands slots inner e suit held (omega (arith, lengths)) j is v (ap (λ n. register_part n pairs) (sym plus) ∙ part) in
    record { own = deep.own; is = deep.is; value = deep.value; scratch = deep.scratch; is_scratch = deep.is_scratch; below = deep.below }
held_at c s pairs high number (Constant t ∷ stands) (o ∷ slots) inner e suit held lengths (suc j) is v part =
    let plus : number + suc j ≡ (number + 1) + j = omega arith in
    let deep = held_at c s pairs high (number + 1) stands slots inner e suit held (omega (arith, lengths)) j is v (ap (λ n. register_part n pairs) (sym plus) ∙ part) in
    record { own = deep.own; is = deep.is; value = deep.value; scratch = deep.scratch; is_scratch = deep.is_scratch; below = deep.below }

pub slots_length : (m : Machine) (assignments : List Assignment) (kinds : List OperandKind) (own : Slot) (number scratch : ℕ) (stands : List Stand) →
    length (slots_from m assignments kinds own number scratch stands) ≡ length stands
slots_length m assignments kinds own number scratch [] = refl
slots_length m assignments kinds own number scratch (stand ∷ stands) =
    ap suc (slots_length m assignments kinds own (number + 1) (scratch + scratches_at m (is_written number assignments) stand) stands)

-- what children hold is what the node's line reads
pub registers_held : (c : Scene) (l : NodeLine) (s : State) (inner : List Need) → IsScene c → child_needs 0 l.stands l.pairs ≡ Some inner → SuitAll c inner (child_slots l.stands (line_slots c l)) (line_high c l) →
    line_high c l ≤ c.count → HeldAll c inner (child_slots l.stands (line_slots c l)) s → s.facts ≡ c.d.facts → (number : ℕ) → slice_get l.stands number ≡ Some Child → (v : Tree) → register_part number l.pairs ≡ Some v →
    value_at v (at_front c) ≡ Some (read_of s c.d.allocatable (slice_index (line_operands c l) number))
registers_held c l s inner is needs suit high held facts number stands v part =
    let plus : number ≡ 0 + number = omega arith in
    let it = held_at c s l.pairs (line_high c l) 0 l.stands (line_slots c l) inner needs suit held
    (slots_length (machine_of c.d) l.form.assignments l.form.kinds l.own 0 l.scratch l.stands) number stands v (ap (λ n. register_part n l.pairs) (sym plus) ∙ part) in
    let value : slice_index (line_operands c l) number ≡ slot_value c.t c.e it.own = value_in_line (slot_value c.t c.e) (line_slots c l) number it.own it.is in
    let scratch : slot_value c.t c.e it.own ≡ c.e.scratch it.scratch = ap (slot_value c.t c.e) it.is_scratch in
    let usual : is_zero_cell s.facts.zero c.d.allocatable (slot_value c.t c.e it.own) ≡ false =
    ap (λ f. is_zero_cell f.«zero» c.d.allocatable (slot_value c.t c.e it.own)) facts ∙ ap (is_zero_cell c.d.facts.zero c.d.allocatable) scratch
    ∙ no_zero_scratch c it.scratch is (omega (arith, it.below, high)) in
    it.value ∙ ap (λ b. Some (cond b 0 (cell_of s.cells c.d.allocatable (slot_value c.t c.e it.own)))) (sym usual)
    ∙ ap (λ n. Some (read_of s c.d.allocatable n)) (sym value)

-- ---- ties

none_writes : (m : Machine) (stands : List Stand) (j : ℕ) (es : List Effect) → AllByRecursion (Harmless m stands) es → slice_get stands j ≡ Some Child →
    list_any (λ (a : Assignment). writes_operand j a.to) (map assignment_of es) ≡ false
none_writes m stands j [] harmless child = refl
none_writes m stands j (e ∷ es) harmless child =
    let a : Assignment = assignment_of e in
    let parts = and_both (is_free_destination m stands a.to) (not (guard_touches a.guard) && not (touches_input_or_memory a.value)) harmless.0 in
    ap (λ b. b || list_any (λ (a : Assignment). writes_operand j a.to) (map assignment_of es)) (go e.to parts.0) ∙ none_writes m stands j es harmless.1 child
  where
    place_of : (p : Place) → is_free_destination m stands (ToPlace p) ≡ true → is_operand j p ≡ false
    place_of (place.Cell space index) free = refl
    place_of (place.Operand space number) free = by (nat_eq j number) refl
      where
        by : (b : Bool) → nat_eq j number ≡ b → b ≡ false
        by false other = refl
        by true same =
            let e : j ≡ number = numbers j number same in
            absurd (let it : false ≡ true = ap is_spare (sym (ap (slice_get stands) (sym e) ∙ child)) ∙ free in cc it)

    go : (to : Dest) → is_free_destination m stands (destination_of to) ≡ true → writes_operand j (destination_of to) ≡ false
    go (dest.Reg p) free = place_of p free
    go (dest.Mem width address) free = refl
    go dest.Pc free = refl
    go dest.Out free = refl
    go dest.Halt free = refl
    go dest.Trap free = refl

the_one : (test : Assignment → Bool) (xs : List Effect) (this : Effect) (ys : List Effect) → list_any test (map assignment_of xs) ≡ false → list_any test (map assignment_of ys) ≡ false →
    list_any test (map assignment_of (xs ++ (this ∷ ys))) ≡ true → test (assignment_of this) ≡ true
the_one test [] this ys before behind any = by (test (assignment_of this)) refl any
  where
    by : (b : Bool) → test (assignment_of this) ≡ b → (b || list_any test (map assignment_of ys)) ≡ true → b ≡ true
    by true is any = refl
    by false is any = absurd (let no : false ≡ true = sym behind ∙ any in cc no)
the_one test (x ∷ xs) this ys before behind any =
    let parts = or_neither (test (assignment_of x)) (list_any test (map assignment_of xs)) before in
    the_one test xs this ys parts.1 behind (ap (λ b. b || list_any test (map assignment_of (xs ++ (this ∷ ys)))) (sym parts.0) ∙ any)

-- a child that is computed into the node's register stands at the operand that the matched effect writes
pub tie_is_met : (c : Scene) (l : NodeLine) (to : Place) (u : Tree) (es : List Effect) → l.form.assignments ≡ map assignment_of es → (it : IsSingle false l.stands (gets (ToPlace to) u) es l.pairs) →
    list_all (is_allowed (machine_of c.d) false l.stands (gets (ToPlace to) u ∷ [])) (map assignment_of es) ≡ true → (j : ℕ) → IsTied l j →
    writes_operand j (destination_of it.this.to) ≡ true
tie_is_met c l to u es listed it allowed j tied =
    let m : Machine = machine_of c.d in
    let goal : Assignment = gets (ToPlace to) u in
    let test : Assignment → Bool = is_allowed m false l.stands (goal ∷ []) in
    let allows = all_of_parts test it.before (it.this ∷ it.behind) (subst (λ xs. list_all test (map assignment_of xs) ≡ true) it.is allowed) in
    let later = and_both (test (assignment_of it.this)) (list_all test (map assignment_of it.behind)) allows.1 in
    the_one (λ (a : Assignment). writes_operand j a.to) it.before it.this it.behind
    (none_writes m l.stands j it.before (missing_are_harmless false m l.stands goal it.before allows.0 it.before_misses) tied.0)
    (none_writes m l.stands j it.behind (missing_are_harmless false m l.stands goal it.behind later.1 it.behind_misses) tied.0)
    (ap (λ ys. is_written j ys) (sym (listed ∙ ap (λ xs. map assignment_of xs) it.is)) ∙ tied.1)

pub ties_once : (c : Scene) (l : NodeLine) (to : Place) (u : Tree) (es : List Effect) → l.form.assignments ≡ map assignment_of es → IsSingle false l.stands (gets (ToPlace to) u) es l.pairs →
    list_all (is_allowed (machine_of c.d) false l.stands (gets (ToPlace to) u ∷ [])) (map assignment_of es) ≡ true → IsTarget c l to → TiesOnce c l
ties_once c l to u es listed it allowed target = record {
  own = λ j tied. own j tied.0 to target it.this.to it.this_meets (tie_is_met c l to u es listed it allowed j tied);
  once = λ i j first second. equal i j it.this.to (tie_is_met c l to u es listed it allowed i first) (tie_is_met c l to u es listed it allowed j second);
}
  where
    equal : (i j : ℕ) (x : Dest) → writes_operand i (destination_of x) ≡ true → writes_operand j (destination_of x) ≡ true → i ≡ j
    equal i j (dest.Reg (place.Operand space number)) a b = numbers i number a ∙ sym (numbers j number b)
    equal i j (dest.Reg (place.Cell space index)) a b = absurd (cc a)
    equal i j (dest.Mem width address) a b = absurd (cc a)
    equal i j dest.Pc a b = absurd (cc a)
    equal i j dest.Out a b = absurd (cc a)
    equal i j dest.Halt a b = absurd (cc a)
    equal i j dest.Trap a b = absurd (cc a)

    own : (j : ℕ) → slice_get l.stands j ≡ Some Child → (goal : Place) → IsTarget c l goal → (x : Dest) → meets false l.stands (ToPlace goal) (destination_of x) ≡ true →
        writes_operand j (destination_of x) ≡ true → (k : ℕ) × (l.own ≡ slot.Scratch k) × (k < l.scratch)
    own j child (place.Operand a b) target x met writes = target
    own j child (place.Cell a b) target (dest.Reg (place.Operand space number)) met writes =
        let e : j ≡ number = numbers j number writes in
        absurd (let it : false ≡ true = ap (takes_goal false (place.Cell a b)) (sym (ap (slice_get l.stands) (sym e) ∙ child)) ∙ met in cc it)
    own j child (place.Cell a b) target (dest.Reg (place.Cell space index)) met writes = absurd (cc writes)
    own j child (place.Cell a b) target (dest.Mem width address) met writes = absurd (cc writes)
    own j child (place.Cell a b) target dest.Pc met writes = absurd (cc writes)
    own j child (place.Cell a b) target dest.Out met writes = absurd (cc writes)
    own j child (place.Cell a b) target dest.Halt met writes = absurd (cc writes)
    own j child (place.Cell a b) target dest.Trap met writes = absurd (cc writes)
