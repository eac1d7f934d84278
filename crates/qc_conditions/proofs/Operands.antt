-- The operand of a node's line: what stands for it, that it suits, and its slot.
use Rattle.std.proofs.Common.{◌≡◌, ◌∙◌, ◌+◌, ◌≤◌, ◌<◌, ◌||◌, ◌&&◌, ℕ, zero, suc, List, [], ◌∷◌, map, Bool, true, false, not, Option, None, Some, All, length, nat_eq, slice_get, refl, sym, ap, subst, arith}
use Rattle.std.specs.List.{AllByRecursion}
use Rattle.std.specs.Option.{option_map}
use Rattle.std.proofs.lemmas.List.Elements.{recursion_from_All}
use Rattle.std.proofs.lemmas.Option.{same_Some, slice_get-map, slice_get_within}
use Rattle.std.proofs.lemmas.Option.{slice_get-get_or}
use Rattle.qc_terms.specs.declared.term.Place.{Place}
use Rattle.qc_terms.specs.declared.term.Place.TheVariants as place
use Rattle.qc_descr.specs.declared.description.Description.{Description}
use Rattle.qc_descr.specs.declared.description.Instruction.{Instruction}
use Rattle.qc_descr.specs.declared.description.OperandKind.{OperandKind}
use Rattle.qc_descr.specs.declared.description.Space.{Space}
use Rattle.qc_descr.specs.Law.CodedBytes.{valid_at}
use Rattle.qc_descr.specs.Valid.{EffectNames, IsValid}
use Rattle.qc_code.specs.declared.template.Slot.{Slot}
use Rattle.qc_code.specs.Setting.{line_rtl, rtl_of}
use Rattle.qc_code.specs.TileHolds as code
use Rattle.qc_code.specs.TileHolds.{is_flag_space}
use Rattle.qc_derivations.specs.Forest.{Cell, Child, Constant, Node, Own, Param, Spare, Stand}
use Rattle.qc_derivations.specs.Matching.{Pair}
use Rattle.qc_derivations.specs.Goals.{Need}
use Rattle.qc_derivations.specs.Machine as machine
use Rattle.qc_derivations.specs.Machine.{Assignment, Form, Machine, assignment_of, form_of, is_true, machine_of}
use Rattle.qc_derivations.specs.Nodes.{Task}
use Rattle.qc_derivations.specs.Rules.{is_written, operand_suits, operands_suit, register_suits, suits_if_there}
use Rattle.qc_derivations.specs.Same.{same_place}
use Rattle.qc_derivations.specs.Sequence.{assignments_in, kinds_in, node_slots, scratches_at, scratches_from, slot_at, slot_if_there, slots_from}
use Rattle.qc_conditions.proofs.Optional.{and_both, map_parts, numbers}
use Rattle.qc_conditions.proofs.Rules.{KeepsRules}

-- the same spaces are of flags
pub flags_same : (d : Description) (space : ℕ) → machine.has_flags (machine_of d) space ≡ is_flag_space d space
flags_same d space = ap is_true (slice_get-map (λ (s : Space). s.flags) d.spaces space) ∙ go (slice_get d.spaces space)
  where
    go : (it : Option Space) → is_true (option_map (λ (s : Space). s.flags) it) ≡ code.has_flags it
    go None = refl
    go (Some s) = refl

pub allocatable_no_flag : (d : Description) → IsValid d → is_flag_space d d.allocatable ≡ false
allocatable_no_flag d valid = go (slice_get d.spaces d.allocatable) refl
  where
    go : (it : Option Space) → slice_get d.spaces d.allocatable ≡ it → code.has_flags it ≡ false
    go None is = refl
    go (Some s) is = valid.layout.no_flags s is

pub same_places : (p q : Place) → same_place p q ≡ true → p ≡ q
same_places (place.Cell s i) (place.Cell t j) e =
    let parts = and_both (nat_eq s t) (nat_eq i j) e in
    let one = numbers s t parts.0 in
    let two = numbers i j parts.1 in cc
same_places (place.Operand s i) (place.Operand t j) e =
    let parts = and_both (nat_eq s t) (nat_eq i j) e in
    let one = numbers s t parts.0 in
    let two = numbers i j parts.1 in cc
same_places (place.Cell s i) (place.Operand t j) e = absurd (cc e)
same_places (place.Operand s i) (place.Cell t j) e = absurd (cc e)

-- ---- operands

-- what stands for an operand of a kind suits it
pub stand_at : (suits : ℕ → OperandKind → Stand → Bool) (stands : List Stand) (number : ℕ) (kinds : List OperandKind) (j : ℕ) (k : OperandKind) →
    operands_suit suits stands number kinds ≡ true → slice_get kinds j ≡ Some k →
    (stand : Stand) × (slice_get stands (number + j) ≡ Some stand) × (suits (number + j) k stand ≡ true)
stand_at suits stands number [] j k all is = absurd (let none : None ≡ Some k = is in cc none)
stand_at suits stands number (first ∷ kinds) zero k all is =
    let parts = and_both (suits_if_there suits number first (slice_get stands number)) (operands_suit suits stands (number + 1) kinds) all in
    let same : first ≡ k = same_Some first k is in
    let here = there (slice_get stands number) refl parts.0 in
    let zero_more : number ≡ number + 0 = omega arith in
    subst (λ n. (stand : Stand) × (slice_get stands n ≡ Some stand) × (suits n k stand ≡ true)) zero_more
    (here.0, here.1, subst (λ x. suits number x here.0 ≡ true) same here.2)
  where
    there : (it : Option Stand) → slice_get stands number ≡ it → suits_if_there suits number first it ≡ true →
        (stand : Stand) × (slice_get stands number ≡ Some stand) × (suits number first stand ≡ true)
    there None is e = absurd (cc e)
    there (Some stand) is e = (stand, is, e)
stand_at suits stands number (first ∷ kinds) (suc j) k all is =
    let parts = and_both (suits_if_there suits number first (slice_get stands number)) (operands_suit suits stands (number + 1) kinds) all in
    let more : (number + 1) + j ≡ number + suc j = omega arith in
    subst (λ n. (stand : Stand) × (slice_get stands n ≡ Some stand) × (suits n k stand ≡ true)) more
    (stand_at suits stands (number + 1) kinds j k parts.1 is)

-- the slot of an operand, and the numbers of the scratches that it has
pub record IsSlotOf (m : Machine) (assignments : List Assignment) (slots : List Slot) (own : Slot) (k : OperandKind) (stand : Stand) (low high number j : ℕ) : Type 0 where
  pub scratch : ℕ
  pub low_is : low ≤ scratch
  pub high_is : scratch + scratches_at m (is_written number assignments) stand ≤ high
  pub is : slice_get slots j ≡ Some (slot_at m own k (is_written number assignments) scratch stand)

pub slot_is : (m : Machine) (assignments : List Assignment) (kinds : List OperandKind) (own : Slot) (number scratch : ℕ) (stands : List Stand) (j : ℕ)
    (k : OperandKind) (stand : Stand) → slice_get stands j ≡ Some stand → slice_get kinds (number + j) ≡ Some k →
    IsSlotOf m assignments (slots_from m assignments kinds own number scratch stands) own k stand scratch
    (scratch + scratches_from m assignments number stands) (number + j) j
slot_is m assignments kinds own number scratch [] j k stand is here = absurd (let none : None ≡ Some stand = is in cc none)
slot_is m assignments kinds own number scratch (first ∷ stands) zero k stand is here =
    let same : first ≡ stand = same_Some first stand is in
    let zero_more : number ≡ number + 0 = omega arith in
    subst (λ n. IsSlotOf m assignments (slots_from m assignments kinds own number scratch (first ∷ stands)) own k stand scratch
    (scratch + scratches_from m assignments number (first ∷ stands)) n 0) zero_more
    (subst (λ x. IsSlotOf m assignments (slots_from m assignments kinds own number scratch (first ∷ stands)) own k x scratch
    (scratch + scratches_from m assignments number (first ∷ stands)) number 0) same
    (record {
      scratch = scratch;
      low_is = omega arith;
      high_is = omega arith;
      is = ap (λ o. Some (slot_if_there m own (is_written number assignments) scratch first o)) (ap (slice_get kinds) zero_more ∙ here);
    }))
slot_is m assignments kinds own number scratch (first ∷ stands) (suc j) k stand is here =
    let more : (number + 1) + j ≡ number + suc j = omega arith in
    let used : ℕ = scratches_at m (is_written number assignments) first in
    let deep = slot_is m assignments kinds own (number + 1) (scratch + used) stands j k stand is (ap (slice_get kinds) more ∙ here) in
    subst (λ n. IsSlotOf m assignments (slots_from m assignments kinds own number scratch (first ∷ stands)) own k stand scratch
    (scratch + scratches_from m assignments number (first ∷ stands)) n (suc j)) more
    (record {
      scratch = deep.scratch;
      low_is = omega (arith, deep.low_is);
      high_is = omega (arith, deep.high_is);
      is = deep.is;
    })

-- ---- the line of a node

-- the instruction of a node that keeps the rules
pub record HasInstruction (d : Description) (form : Form) (node : Node) : Type 0 where
  pub instruction : Instruction
  pub is : slice_get d.instructions node.instruction ≡ Some instruction
  pub is_form : form_of instruction ≡ form
  pub effects : (line_rtl d (node.instruction, [])).effects ≡ instruction.rtl.effects
  pub names : AllByRecursion (EffectNames d.facts.word form.kinds) instruction.rtl.effects
  pub assignments : form.assignments ≡ map assignment_of instruction.rtl.effects

pub has_instruction : (d : Description) (form : Form) (node : Node) → IsValid d → slice_get (machine_of d).forms node.instruction ≡ Some form → HasInstruction d form node
has_instruction d form node valid is =
    let it = map_parts form_of (slice_get d.instructions node.instruction) form (sym (slice_get-map form_of d.instructions node.instruction) ∙ is) in
    let i : Instruction = it.0 in
    record {
      instruction = i;
      is = it.1;
      is_form = it.2;
      effects = ap (λ o. (rtl_of o).effects) it.1;
      names = recursion_from_All (EffectNames d.facts.word form.kinds) i.rtl.effects
          (subst (λ (f : Form). All (EffectNames d.facts.word f.kinds) i.rtl.effects) it.2 (valid_at d node.instruction i valid it.1).names);
      assignments = ap (λ (f : Form). f.assignments) (sym it.2);
    }

-- what stands for an operand of a kind, and its slot, of which a scratch has a number of the node's
pub record IsOperand (task : Task) (root : Bool) (form : Form) (pairs : List Pair) (node : Node) (own : Slot) (scratch number : ℕ) (k : OperandKind) : Type 0 where
  pub stand : Stand
  pub is : slice_get node.stands number ≡ Some stand
  pub suits : operand_suits task.machine task.target root form.assignments pairs number k stand ≡ true
  pub first : ℕ
  pub low : scratch ≤ first
  pub is_slot : slice_get (node_slots task.machine own scratch node) number ≡ Some (slot_at task.machine own k (is_written number form.assignments) first stand)

pub operand_is : (task : Task) (root : Bool) (goals : List Assignment) (node : Node) (inner : List Need) (own : Slot) (scratch number : ℕ) (k : OperandKind) (kept : KeepsRules task root goals node inner) →
    slice_get kept.form.kinds number ≡ Some k → IsOperand task root kept.form kept.pairs node own scratch number k
operand_is task root goals node inner own scratch number k kept kinds =
    let m : Machine = task.machine in
    let form : Form = kept.form in
    let test = operand_suits m task.target root form.assignments kept.pairs in
    let plus : 0 + number ≡ number = omega arith in
    let it = stand_at test node.stands 0 form.kinds number k kept.operands kinds in
    let there : slice_get node.stands number ≡ Some it.0 = ap (slice_get node.stands) (sym plus) ∙ it.1 in
    let by = slot_is m form.assignments form.kinds own 0 scratch node.stands number k it.0 there (ap (slice_get form.kinds) plus ∙ kinds) in
    let slots : node_slots m own scratch node ≡ slots_from m form.assignments form.kinds own 0 scratch node.stands =
    ap (λ o. slots_from m (assignments_in o) (kinds_in o) own 0 scratch node.stands) kept.is_form in
    record {
      stand = it.0;
      is = there;
      suits = subst (λ n. test n k it.0 ≡ true) plus it.2;
      first = by.scratch;
      low = by.low_is;
      is_slot = ap (λ xs. slice_get xs number) slots ∙ subst (λ n. slice_get (slots_from m form.assignments form.kinds own 0 scratch node.stands) number ≡ Some (slot_at m own k (is_written n form.assignments) by.scratch it.0)) plus by.is;
    }

-- a register that is written is of the allocatable space
pub written_space : (m : Machine) (root read written met : Bool) (space : ℕ) (stand : Stand) → register_suits m root read written met space stand ≡ true → written ≡ true → space ≡ m.allocatable
written_space m root read written met space Own e is = numbers space m.allocatable (and_both (nat_eq space m.allocatable) (written && not read) e).0
written_space m root read written met space Spare e is = numbers space m.allocatable (and_both (nat_eq space m.allocatable) (written && not read) e).0
written_space m root read written met space (Param n) e is = numbers space m.allocatable (and_both (nat_eq space m.allocatable) (met && not written) e).0
written_space m root read written met space Child e is = numbers space m.allocatable (and_both (nat_eq space m.allocatable) (met && (not written || (read && not root))) e).0
written_space m root read true met space (Cell a b) e is = absurd (cc e)
written_space m root read false met space (Cell a b) e is = absurd (cc is)
written_space m root read written met space (Constant t) e is = absurd (cc e)

-- ---- kinds of stands

same_length : (suits : ℕ → OperandKind → Stand → Bool) (stands : List Stand) (number : ℕ) (kinds : List OperandKind) → operands_suit suits stands number kinds ≡ true →
    number + length kinds ≡ length stands
same_length suits stands number [] all = let e = numbers number (length stands) all in omega (arith, e)
same_length suits stands number (k ∷ kinds) all =
    let parts = and_both (suits_if_there suits number k (slice_get stands number)) (operands_suit suits stands (number + 1) kinds) all in
    let deep = same_length suits stands (number + 1) kinds parts.1 in omega (arith, deep)

-- where something stands there is an operand
pub kind_there : (suits : ℕ → OperandKind → Stand → Bool) (stands : List Stand) (kinds : List OperandKind) (number : ℕ) (stand : Stand) → operands_suit suits stands 0 kinds ≡ true →
    slice_get stands number ≡ Some stand → (k : OperandKind) × (slice_get kinds number ≡ Some k)
kind_there suits stands kinds number stand all is = go (slice_get kinds number) refl
  where
    go : (it : Option OperandKind) → slice_get kinds number ≡ it → (k : OperandKind) × (slice_get kinds number ≡ Some k)
    go (Some k) same = (k, same)
    go None same = absurd (cut kinds same (let lengths = same_length suits stands 0 kinds all in
        let within = slice_get_within stands number stand is in omega (arith, lengths, within)))
      where
        cut : (ks : List OperandKind) → slice_get ks number ≡ None → number < length ks → ⊥
        cut [] none below = omega (arith, below)
        cut (k ∷ ks) none below = let there : slice_get (k ∷ ks) number ≡ Some _ = slice_get-get_or (k ∷ ks) number k below in let no : None ≡ Some _ = sym none ∙ there in cc no
