-- A leaf of an instruction's term reads in a line what its part of the goal has at the front.
use Rattle.std.proofs.Common.{◌≡◌, ◌∙◌, ◌+◌, ◌≤◌, ℕ, zero, suc, List, [], ◌∷◌, map, Bool, true, Option, None, Some, nat_eq, slice_get, refl, ap, subst, arith}
use Rattle.std.specs.Prelude.{slice_index}
use Rattle.std.specs.Option.{option_map}
use Rattle.std.proofs.lemmas.Option.{get_or_from_slice_get, same_Some, slice_get-map}
use Rattle.qc_words.specs.Operators.{result_of}
use Rattle.qc_terms.specs.declared.state.State.{State}
use Rattle.qc_terms.specs.declared.term.Place.{Place}
use Rattle.qc_terms.specs.declared.term.Place.TheVariants as place
use Rattle.qc_terms.specs.Tree.{Tree, Number, Unary, Binary, Register, Immediate, Load, NextInput, AddressAfter, width_of}
use Rattle.qc_terms.specs.Value.{value_of}
use Rattle.qc_descr.specs.declared.description.Description.{Description}
use Rattle.qc_descr.specs.declared.description.OperandKind.{OperandKind}
use Rattle.qc_descr.specs.declared.description.Space.{Space}
use Rattle.qc_equations.specs.Matching.{is_constant}
use Rattle.qc_code.specs.declared.template.Slot.{Slot}
use Rattle.qc_code.specs.Setting.{constant_value}
use Rattle.qc_code.specs.TileHolds.{has_flags, is_flag_space}
use Rattle.qc_derivations.specs.Forest.{Stand}
use Rattle.qc_derivations.specs.Machine.{Assignment, Form, Machine, is_true, machine_of}
use Rattle.qc_derivations.specs.Machine as machine
use Rattle.qc_derivations.specs.Rules.{is_written, operands_suit, suits_if_there}
use Rattle.qc_derivations.specs.Same.{is_immediate, is_register, same_place}
use Rattle.qc_derivations.specs.Sequence.{scratches_at, scratches_from, slot_at, slot_if_there, slots_from}
use Rattle.qc_soundness.proofs.Optional.{and_both, numbers}

-- ---- tests of trees

pub same_places : (p q : Place) → same_place p q ≡ true → p ≡ q
same_places (place.Cell s i) (place.Cell t j) e =
    let parts = and_both (nat_eq s t) (nat_eq i j) e in
    let one = numbers s t parts.0 in
    let two = numbers i j parts.1 in cc
same_places (place.Operand s i) (place.Operand t j) e =
    let parts = and_both (nat_eq s t) (nat_eq i j) e in
    let one = numbers s t parts.0 in
    let two = numbers i j parts.1 in cc
same_places (place.Cell s i) (place.Operand t j) e = absurd (cc e)
same_places (place.Operand s i) (place.Cell t j) e = absurd (cc e)

pub is_register-same : (p : Place) (width : ℕ) (t : Tree) → is_register p width t ≡ true → t ≡ Register p width
is_register-same p width (Register q w) e =
    let parts = and_both (same_place p q) (nat_eq width w) e in
    let one = same_places p q parts.0 in
    let two = numbers width w parts.1 in cc
is_register-same p width (Number v w) e = absurd (cc e)
is_register-same p width (Unary op arg) e = absurd (cc e)
is_register-same p width (Binary op left right) e = absurd (cc e)
is_register-same p width (Immediate operand w) e = absurd (cc e)
is_register-same p width (Load w address) e = absurd (cc e)
is_register-same p width (NextInput w) e = absurd (cc e)
is_register-same p width (AddressAfter w) e = absurd (cc e)

pub is_immediate-same : (number width : ℕ) (t : Tree) → is_immediate number width t ≡ true → t ≡ Immediate number width
is_immediate-same number width (Immediate operand w) e =
    let parts = and_both (nat_eq number operand) (nat_eq width w) e in
    let one = numbers number operand parts.0 in
    let two = numbers width w parts.1 in cc
is_immediate-same number width (Register q w) e = absurd (cc e)
is_immediate-same number width (Number v w) e = absurd (cc e)
is_immediate-same number width (Unary op arg) e = absurd (cc e)
is_immediate-same number width (Binary op left right) e = absurd (cc e)
is_immediate-same number width (Load w address) e = absurd (cc e)
is_immediate-same number width (NextInput w) e = absurd (cc e)
is_immediate-same number width (AddressAfter w) e = absurd (cc e)

-- a constant term has a value, for these operands
pub constant_has : (operands : List ℕ) (after : ℕ) (s : State) (t : Tree) → is_constant t ≡ true →
    value_of t operands after s ≡ Some (constant_value operands t)
constant_has operands after s (Number value width) e = refl
constant_has operands after s (Unary op arg) e = ap (option_map (λ a. result_of op (width_of arg) a 0)) (constant_has operands after s arg e)
constant_has operands after s (Binary op left right) e =
    let parts = and_both (is_constant left) (is_constant right) e in
    rw (constant_has operands after s left parts.0, constant_has operands after s right parts.1) refl
constant_has operands after s (Register p width) e = absurd (cc e)
constant_has operands after s (Immediate operand width) e = refl
constant_has operands after s (Load width address) e = absurd (cc e)
constant_has operands after s (NextInput width) e = absurd (cc e)
constant_has operands after s (AddressAfter width) e = absurd (cc e)

-- the same spaces are of flags
pub flags_same : (d : Description) (space : ℕ) → machine.has_flags (machine_of d) space ≡ is_flag_space d space
flags_same d space = ap is_true (slice_get-map (λ (s : Space). s.flags) d.spaces space) ∙ go (slice_get d.spaces space)
  where
    go : (it : Option Space) → is_true (option_map (λ (s : Space). s.flags) it) ≡ has_flags it
    go None = refl
    go (Some s) = refl

-- ---- operands

-- what stands for an operand of a kind suits it
pub stand_at : (suits : ℕ → OperandKind → Stand → Bool) (stands : List Stand) (number : ℕ) (kinds : List OperandKind) (j : ℕ) (k : OperandKind) →
    operands_suit suits stands number kinds ≡ true → slice_get kinds j ≡ Some k →
    (stand : Stand) × (slice_get stands (number + j) ≡ Some stand) × (suits (number + j) k stand ≡ true)
stand_at suits stands number [] j k all is = absurd (let none : None ≡ Some k = is in cc none)
stand_at suits stands number (first ∷ kinds) zero k all is =
    let parts = and_both (suits_if_there suits number first (slice_get stands number)) (operands_suit suits stands (number + 1) kinds) all in
    let same : first ≡ k = same_Some first k is in
    let here = there (slice_get stands number) refl parts.0 in
    let zero_more : number ≡ number + 0 = omega arith in
    subst (λ n. (stand : Stand) × (slice_get stands n ≡ Some stand) × (suits n k stand ≡ true)) zero_more
    (here.0, here.1, subst (λ x. suits number x here.0 ≡ true) same here.2)
  where
    there : (it : Option Stand) → slice_get stands number ≡ it → suits_if_there suits number first it ≡ true →
        (stand : Stand) × (slice_get stands number ≡ Some stand) × (suits number first stand ≡ true)
    there None is e = absurd (cc e)
    there (Some stand) is e = (stand, is, e)
stand_at suits stands number (first ∷ kinds) (suc j) k all is =
    let parts = and_both (suits_if_there suits number first (slice_get stands number)) (operands_suit suits stands (number + 1) kinds) all in
    let more : (number + 1) + j ≡ number + suc j = omega arith in
    subst (λ n. (stand : Stand) × (slice_get stands n ≡ Some stand) × (suits n k stand ≡ true)) more
    (stand_at suits stands (number + 1) kinds j k parts.1 is)

-- the slot of an operand, and the numbers of the scratches that it has
pub record IsSlotOf (m : Machine) (assignments : List Assignment) (slots : List Slot) (own : Slot) (k : OperandKind) (stand : Stand) (low high number j : ℕ) : Type 0 where
  pub scratch : ℕ
  pub low_is : low ≤ scratch
  pub high_is : scratch + scratches_at m (is_written number assignments) stand ≤ high
  pub is : slice_get slots j ≡ Some (slot_at m own k (is_written number assignments) scratch stand)

pub slot_is : (m : Machine) (assignments : List Assignment) (kinds : List OperandKind) (own : Slot) (number scratch : ℕ) (stands : List Stand) (j : ℕ)
    (k : OperandKind) (stand : Stand) → slice_get stands j ≡ Some stand → slice_get kinds (number + j) ≡ Some k →
    IsSlotOf m assignments (slots_from m assignments kinds own number scratch stands) own k stand scratch
    (scratch + scratches_from m assignments number stands) (number + j) j
slot_is m assignments kinds own number scratch [] j k stand is here = absurd (let none : None ≡ Some stand = is in cc none)
slot_is m assignments kinds own number scratch (first ∷ stands) zero k stand is here =
    let same : first ≡ stand = same_Some first stand is in
    let zero_more : number ≡ number + 0 = omega arith in
    subst (λ n. IsSlotOf m assignments (slots_from m assignments kinds own number scratch (first ∷ stands)) own k stand scratch
    (scratch + scratches_from m assignments number (first ∷ stands)) n 0) zero_more
    (subst (λ x. IsSlotOf m assignments (slots_from m assignments kinds own number scratch (first ∷ stands)) own k x scratch
    (scratch + scratches_from m assignments number (first ∷ stands)) number 0) same
    (record {
      scratch = scratch;
      low_is = omega arith;
      high_is = omega arith;
      is = ap (λ o. Some (slot_if_there m own (is_written number assignments) scratch first o)) (ap (slice_get kinds) zero_more ∙ here);
    }))
slot_is m assignments kinds own number scratch (first ∷ stands) (suc j) k stand is here =
    let more : (number + 1) + j ≡ number + suc j = omega arith in
    let used : ℕ = scratches_at m (is_written number assignments) first in
    let deep = slot_is m assignments kinds own (number + 1) (scratch + used) stands j k stand is (ap (slice_get kinds) more ∙ here) in
    subst (λ n. IsSlotOf m assignments (slots_from m assignments kinds own number scratch (first ∷ stands)) own k stand scratch
    (scratch + scratches_from m assignments number (first ∷ stands)) n (suc j)) more
    (record {
      scratch = deep.scratch;
      low_is = omega (arith, deep.low_is);
      high_is = omega (arith, deep.high_is);
      is = deep.is;
    })

pub value_in_line : (f : Slot → ℕ) (slots : List Slot) (j : ℕ) (x : Slot) → slice_get slots j ≡ Some x → slice_index (map f slots) j ≡ f x
value_in_line f slots j x is =
    get_or_from_slice_get (map f slots) j (f x) 0 (slice_get-map f slots j ∙ ap (option_map f) is)
