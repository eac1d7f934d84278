-- A bit of an operand that stands in just one place of a coding stands in no other one.
use Rattle.std.proofs.Common.{◌≡◌, ◌∙◌, ℕ, zero, suc, ◌+◌, ◌≤◌, List, [], ◌∷◌, length, Bool, true, false, cond, if◌then◌else◌, Some, refl, sym, ap, arith, count_by, nat_lt, slice_index}
use Rattle.std.specs.Prelude.{slice_get}
use Rattle.std.specs.List.{list_all}
use Rattle.std.proofs.lemmas.Bool.{and_parts, eqb-true, ltb-true}
use Rattle.std.proofs.lemmas.List.Sums.{sum_by-cons}
use Rattle.qc_descr.specs.declared.coding.Bit.{Bit}
use Rattle.qc_descr.specs.declared.coding.Bit.TheVariants.{Piece}
use Rattle.qc_descr.specs.declared.description.Description.{Description}
use Rattle.qc_descr.specs.declared.description.Instruction.{Instruction}
use Rattle.qc_descr.specs.Coding.{is_piece}
use Rattle.qc_descr.specs.Law.Bits.{below_of_all, is_its_piece}
use Rattle.qc_descr.specs.Inner.Standing.{bit_is_right, operand_is_right}
use Rattle.qc_descr.specs.Valid.{IsCovered, is_within}

-- one element more is counted where it passes the test
count-cons : (test : Bit → Bool) (x : Bit) (xs : List Bit) → count_by test (x ∷ xs) ≡ cond (test x) 1 0 + count_by test xs
count-cons test x xs = sum_by-cons (λ y. cond (test y) 1 0) x xs

one_here : (test : Bit → Bool) (x y : Bit) → Some x ≡ Some y → test y ≡ true → ◌≡◌ {A = ℕ} (cond (test x) 1 0) 1
one_here test x y at is =
    let same : x ≡ y = cc in
    ap (λ b. cond b 1 0) (ap test same ∙ is)

-- an element that passes the test is counted
counted : (test : Bit → Bool) (xs : List Bit) (n : ℕ) (x : Bit) → slice_get xs n ≡ Some x → test x ≡ true → 1 ≤ count_by test xs
counted test [] zero x at is = absurd cc
counted test [] (suc n) x at is = absurd cc
counted test (y ∷ ys) zero x at is = omega (arith, count-cons test y ys, one_here test y x at is)
counted test (y ∷ ys) (suc n) x at is = omega (arith, count-cons test y ys, counted test ys n x at is)

-- where no more than one element passes the test two that do are the same
same_place : (test : Bit → Bool) (xs : List Bit) (m n : ℕ) (x y : Bit) → count_by test xs ≤ 1 → slice_get xs m ≡ Some x →
    test x ≡ true → slice_get xs n ≡ Some y → test y ≡ true → m ≡ n
same_place test [] zero n x y few at_m is_x at_n is_y = absurd cc
same_place test [] (suc m) n x y few at_m is_x at_n is_y = absurd cc
same_place test (z ∷ zs) zero zero x y few at_m is_x at_n is_y = refl
same_place test (z ∷ zs) zero (suc n) x y few at_m is_x at_n is_y =
    absurd (omega (arith, few, count-cons test z zs, one_here test z x at_m is_x, counted test zs n y at_n is_y))
same_place test (z ∷ zs) (suc m) zero x y few at_m is_x at_n is_y =
    absurd (omega (arith, few, count-cons test z zs, one_here test z y at_n is_y, counted test zs m x at_m is_x))
same_place test (z ∷ zs) (suc m) (suc n) x y few at_m is_x at_n is_y =
    ap suc (same_place test zs m n x y (omega (arith, few, count-cons test z zs)) at_m is_x at_n is_y)

-- what passes a test at each element does at one
at_each : (test : Bit → Bool) (xs : List Bit) (n : ℕ) (x : Bit) → list_all test xs ≡ true → slice_get xs n ≡ Some x → test x ≡ true
at_each test [] zero x all at = absurd cc
at_each test [] (suc n) x all at = absurd cc
at_each test (y ∷ ys) zero x all at =
    let same : y ≡ x = cc in
    ap test (sym same) ∙ (and_parts (test y) (list_all test ys) all).0
at_each test (y ∷ ys) (suc n) x all at = at_each test ys n x (and_parts (test y) (list_all test ys) all).1 at

-- how often a bit of an operand that stands somewhere does: once, and not at all where it is dropped
times : (d : Description) (i : Instruction) (covered : IsCovered d i) (place operand bit : ℕ) →
    slice_get i.coding.bits place ≡ Some (Piece operand bit) →
    count_by (is_piece operand bit) i.coding.bits ≡ (if nat_lt bit (slice_index covered.dropped operand) then 0 else 1)
times d i covered place operand bit at =
    let inside = and_parts _ _ (at_each (is_within covered.sizes) i.coding.bits place (Piece operand bit) covered.within at) in
    let sizes : List ℕ = covered.sizes in
    let dropped : List ℕ = covered.dropped in
    let each : operand_is_right sizes dropped i.coding.bits operand ≡ true =
    below_of_all (length sizes) (operand_is_right sizes dropped i.coding.bits) operand covered.once (ltb-true _ _ inside.0) in
    eqb-true _ _ (below_of_all (slice_index sizes operand) (bit_is_right operand (slice_index dropped operand) i.coding.bits) bit each
    (ltb-true _ _ inside.1))

at_most_once : (test : Bool) (n : ℕ) → n ≡ (if test then 0 else 1) → n ≤ 1
at_most_once true n is = omega (arith, is)
at_most_once false n is = omega (arith, is)

pub one_place : (d : Description) (i : Instruction) → IsCovered d i → (m n operand bit : ℕ) →
    slice_get i.coding.bits m ≡ Some (Piece operand bit) → slice_get i.coding.bits n ≡ Some (Piece operand bit) → m ≡ n
one_place d i covered m n operand bit at_m at_n =
    same_place (is_piece operand bit) i.coding.bits m n (Piece operand bit) (Piece operand bit)
    (at_most_once _ _ (times d i covered m operand bit at_m)) at_m (is_its_piece operand bit) at_n (is_its_piece operand bit)

kept : (dropped bit n : ℕ) (test : Bool) → nat_lt bit dropped ≡ test → n ≡ (if test then 0 else 1) → 1 ≤ n → dropped ≤ bit
kept dropped bit n true below is some = absurd (omega (arith, is, some))
kept dropped bit n false below is some = grind (arith, below)

pub not_dropped : (d : Description) (i : Instruction) (covered : IsCovered d i) (place operand bit : ℕ) →
    slice_get i.coding.bits place ≡ Some (Piece operand bit) → slice_index covered.dropped operand ≤ bit
not_dropped d i covered place operand bit at =
    kept (slice_index covered.dropped operand) bit _ (nat_lt bit (slice_index covered.dropped operand)) refl
    (times d i covered place operand bit at)
    (counted (is_piece operand bit) i.coding.bits place (Piece operand bit) at (is_its_piece operand bit))
