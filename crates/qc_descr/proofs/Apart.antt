-- Codings that differ in a fixed bit have no bytes in common.
use Rattle.std.proofs.Common.{◌≡◌, ℕ, zero, suc, ◌+◌, ◌*◌, ◌<◌, List, [], ◌∷◌, ◌++◌, map, Bool, true, false, Some, subst, arith, inl, inr}
use Rattle.std.specs.List.{slice_get, list_all}
use Rattle.std.proofs.lemmas.Bool.{and_parts, or_cases}
use Rattle.qc_terms.specs.declared.state.Order.{Order}
use Rattle.qc_descr.specs.declared.coding.Bit.{Bit}
use Rattle.qc_descr.specs.declared.coding.Bit.TheVariants.{Fixed, Piece}
use Rattle.qc_descr.specs.declared.coding.Coding.{Coding}
use Rattle.qc_descr.specs.Coding.{bit_value, bits_differ, bytes_differ, differs_at, memory_bytes}
use Rattle.qc_descr.specs.Encoding.{byte_value}
use Rattle.qc_descr.specs.Valid.{all_differ}
use Rattle.qc_descr.specs.Law.Bits.{bit_value-lt}

-- equal bytes have equal first bits and equal others
pub byte_parts : (xs ys : List ℕ) (x y : Bit) (p q : List Bit) → byte_value xs (x ∷ p) ≡ byte_value ys (y ∷ q) →
    (bit_value xs x ≡ bit_value ys y) × (byte_value xs p ≡ byte_value ys q)
byte_parts xs ys x y p q h =
    let a : bit_value xs x < 2 = bit_value-lt xs x in
    let b : bit_value ys y < 2 = bit_value-lt ys y in
    let e : bit_value xs x + 2 * byte_value xs p ≡ bit_value ys y + 2 * byte_value ys q = h in
    (omega (arith, a, b, e), omega (arith, a, b, e))

fixed_apart : (xs ys : List ℕ) (x y : Bit) → differs_at x y ≡ true → bit_value xs x ≡ bit_value ys y → ⊥
fixed_apart xs ys (Fixed true) (Fixed true) h e = cc
fixed_apart xs ys (Fixed true) (Fixed false) h e = omega (arith, e)
fixed_apart xs ys (Fixed false) (Fixed true) h e = omega (arith, e)
fixed_apart xs ys (Fixed false) (Fixed false) h e = cc
fixed_apart xs ys (Fixed one) (Piece operand bit) h e = cc
fixed_apart xs ys (Piece operand bit) y h e = cc

pub bits_apart : (xs ys : List ℕ) (p q : List Bit) → bits_differ p q ≡ true → byte_value xs p ≡ byte_value ys q → ⊥
bits_apart xs ys [] q h e = cc
bits_apart xs ys (x ∷ p) [] h e = cc
bits_apart xs ys (x ∷ p) (y ∷ q) h e =
    let parts : (bit_value xs x ≡ bit_value ys y) × (byte_value xs p ≡ byte_value ys q) = byte_parts xs ys x y p q e in
    elim (or_cases (differs_at x y) (bits_differ p q) h) [
      | inl here ↦ fixed_apart xs ys x y here parts.0
      | inr there ↦ bits_apart xs ys p q there parts.1
    ]

pub bytes_apart : (xs ys more other : List ℕ) (m n : List (List Bit)) → bytes_differ m n ≡ true →
    map (byte_value xs) m ++ more ≡ map (byte_value ys) n ++ other → ⊥
bytes_apart xs ys more other [] n h e = cc
bytes_apart xs ys more other (p ∷ m) [] h e = cc
bytes_apart xs ys more other (p ∷ m) (q ∷ n) h e =
    let first : byte_value xs p ≡ byte_value ys q = cc in
    let rest : map (byte_value xs) m ++ more ≡ map (byte_value ys) n ++ other = cc in
    elim (or_cases (bits_differ p q) (bytes_differ m n) h) [
      | inl here ↦ bits_apart xs ys p q here first
      | inr there ↦ bytes_apart xs ys more other m n there rest
    ]

pub list_all-get : {X : Type 0} (test : X → Bool) (xs : List X) (i : ℕ) (x : X) → list_all test xs ≡ true → slice_get xs i ≡ Some x → test x ≡ true
list_all-get test [] i x h e = cc
list_all-get test (y ∷ xs) zero x h e =
    let same : y ≡ x = cc in
    subst (λ z. test z ≡ true) same (and_parts _ _ h).0
list_all-get test (y ∷ xs) (suc i) x h e = list_all-get test xs i x (and_parts _ _ h).1 e

-- any two codings of a list in which all differ
pub two_differ : (order : Order) (cs : List Coding) (m n : ℕ) (c e : Coding) → all_differ order cs ≡ true → m < n →
    slice_get cs m ≡ Some c → slice_get cs n ≡ Some e → bytes_differ (memory_bytes order c) (memory_bytes order e) ≡ true
two_differ order [] m n c e h less f g = cc
two_differ order (x ∷ cs) m zero c e h less f g = absurd (omega arith)
two_differ order (x ∷ cs) zero (suc n) c e h less f g =
    let same : x ≡ c = cc in
    subst (λ y. bytes_differ (memory_bytes order y) (memory_bytes order e) ≡ true) same
    (list_all-get (λ other. bytes_differ (memory_bytes order x) (memory_bytes order other)) cs n e (and_parts _ _ h).0 g)
two_differ order (x ∷ cs) (suc m) (suc n) c e h less f g = two_differ order cs m n c e (and_parts _ _ h).1 (omega arith) f g
