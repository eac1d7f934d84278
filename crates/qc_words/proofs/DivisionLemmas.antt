-- Quotients and remainders of words, as numbers that are not taken modulo 2 ^ w.
use Rattle.std.proofs.Common.{◌≡◌, ◌≢◌, ◌↔◌, ◌⊎◌, inl, inr, ℕ, zero, suc, ◌+◌, ◌-◌, ◌*◌, ◌/◌, ◌%◌, ◌^◌, ◌<◌, ◌≤◌, ◌==◌, false, ℤ, pos, negsuc, neg_ℤ, ◌+ℤ◌, ◌*ℤ◌, ◌<ℤ◌, unsigned_abs, int_div, int_rem, refl, sym, ◌∙◌, ap, arith}
use Rattle.std.proofs.Math.Nat.{mod-lt, div-le_self, div-lt_self, div-one, mod-one, mod-eq_of_lt, zero-mod}
use Rattle.std.proofs.lemmas.Nat.{pow_pos, div-add-mod'}
use Rattle.std.proofs.lemmas.Bool.{cases_lt}
use Rattle.std.proofs.lemmas.Int.{ints, quot-rem, rem_below}
use Rattle.qc_lists.specs.Law.Powers.{twice_half}
use Rattle.qc_words.specs.Operators.{result_of}
use Rattle.qc_words.specs.Words.{signed_of, word_of, FitsSignedWord}
use Rattle.qc_words.specs.declared.operator.Op.TheVariants.{Divu, Modu, Quot, Rem}
use Rattle.qc_words.proofs.ArithmeticLemmas.{positive_test}
use Rattle.qc_words.specs.Law.Results.{word_of-pos}
use Rattle.qc_words.proofs.WordLemmas.{signed_of-low, signed_of-high, signed_of-range, signed_of-word_of}

pub quotient_of-unsigned : (w a b : ℕ) → 0 < b → result_of Divu w a b * b + result_of Modu w a b ≡ a
quotient_of-unsigned w a zero positive = absurd (omega arith)
quotient_of-unsigned w a (suc b) positive = rw (positive_test b) (div-add-mod' a (suc b))

pub remainder_of-unsigned : (w a b : ℕ) → 0 < b → result_of Modu w a b < b
remainder_of-unsigned w a zero positive = absurd (omega arith)
remainder_of-unsigned w a (suc b) positive = rw (positive_test b) (mod-lt a positive)

-- ---- signed numbers

fits_from_abs : (w : ℕ) (z : ℤ) → unsigned_abs z < 2 ^ (w - 1) → FitsSignedWord w z
fits_from_abs w (pos n) small = record { least = omega (arith, ints); greatest = omega (arith, ints) }
fits_from_abs w (negsuc n) small = record { least = omega (arith, ints); greatest = omega (arith, ints) }

abs_of_fitting : (w : ℕ) (z : ℤ) → FitsSignedWord w z → unsigned_abs z ≤ 2 ^ (w - 1)
abs_of_fitting w (pos n) range = omega (arith, ints, range.greatest)
abs_of_fitting w (negsuc n) range = omega (arith, ints, range.least)

signed_of-nonzero : (w b : ℕ) → 1 ≤ w → 0 < b → b < 2 ^ w → 0 < unsigned_abs (signed_of w b)
signed_of-nonzero w b positive nonzero below = elim (cases_lt b (2 ^ (w - 1))) [
  | inl low ↦ rw (signed_of-low w b low) nonzero
  | inr high ↦ rw (signed_of-high w b high below) (omega arith)
]

pub remainder_of-signed : (w a b : ℕ) → 1 ≤ w → 0 < b → b < 2 ^ w →
    signed_of w (result_of Rem w a b) ≡ int_rem (signed_of w a) (signed_of w b)
remainder_of-signed w a zero positive nonzero right = absurd (omega arith)
remainder_of-signed w a (suc b) positive nonzero right =
    let x = signed_of w a in let y = signed_of w (suc b) in
    let small : unsigned_abs (int_rem x y) < unsigned_abs y =
    rem_below x y (signed_of-nonzero w (suc b) positive nonzero right) in
    let half : unsigned_abs y ≤ 2 ^ (w - 1) = abs_of_fitting w y (signed_of-range w (suc b) positive right) in
    rw (positive_test b) (signed_of-word_of w (int_rem x y) positive (fits_from_abs w (int_rem x y) (omega arith)))

pub remainder_of-small : (w a b : ℕ) → 1 ≤ w → 0 < b → b < 2 ^ w →
    unsigned_abs (signed_of w (result_of Rem w a b)) < unsigned_abs (signed_of w b)
remainder_of-small w a b positive nonzero right =
    rw (remainder_of-signed w a b positive nonzero right)
    (rem_below (signed_of w a) (signed_of w b) (signed_of-nonzero w b positive nonzero right))

neg_sign : (r a : ℕ) → (neg_ℤ (pos r) ≡ pos 0) ⊎ ((neg_ℤ (pos r) <ℤ pos 0) ↔ (negsuc a <ℤ pos 0))
neg_sign zero a = inl refl
neg_sign (suc r) a = inr (λ h. omega (arith, ints), λ h. omega (arith, ints))

-- a remainder that is not 0 is negative where the dividend is
rem_sign : (x y : ℤ) → (int_rem x y ≡ pos 0) ⊎ ((int_rem x y <ℤ pos 0) ↔ (x <ℤ pos 0))
rem_sign (pos a) y = inr (λ h. absurd (omega (arith, ints)), λ h. absurd (omega (arith, ints)))
rem_sign (negsuc a) y = neg_sign (suc a % unsigned_abs y) a

pub remainder_of-sign : (w a b : ℕ) → 1 ≤ w → 0 < b → b < 2 ^ w →
    (signed_of w (result_of Rem w a b) ≡ pos 0)
    ⊎ ((signed_of w (result_of Rem w a b) <ℤ pos 0) ↔ (signed_of w a <ℤ pos 0))
remainder_of-sign w a b positive nonzero right =
    rw (remainder_of-signed w a b positive nonzero right) (rem_sign (signed_of w a) (signed_of w b))

-- x is the least number of the width, and y is -1
record Overflows (w : ℕ) (x y : ℤ) : Type 0 where
  dividend : x ≡ neg_ℤ (pos (2 ^ (w - 1)))
  divisor : y ≡ negsuc 0

-- the quotient of two signed numbers of the width is one, but for the least number by -1
quot-range : (w : ℕ) (x y : ℤ) → FitsSignedWord w x → ¬ Overflows w x y → FitsSignedWord w (int_div x y)
quot-range w (pos a) (pos b) range other =
    record { least = omega (arith, ints); greatest = omega (arith, ints, div-le_self a b, range.greatest) }
quot-range w (pos a) (negsuc b) range other =
    record {
      least = omega (arith, ints, div-le_self a (suc b), range.greatest);
      greatest = omega (arith, ints, pow_pos (w - 1));
    }
quot-range w (negsuc a) (pos b) range other =
    record {
      least = omega (arith, ints, div-le_self (suc a) b, range.least);
      greatest = omega (arith, ints, pow_pos (w - 1));
    }
quot-range w (negsuc a) (negsuc zero) range other =
    let differs : suc a ≢ 2 ^ (w - 1) =
    λ e. other (record { dividend = omega (arith, ints, e); divisor = refl }) in
    let whole : suc a / 1 ≡ suc a = div-one (suc a) in
    record { least = omega (arith, ints); greatest = omega (arith, ints, range.least, whole) }
quot-range w (negsuc a) (negsuc (suc b)) range other =
    let less : suc a / suc (suc b) < suc a = div-lt_self (omega arith) (omega arith) in
    record { least = omega (arith, ints); greatest = omega (arith, ints, range.least) }

-- the word of the least signed number, and that of -1
signed_of-least : (w a : ℕ) → 1 ≤ w → a < 2 ^ w → signed_of w a ≡ neg_ℤ (pos (2 ^ (w - 1))) → a ≡ 2 ^ (w - 1)
signed_of-least w a positive below e = elim (cases_lt a (2 ^ (w - 1))) [
  | inl low ↦ absurd (omega (arith, ints, sym (signed_of-low w a low) ∙ e, pow_pos (w - 1)))
  | inr high ↦ omega (arith, ints, sym (signed_of-high w a high below) ∙ e, twice_half w positive)
]

signed_of-minus_one : (w b : ℕ) → 1 ≤ w → b < 2 ^ w → signed_of w b ≡ negsuc 0 → b ≡ 2 ^ w - 1
signed_of-minus_one w b positive below e = elim (cases_lt b (2 ^ (w - 1))) [
  | inl low ↦ absurd (omega (arith, ints, sym (signed_of-low w b low) ∙ e))
  | inr high ↦ omega (arith, ints, sym (signed_of-high w b high below) ∙ e)
]

no_overflow : (w a b : ℕ) → 1 ≤ w → a < 2 ^ w → b < 2 ^ w → (a ≢ 2 ^ (w - 1)) ⊎ (b ≢ 2 ^ w - 1) →
    ¬ Overflows w (signed_of w a) (signed_of w b)
no_overflow w a b positive left right (inl other) over = other (signed_of-least w a positive left over.dividend)
no_overflow w a b positive left right (inr other) over = other (signed_of-minus_one w b positive right over.divisor)

pub quotient_of-signed : (w a b : ℕ) → 1 ≤ w → a < 2 ^ w → 0 < b → b < 2 ^ w → (a ≢ 2 ^ (w - 1)) ⊎ (b ≢ 2 ^ w - 1) →
    signed_of w (result_of Quot w a b) *ℤ signed_of w b +ℤ signed_of w (result_of Rem w a b) ≡ signed_of w a
quotient_of-signed w a zero positive left nonzero right other = absurd (omega arith)
quotient_of-signed w a (suc b) positive left nonzero right other =
    let x = signed_of w a in let y = signed_of w (suc b) in
    let range : FitsSignedWord w (int_div x y) =
    quot-range w x y (signed_of-range w a positive left) (no_overflow w a (suc b) positive left right other) in
    let quotient : signed_of w (word_of w (int_div x y)) ≡ int_div x y =
    signed_of-word_of w (int_div x y) positive range in
    rw (remainder_of-signed w a (suc b) positive nonzero right)
    (rw (positive_test b) (rw quotient (quot-rem x y)))

-- ---- the least number by -1

half_word : (w : ℕ) → 1 ≤ w → signed_of w (2 ^ (w - 1)) ≡ negsuc (2 ^ (w - 1) - 1)
half_word w positive =
    let halves : 2 ^ w ≡ 2 * 2 ^ (w - 1) = twice_half w positive in
    signed_of-high w (2 ^ (w - 1)) (omega arith) (omega (arith, pow_pos (w - 1)))
    ∙ ap negsuc (omega (arith, pow_pos (w - 1)))

ones_word : (w : ℕ) → 1 ≤ w → signed_of w (2 ^ w - 1) ≡ negsuc 0
ones_word w positive =
    let halves : 2 ^ w ≡ 2 * 2 ^ (w - 1) = twice_half w positive in
    signed_of-high w (2 ^ w - 1) (omega (arith, pow_pos (w - 1))) (omega (arith, pow_pos w))
    ∙ ap negsuc (omega (arith, pow_pos w))

ones_test : (w : ℕ) → 1 ≤ w → (2 ^ w - 1 == 0) ≡ false
ones_test w positive = let halves : 2 ^ w ≡ 2 * 2 ^ (w - 1) = twice_half w positive in grind (arith, pow_pos (w - 1))

pub quotient_of-least : (w : ℕ) → 1 ≤ w → result_of Quot w (2 ^ (w - 1)) (2 ^ w - 1) ≡ 2 ^ (w - 1)
quotient_of-least w positive =
    let halves : 2 ^ w ≡ 2 * 2 ^ (w - 1) = twice_half w positive in
    let whole : suc (2 ^ (w - 1) - 1) / 1 ≡ 2 ^ (w - 1) =
    div-one (suc (2 ^ (w - 1) - 1)) ∙ omega (arith, pow_pos (w - 1)) in
    rw (ones_test w positive, half_word w positive, ones_word w positive)
    (ap (λ n. word_of w (pos n)) whole ∙ word_of-pos w (2 ^ (w - 1)) ∙ mod-eq_of_lt (omega (arith, pow_pos (w - 1))))

pub remainder_of-least : (w : ℕ) → 1 ≤ w → result_of Rem w (2 ^ (w - 1)) (2 ^ w - 1) ≡ 0
remainder_of-least w positive =
    rw (ones_test w positive, half_word w positive, ones_word w positive)
    (ap (λ n. word_of w (neg_ℤ (pos n))) (mod-one (suc (2 ^ (w - 1) - 1))) ∙ word_of-pos w 0 ∙ zero-mod (2 ^ w))
