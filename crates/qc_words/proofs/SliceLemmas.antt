-- A word by its low bits and the others.
use Rattle.std.proofs.Common.{◌≡◌, ℕ, inl, inr, min, ◌+◌, ◌-◌, ◌*◌, ◌/◌, ◌%◌, ◌^◌, ◌<◌, ◌≤◌, bit_or, refl, sym, ◌∙◌, ap, arith}
use Rattle.std.specs.Int.{bit_at}
use Rattle.std.proofs.Math.Nat.{mod-eq_of_lt, mod-add-mod, add-mod, add-mod_right, mod-lt, div-one}
use Rattle.std.proofs.lemmas.Nat.{pow_pos, and_mask, or_shifted, shr_below, shr_split}
use Rattle.std.proofs.lemmas.Nat.Bits.{same_from_bits_below}
use Rattle.std.proofs.lemmas.Bool.{cases_lt}
use Rattle.qc_words.specs.Operators.{result_of, difference_of, shift_left_of, slice_of, sign_extension_of, signed_shift_right_of}
use Rattle.qc_words.specs.declared.operator.Op.TheVariants.{Add, Sub, And}
use Rattle.qc_words.proofs.ArithmeticLemmas.{difference_of-natural}
use Rattle.qc_words.specs.Law.Results.{word_of-lt}
use Rattle.qc_words.proofs.WordLemmas.{mod-mod_narrower, slice_of-sign_extension, bit_at-mod, bit_at-shifted_sign, bit_at-sign_extension, bit_at-shift_left_high}

pub sum_undoes_difference : (w a b : ℕ) → a < 2 ^ w → b < 2 ^ w → result_of Add w (result_of Sub w a b) b ≡ a
sum_undoes_difference w a b left right =
    let same : a + (2 ^ w - b) + b ≡ a + 2 ^ w = omega arith in
    ap (λ v. (v + b) % 2 ^ w) (difference_of-natural w a b (omega arith))
    ∙ mod-add-mod (a + (2 ^ w - b)) (2 ^ w) b ∙ ap (λ v. v % 2 ^ w) same
    ∙ add-mod_right a (2 ^ w) ∙ mod-eq_of_lt left

pub low_bits_by_mask : (m w a : ℕ) → slice_of 0 m a ≡ result_of And w a (2 ^ m - 1)
low_bits_by_mask m w a = rw div-one (sym (and_mask a m))

-- the bits from m on in their places, of a word whose low m bits are d
high_bits : (m w a : ℕ) → m < w → a < 2 ^ w → shift_left_of w (slice_of m (w - m) a) m ≡ a / 2 ^ m * 2 ^ m
high_bits m w a within below =
    let parts : w ≡ w - m + m = omega arith in
    let narrow : a / 2 ^ m < 2 ^ (w - m) = shr_below a (w - m) m (rw (← parts) below) in
    let kept : a / 2 ^ m * 2 ^ m < 2 ^ w = omega (arith, shr_split a m) in
    rw (mod-eq_of_lt narrow, mod-eq_of_lt within) (mod-eq_of_lt kept)

pub word_of_parts : (m w a : ℕ) → m < w → a < 2 ^ w →
    bit_or (shift_left_of w (slice_of m (w - m) a) m) (slice_of 0 m a) ≡ a
word_of_parts m w a within below =
    rw (high_bits m w a within below, div-one)
    (or_shifted (a / 2 ^ m) m (a % 2 ^ m) (mod-lt a (pow_pos m)) ∙ shr_split a m)

no_remainder : (d r unit : ℕ) → d < unit → r < unit → (d + r) % unit ≡ r → d ≡ 0
no_remainder d r unit first second same = elim (cases_lt (d + r) unit) [
  | inl small ↦ let whole : (d + r) % unit ≡ d + r = mod-eq_of_lt small in omega arith
  | inr large ↦
      let over : d + r ≡ d + r - unit + unit = omega arith in
      let rest : (d + r) % unit ≡ d + r - unit =
      ap (λ v. v % unit) over ∙ add-mod_right (d + r - unit) unit ∙ mod-eq_of_lt (omega arith) in
      omega arith
]

-- the difference of two words with the same low bits has zeros there
low_bits_of_difference : (m w a s : ℕ) → m ≤ w → a < 2 ^ w → s < 2 ^ w → s % 2 ^ m ≡ a % 2 ^ m →
    difference_of w a s % 2 ^ m ≡ 0
low_bits_of_difference m w a s within left right same =
    let d = difference_of w a s in
    let back : (d + s) % 2 ^ w ≡ a = sum_undoes_difference w a s left right in
    let low : (d % 2 ^ m + a % 2 ^ m) % 2 ^ m ≡ a % 2 ^ m =
    ap (λ v. (d % 2 ^ m + v) % 2 ^ m) (sym same) ∙ sym (add-mod d s (2 ^ m))
    ∙ sym (mod-mod_narrower m w (d + s) within) ∙ ap (λ v. v % 2 ^ m) back in
    no_remainder (d % 2 ^ m) (a % 2 ^ m) (2 ^ m) (mod-lt d (pow_pos m)) (mod-lt a (pow_pos m)) low

pub word_of_difference : (m w a s : ℕ) → m < w → a < 2 ^ w → s < 2 ^ w → s % 2 ^ m ≡ a % 2 ^ m →
    result_of Add w (shift_left_of w (slice_of m (w - m) (difference_of w a s)) m) s ≡ a
word_of_difference m w a s within left right same =
    let d = difference_of w a s in
    let none : d % 2 ^ m ≡ 0 = low_bits_of_difference m w a s (omega arith) left right same in
    let whole : d / 2 ^ m * 2 ^ m ≡ d = omega (arith, shr_split d m) in
    ap (λ v. (v + s) % 2 ^ w) (high_bits m w d within (word_of-lt w _) ∙ whole)
    ∙ sum_undoes_difference w a s left right

pub low_bits_of_extension : (m w a : ℕ) → 1 ≤ m → m ≤ w → sign_extension_of m w (slice_of 0 m a) % 2 ^ m ≡ a % 2 ^ m
low_bits_of_extension m w a positive within =
    let low : slice_of 0 m a ≡ a % 2 ^ m = rw div-one refl in
    rw low
    (ap (λ v. v % 2 ^ m) (sym (div-one (sign_extension_of m w (a % 2 ^ m))))
    ∙ slice_of-sign_extension m w (a % 2 ^ m) positive within (mod-lt a (pow_pos m)))

-- a word by its low bits as a signed number and what is left
pub word_of_split : (m w a : ℕ) → 1 ≤ m → m < w → a < 2 ^ w →
    let low = sign_extension_of m w (slice_of 0 m a) in
    result_of Add w (shift_left_of w (slice_of m (w - m) (difference_of w a low)) m) low ≡ a
word_of_split m w a positive within below =
    word_of_difference m w a (sign_extension_of m w (slice_of 0 m a)) within below (word_of-lt w _)
    (low_bits_of_extension m w a positive (omega arith))

-- a sign extension of the low bits by two shifts
pub extension_by_shifts : (m w a : ℕ) → 1 ≤ m → m ≤ w →
    sign_extension_of m w (slice_of 0 m a) ≡ signed_shift_right_of w (shift_left_of w a (w - m)) (w - m)
extension_by_shifts m w a positive within =
    let low : slice_of 0 m a ≡ a % 2 ^ m = rw div-one refl in
    let amount : (w - m) % w ≡ w - m = mod-eq_of_lt (omega arith) in
    same_from_bits_below w _ _ (word_of-lt w _) (word_of-lt w _) (λ k inside.
    let left : bit_at (shift_left_of w a (w - m)) (w - m + min k (m - 1)) ≡ bit_at a (min k (m - 1)) =
    bit_at-shift_left_high w a (w - m) (w - m + min k (m - 1)) (omega arith) (omega arith)
    ∙ ap (bit_at a) (omega (arith, amount)) in
    ap (λ v. bit_at (sign_extension_of m w v) k) low
    ∙ bit_at-sign_extension m w (a % 2 ^ m) k positive (mod-lt a (pow_pos m)) inside
    ∙ bit_at-mod a m (min k (m - 1)) (omega arith)
    ∙ sym (bit_at-shifted_sign w w (shift_left_of w a (w - m)) ((w - m) % w) k
    (omega arith) (mod-lt _ (pow_pos w)) inside
    ∙ ap (λ j. bit_at (shift_left_of w a (w - m)) j) (omega (arith, amount)) ∙ left))
