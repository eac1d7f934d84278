-- Lemmas on words of any width.
use Rattle.std.proofs.Common.{FitsSigned, ◌≡◌, ℕ, suc, ◌+◌, ◌-◌, ◌*◌, ◌%◌, ◌^◌, ◌<◌, ◌≤◌, ◌/◌, ℤ, pos, negsuc, min, inl, inr, add-zero, sym, ◌∙◌, ap, subst, arith}
use Rattle.std.proofs.Math.Nat.{pow-le-pow_right, mod-eq_of_lt, mod-mod_of_dvd, mod-lt, dvd-mul_left, div-one}
use Rattle.std.proofs.lemmas.Nat.{pow_pos, pow-add, mod_low, shr_high, shr_split, shr-shr, div_below, le-div}
use Rattle.std.proofs.lemmas.Bool.{cases_lt}
use Rattle.std.proofs.lemmas.Int.{ints}
use Rattle.std.proofs.lemmas.Nat.Bits.{bit_at_cat_low, bit_at_cat_high, bit_at_above, bit_at-lt, bit_at-zero}
use Rattle.std.specs.Int.{◌∣◌, bit_at, int_shr, w128, cast_unsigned}
use Rattle.qc_lists.specs.Law.Powers.{twice_half}
use Rattle.qc_words.specs.Operators.{complement_of, amount_of, shift_left_of, slice_of, sign_extension_of}
use Rattle.qc_words.specs.Words.{signed_of, word_of, FitsSignedWord}
use Rattle.qc_words.specs.Law.Results.{word_of-pos, word_of-negsuc}

-- ---- the signed number of a word

pub signed_of-low : (w a : ℕ) → a < 2 ^ (w - 1) → signed_of w a ≡ pos a
unfolding signed_of
signed_of-low w a low = grind arith

pub signed_of-high : (w a : ℕ) → 2 ^ (w - 1) ≤ a → a < 2 ^ w → signed_of w a ≡ negsuc (2 ^ w - 1 - a)
unfolding signed_of
signed_of-high w a high below = grind (arith, ints)

-- ---- reading a word as a signed number and writing it back

pub word_of-signed_of : (w a : ℕ) → 1 ≤ w → a < 2 ^ w → word_of w (signed_of w a) ≡ a
word_of-signed_of w a positive below = elim (cases_lt a (2 ^ (w - 1))) [
  | inl low ↦ ap (word_of w) (signed_of-low w a low) ∙ word_of-pos w a ∙ mod-eq_of_lt below
  | inr high ↦
      let rest : (2 ^ w - 1 - a) % 2 ^ w ≡ 2 ^ w - 1 - a = mod-eq_of_lt (omega (arith, pow_pos w)) in
      ap (word_of w) (signed_of-high w a high below) ∙ word_of-negsuc w (2 ^ w - 1 - a) ∙ omega arith
]

pub signed_of-range : (w a : ℕ) → 1 ≤ w → a < 2 ^ w → FitsSignedWord w (signed_of w a)
signed_of-range w a positive below = elim (cases_lt a (2 ^ (w - 1))) [
  | inl low ↦ rw (signed_of-low w a low) (record { least = omega (arith, ints); greatest = omega (arith, ints) })
  | inr high ↦
      let halves : 2 ^ w ≡ 2 * 2 ^ (w - 1) = twice_half w positive in
      rw (signed_of-high w a high below) (record { least = omega (arith, ints); greatest = omega (arith, ints) })
]

pub signed_of-word_of : (w : ℕ) (z : ℤ) → 1 ≤ w → FitsSignedWord w z → signed_of w (word_of w z) ≡ z
signed_of-word_of w (pos n) positive range =
    let halves : 2 ^ w ≡ 2 * 2 ^ (w - 1) = twice_half w positive in
    let low : n < 2 ^ (w - 1) = omega (arith, ints, range.greatest) in
    let whole : n % 2 ^ w ≡ n = mod-eq_of_lt (omega arith) in
    rw (word_of-pos w n, whole) (signed_of-low w n low)
signed_of-word_of w (negsuc n) positive range =
    let halves : 2 ^ w ≡ 2 * 2 ^ (w - 1) = twice_half w positive in
    let low : n < 2 ^ (w - 1) = omega (arith, ints, range.least) in
    let whole : n % 2 ^ w ≡ n = mod-eq_of_lt (omega arith) in
    let back : 2 ^ w - 1 - (2 ^ w - 1 - n) ≡ n = omega arith in
    rw (word_of-negsuc w n, whole) (signed_of-high w (2 ^ w - 1 - n) (omega arith) (omega arith) ∙ ap negsuc back)

-- ---- narrowing a word

pub pow_split : (w n : ℕ) → w ≤ n → 2 ^ n ≡ 2 ^ (n - w) * 2 ^ w
pow_split w n within =
    let parts : n ≡ (n - w) + w = omega arith in
    ap (λ k. 2 ^ k) parts ∙ pow-add 2 (n - w) w

-- a number below 2 ^ n, and its distance from the greatest, by their low k bits and the others
complement_parts : (rest high low unit : ℕ) → low < unit →
    (rest + high + 1) * unit - 1 - (high * unit + low) ≡ rest * unit + (unit - 1 - low)
complement_parts rest high low unit below = omega arith

complement_split : (k n a : ℕ) → k ≤ n → a < 2 ^ n →
    2 ^ n - 1 - a ≡ (2 ^ (n - k) - 1 - a / 2 ^ k) * 2 ^ k + (2 ^ k - 1 - a % 2 ^ k)
complement_split k n a within below =
    let parts : 2 ^ n ≡ 2 ^ (n - k) * 2 ^ k = pow_split k n within in
    let high : a / 2 ^ k < 2 ^ (n - k) = div_below a (2 ^ k) (2 ^ (n - k)) (pow_pos k) (omega arith) in
    let rest : 2 ^ (n - k) ≡ (2 ^ (n - k) - 1 - a / 2 ^ k) + a / 2 ^ k + 1 = omega arith in
    let whole : 2 ^ n ≡ ((2 ^ (n - k) - 1 - a / 2 ^ k) + a / 2 ^ k + 1) * 2 ^ k = parts ∙ ap (λ h. h * 2 ^ k) rest in
    let self : a ≡ a / 2 ^ k * 2 ^ k + a % 2 ^ k = sym (shr_split a k) in
    ap (λ m. m - 1 - a) whole
    ∙ ap (λ m. ((2 ^ (n - k) - 1 - a / 2 ^ k) + a / 2 ^ k + 1) * 2 ^ k - 1 - m) self
    ∙ complement_parts (2 ^ (n - k) - 1 - a / 2 ^ k) (a / 2 ^ k) (a % 2 ^ k) (2 ^ k) (mod-lt a (pow_pos k))

pub mod-mod_narrower : (w n m : ℕ) → w ≤ n → m % 2 ^ n % 2 ^ w ≡ m % 2 ^ w
mod-mod_narrower w n m wider =
    let divides : 2 ^ w ∣ 2 ^ n = subst (λ (p : ℕ). 2 ^ w ∣ p) (sym (pow_split w n wider)) (dvd-mul_left (2 ^ w) (2 ^ (n - w))) in
    mod-mod_of_dvd (2 ^ w) m divides

-- the low bits of the word for a number are the narrower word for it
pub word_of-mod : (w n : ℕ) (z : ℤ) → w ≤ n → word_of n z % 2 ^ w ≡ word_of w z
word_of-mod w n (pos m) wider = rw (word_of-pos n m, word_of-pos w m) (mod-mod_narrower w n m wider)
word_of-mod w n (negsuc m) wider =
    rw (word_of-negsuc n m, word_of-negsuc w m)
    (ap (λ k. k % 2 ^ w) (complement_split w n (m % 2 ^ n) wider (mod-lt m (pow_pos n)))
    ∙ mod_low (2 ^ (n - w) - 1 - m % 2 ^ n / 2 ^ w) w (2 ^ w - 1 - m % 2 ^ n % 2 ^ w) (omega (arith, pow_pos w))
    ∙ ap (λ k. 2 ^ w - 1 - k) (mod-mod_narrower w n m wider))

-- ---- extensions and slices

pub slice_of-whole : (w a : ℕ) → a < 2 ^ w → slice_of 0 w a ≡ a
slice_of-whole w a below = rw div-one (mod-eq_of_lt below)

pub slice_of-sign_extension : (w n a : ℕ) → 1 ≤ w → w ≤ n → a < 2 ^ w → slice_of 0 w (sign_extension_of w n a) ≡ a
slice_of-sign_extension w n a positive wider below =
    rw div-one (word_of-mod w n (signed_of w a) wider ∙ word_of-signed_of w a positive below)

in_wider_range : (w n : ℕ) (z : ℤ) → w ≤ n → FitsSignedWord w z → FitsSignedWord n z
in_wider_range w n z wider range =
    let powers : 2 ^ (w - 1) ≤ 2 ^ (n - 1) = pow-le-pow_right (omega arith) (omega arith) in
    record { least = omega (arith, ints, range.least); greatest = omega (arith, ints, range.greatest) }

-- a sign extension stands for the same signed number
pub signed_of-sign_extension : (w n a : ℕ) → 1 ≤ w → w ≤ n → a < 2 ^ w → signed_of n (sign_extension_of w n a) ≡ signed_of w a
signed_of-sign_extension w n a positive wider below =
    signed_of-word_of n (signed_of w a) (omega arith)
    (in_wider_range w n (signed_of w a) wider (signed_of-range w a positive below))

-- ---- bits

parity : (half high : ℕ) → high < 2 * half → (2 * half - 1 - high) % 2 ≡ 1 - high % 2
parity half high below = omega arith

pub bit_at-complement : (w a k : ℕ) → a < 2 ^ w → k < w → bit_at (complement_of w a) k ≡ 1 - bit_at a k
bit_at-complement w a k below within =
    let high : a / 2 ^ k < 2 ^ (w - k) =
    div_below a (2 ^ k) (2 ^ (w - k)) (pow_pos k) (let parts = pow_split k w (omega arith) in omega arith) in
    let halves : 2 ^ (w - k) ≡ 2 * 2 ^ (w - k - 1) = twice_half (w - k) (omega arith) in
    ap (λ n. n / 2 ^ k % 2) (complement_split k w a (omega arith) below)
    ∙ ap (λ n. n % 2) (shr_high (2 ^ (w - k) - 1 - a / 2 ^ k) k (2 ^ k - 1 - a % 2 ^ k) (omega (arith, pow_pos k)))
    ∙ ap (λ n. (n - 1 - a / 2 ^ k) % 2) halves
    ∙ parity (2 ^ (w - k - 1)) (a / 2 ^ k) (omega arith)

pub bit_at-mod : (m n k : ℕ) → k < n → bit_at (m % 2 ^ n) k ≡ bit_at m k
bit_at-mod m n k within =
    sym (bit_at_cat_low (m / 2 ^ n) n (m % 2 ^ n) k within) ∙ ap (λ v. bit_at v k) (shr_split m n)

pub bit_at-div : (m s k : ℕ) → bit_at (m / 2 ^ s) k ≡ bit_at m (s + k)
bit_at-div m s k = ap (λ v. v % 2) (shr-shr m s k)

-- the sign bit of a word that stands for a negative number
pub sign_bit-high : (w a : ℕ) → 1 ≤ w → 2 ^ (w - 1) ≤ a → a < 2 ^ w → bit_at a (w - 1) ≡ 1
sign_bit-high w a positive high below =
    let halves : 2 ^ w ≡ 2 * 2 ^ (w - 1) = twice_half w positive in
    let lower : 1 ≤ a / 2 ^ (w - 1) = le-div 1 a (2 ^ (w - 1)) (pow_pos (w - 1)) (omega arith) in
    let upper : a / 2 ^ (w - 1) < 2 = div_below a (2 ^ (w - 1)) 2 (pow_pos (w - 1)) (omega arith) in
    omega arith

-- the bits of a word and, from its sign bit on, copies of that bit
bit_at-low : (w a j : ℕ) → a < 2 ^ (w - 1) → bit_at a j ≡ bit_at a (min j (w - 1))
bit_at-low w a j low = elim (cases_lt j (w - 1)) [
  | inl inside ↦ ap (bit_at a) (omega arith)
  | inr beyond ↦
      bit_at_above a (w - 1) j low beyond ∙ sym (bit_at_above a (w - 1) (w - 1) low (omega arith))
      ∙ ap (bit_at a) (let least : w - 1 ≡ min j (w - 1) = omega arith in least)
]

bit_at-high : (w a j : ℕ) → 1 ≤ w → 2 ^ (w - 1) ≤ a → a < 2 ^ w →
    1 - bit_at (complement_of w a) j ≡ bit_at a (min j (w - 1))
bit_at-high w a j positive high below = elim (cases_lt j w) [
  | inl inside ↦
      let least : min j (w - 1) ≡ j = omega arith in
      rw (bit_at-complement w a j below inside, least) (omega (arith, bit_at-lt a j))
  | inr beyond ↦
      let least : min j (w - 1) ≡ w - 1 = omega arith in
      let none : bit_at (complement_of w a) j ≡ 0 = bit_at_above (complement_of w a) w j (omega (arith, pow_pos w)) beyond in
      rw (none, least) (sym (sign_bit-high w a positive high below))
]

-- the word of n bits for the signed number of a, shifted right: bit k is the bit s + k of a, or
-- from the sign bit on that bit
pub bit_at-shifted_sign : (w n a s k : ℕ) → 1 ≤ w → a < 2 ^ w → k < n →
    bit_at (word_of n (int_shr (signed_of w a) s)) k ≡ bit_at a (min (s + k) (w - 1))
bit_at-shifted_sign w n a s k positive below within = elim (cases_lt a (2 ^ (w - 1))) [
  | inl low ↦
      rw (signed_of-low w a low, word_of-pos n (a / 2 ^ s))
      (bit_at-mod (a / 2 ^ s) n k within ∙ bit_at-div a s k ∙ bit_at-low w a (s + k) low)
  | inr high ↦
      rw (signed_of-high w a high below, word_of-negsuc n (complement_of w a / 2 ^ s))
      (bit_at-complement n (complement_of w a / 2 ^ s % 2 ^ n) k (mod-lt _ (pow_pos n)) within
      ∙ ap (λ v. 1 - v) (bit_at-mod (complement_of w a / 2 ^ s) n k within ∙ bit_at-div (complement_of w a) s k)
      ∙ bit_at-high w a (s + k) positive high below)
]

int_shr-zero : (z : ℤ) → int_shr z 0 ≡ z
int_shr-zero (pos m) = ap pos (div-one m)
int_shr-zero (negsuc m) = ap negsuc (div-one m)

pub bit_at-sign_extension : (w n a k : ℕ) → 1 ≤ w → a < 2 ^ w → k < n →
    bit_at (sign_extension_of w n a) k ≡ bit_at a (min k (w - 1))
bit_at-sign_extension w n a k positive below within =
    ap (λ z. bit_at (word_of n z) k) (sym (int_shr-zero (signed_of w a)))
    ∙ bit_at-shifted_sign w n a 0 k positive below within
    ∙ ap (λ j. bit_at a (min j (w - 1))) (let same : 0 + k ≡ k = omega arith in same)

pub bit_at-slice : (low n a k : ℕ) → k < n → bit_at (slice_of low n a) k ≡ bit_at a (low + k)
bit_at-slice low n a k within = bit_at-mod (a / 2 ^ low) n k within ∙ bit_at-div a low k

pub bit_at-shift_left_low : (w a b k : ℕ) → k < w → k < amount_of w b → bit_at (shift_left_of w a b) k ≡ 0
bit_at-shift_left_low w a b k within low =
    bit_at-mod (a * 2 ^ amount_of w b) w k within
    ∙ ap (λ v. bit_at v k) (sym (add-zero (a * 2 ^ amount_of w b)))
    ∙ bit_at_cat_low a (amount_of w b) 0 k low ∙ bit_at-zero k

pub bit_at-shift_left_high : (w a b k : ℕ) → k < w → amount_of w b ≤ k →
    bit_at (shift_left_of w a b) k ≡ bit_at a (k - amount_of w b)
bit_at-shift_left_high w a b k within high =
    bit_at-mod (a * 2 ^ amount_of w b) w k within
    ∙ ap (λ v. bit_at v k) (sym (add-zero (a * 2 ^ amount_of w b)))
    ∙ bit_at_cat_high a (amount_of w b) 0 k (pow_pos (amount_of w b)) high

-- ---- a machine's signed number of 128 bits, read bit by bit

bits_of_negative : (n : ℕ) → n < 2 ^ 127 → 2 ^ 128 - suc n ≡ 2 ^ 128 - 1 - n % 2 ^ 128
bits_of_negative n small =
    let whole : n % 2 ^ 128 ≡ n = mod-eq_of_lt (omega arith) in rw whole (omega arith)

pub cast_unsigned-low : (w : ℕ) (z : ℤ) → w ≤ 128 → FitsSigned w128 z → cast_unsigned w128 z % 2 ^ w ≡ word_of w z
cast_unsigned-low w (pos n) within fits = sym (word_of-pos w n)
cast_unsigned-low w (negsuc n) within fits =
    ap (λ v. v % 2 ^ w) (bits_of_negative n fits.sfits ∙ sym (word_of-negsuc 128 n)) ∙ word_of-mod w 128 (negsuc n) within
