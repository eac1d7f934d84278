-- Equations between operators at words of any width.
use Rattle.std.proofs.Common.{◌≡◌, ℕ, add-zero, inl, inr, ◌+◌, ◌-◌, ◌*◌, ◌%◌, ◌^◌, ◌<◌, ◌≤◌, ◌==◌, max, not, nat_lt, int_lt, bit_and, bit_or, bit_xor, sym, ◌∙◌, ap, arith}
use Rattle.std.specs.Int.{bit_at}
use Rattle.std.specs.Int.Bits.{or_add_and, xor_add_and, xor_self, xor_assoc, xor_zero_r}
use Rattle.std.proofs.Math.Nat.{mod-eq_of_lt, mod-add-mod, add-mod-mod, add-mod_right, mul_assoc, mod_self, zero-mul, one-mul}
use Rattle.std.proofs.lemmas.Nat.{pow_pos, and_comm, and_le_l, and_le_r, and_mask, and-not, mul-mod_first, mul-mod_second, xor_lt, or_lt}
use Rattle.std.proofs.lemmas.Nat.Bits.{same_from_bits, bit_at_or, bit_at_above, and_pow}
use Rattle.std.proofs.lemmas.Bool.{cases_lt, cases_eq}
use Rattle.qc_lists.specs.Law.Powers.{twice_half}
use Rattle.qc_words.specs.Operators.{result_of, complement_of, difference_of, negation_of, truth_of}
use Rattle.qc_words.specs.Words.{signed_of}
use Rattle.qc_words.specs.declared.operator.Op.TheVariants.{Add, Sub, Mul, And, Or, Xor, Com, Neg, Eq, Ne, Lt, Ltu}
use Rattle.qc_words.proofs.ArithmeticLemmas.{difference_of-natural, negation_of-natural}
use Rattle.qc_words.proofs.WordLemmas.{sign_bit-high, signed_of-low, signed_of-high}

-- ---- order

pub equal_commutes : (a b : ℕ) → (a == b) ≡ (b == a)
equal_commutes a b = grind arith

pub add_associates : (w a b c : ℕ) → result_of Add w (result_of Add w a b) c ≡ result_of Add w a (result_of Add w b c)
add_associates w a b c =
    let same : a + b + c ≡ a + (b + c) = omega arith in
    mod-add-mod (a + b) (2 ^ w) c ∙ ap (λ v. v % 2 ^ w) same ∙ sym (add-mod-mod a (b + c) (2 ^ w))

pub mul_associates : (w a b c : ℕ) → result_of Mul w (result_of Mul w a b) c ≡ result_of Mul w a (result_of Mul w b c)
mul_associates w a b c =
    mul-mod_first (a * b) c (2 ^ w) ∙ ap (λ v. v % 2 ^ w) (mul_assoc a b c) ∙ sym (mul-mod_second a (b * c) (2 ^ w))

max_associates : (a b c : ℕ) → max (max a b) c ≡ max a (max b c)
max_associates a b c = omega arith

pub or_associates : (a b c : ℕ) → bit_or (bit_or a b) c ≡ bit_or a (bit_or b c)
or_associates a b c = same_from_bits _ _ (λ i.
    bit_at_or (bit_or a b) c i ∙ ap (λ v. max v (bit_at c i)) (bit_at_or a b i)
    ∙ max_associates (bit_at a i) (bit_at b i) (bit_at c i)
    ∙ sym (bit_at_or a (bit_or b c) i ∙ ap (λ v. max (bit_at a i) v) (bit_at_or b c i)))

-- ---- negations, complements and differences

pub difference_of-over : (w a b : ℕ) → a < 2 ^ w → b < 2 ^ w → b ≤ a → difference_of w a b ≡ a - b
difference_of-over w a b left right over =
    let more : a + (2 ^ w - b) ≡ a - b + 2 ^ w = omega arith in
    difference_of-natural w a b (omega arith) ∙ ap (λ v. v % 2 ^ w) more
    ∙ add-mod_right (a - b) (2 ^ w) ∙ mod-eq_of_lt (omega arith)

pub difference_of-below : (w a b : ℕ) → a < 2 ^ w → b < 2 ^ w → a < b → difference_of w a b ≡ a + (2 ^ w - b)
difference_of-below w a b left right under =
    difference_of-natural w a b (omega arith) ∙ mod-eq_of_lt (omega arith)

pub complement_of-difference : (w a : ℕ) → a < 2 ^ w → complement_of w a ≡ difference_of w (2 ^ w - 1) a
complement_of-difference w a below =
    sym (difference_of-over w (2 ^ w - 1) a (omega arith) below (omega arith))

pub complement_of-xor : (w a : ℕ) → a < 2 ^ w → complement_of w a ≡ bit_xor a (2 ^ w - 1)
complement_of-xor w a below =
    let mask : bit_and a (2 ^ w - 1) ≡ a = and_mask a w ∙ mod-eq_of_lt below in
    omega (arith, xor_add_and a (2 ^ w - 1), mask)

pub negation_of-complement : (w a b c : ℕ) → a < 2 ^ w → result_of Neg w a b ≡ result_of Add w (result_of Com w a c) 1
negation_of-complement w a b c below =
    let same : 2 ^ w - a ≡ 2 ^ w - 1 - a + 1 = omega arith in
    negation_of-natural w a (omega arith) ∙ ap (λ v. v % 2 ^ w) same

pub complement_of-negation : (w a b c : ℕ) → a < 2 ^ w → result_of Com w a b ≡ result_of Sub w (result_of Neg w a c) 1
complement_of-negation w a b c below =
    let same : 2 ^ w - a + (2 ^ w - 1) ≡ 2 ^ w - 1 - a + 2 ^ w = omega arith in
    sym (ap (λ v. difference_of w v 1) (negation_of-natural w a (omega arith))
    ∙ difference_of-natural w ((2 ^ w - a) % 2 ^ w) 1 (omega (arith, pow_pos w))
    ∙ mod-add-mod (2 ^ w - a) (2 ^ w) (2 ^ w - 1) ∙ ap (λ v. v % 2 ^ w) same
    ∙ add-mod_right (2 ^ w - 1 - a) (2 ^ w) ∙ mod-eq_of_lt (omega arith))

pub negation_from_zero : (w a : ℕ) → a < 2 ^ w → negation_of w a ≡ difference_of w 0 a
negation_from_zero w a below =
    let same : 2 ^ w - a ≡ 0 + (2 ^ w - a) = omega arith in
    negation_of-natural w a (omega arith) ∙ ap (λ v. v % 2 ^ w) same ∙ sym (difference_of-natural w 0 a (omega arith))

pub difference_of-complements : (w a b c d : ℕ) → a < 2 ^ w → b < 2 ^ w →
    result_of Sub w a b ≡ result_of Com w (result_of Add w (result_of Com w a c) b) d
difference_of-complements w a b c d left right = elim (cases_lt a b) [
  | inl under ↦
      let over : 2 ^ w - 1 - a + b ≡ b - a - 1 + 2 ^ w = omega arith in
      let rest : (2 ^ w - 1 - a + b) % 2 ^ w ≡ b - a - 1 =
      ap (λ v. v % 2 ^ w) over ∙ add-mod_right (b - a - 1) (2 ^ w) ∙ mod-eq_of_lt (omega arith) in
      difference_of-below w a b left right under ∙ omega (arith, rest)
  | inr over ↦
      let rest : (2 ^ w - 1 - a + b) % 2 ^ w ≡ 2 ^ w - 1 - a + b = mod-eq_of_lt (omega arith) in
      difference_of-over w a b left right over ∙ omega (arith, rest)
]

pub sum_of-difference : (w a b c : ℕ) → a < 2 ^ w → b < 2 ^ w →
    result_of Add w a b ≡ result_of Sub w a (result_of Neg w b c)
sum_of-difference w a b c left right = elim (cases_lt 0 b) [
  | inl some ↦
      let negation : negation_of w b ≡ 2 ^ w - b =
      negation_of-natural w b (omega arith) ∙ mod-eq_of_lt (omega arith) in
      let back : 2 ^ w - (2 ^ w - b) ≡ b = omega arith in
      sym (ap (λ v. difference_of w a v) negation
      ∙ difference_of-natural w a (2 ^ w - b) (omega arith)
      ∙ ap (λ v. (a + v) % 2 ^ w) back)
  | inr none ↦
      let zero_b : b ≡ 0 = omega arith in
      let whole : 2 ^ w - 0 ≡ 2 ^ w = omega arith in
      let negation : negation_of w 0 ≡ 0 =
      negation_of-natural w 0 (omega arith) ∙ ap (λ v. v % 2 ^ w) whole ∙ mod_self (2 ^ w) in
      rw (zero_b, negation) (sym (difference_of-natural w a 0 (omega arith)
      ∙ ap (λ v. (a + v) % 2 ^ w) whole ∙ add-mod_right a (2 ^ w) ∙ ap (λ v. v % 2 ^ w) (sym (add-zero a))))
]

-- ---- logic

pub xor_of-difference : (w a b : ℕ) → a < 2 ^ w → b < 2 ^ w →
    result_of Xor w a b ≡ result_of Sub w (result_of Or w a b) (result_of And w a b)
xor_of-difference w a b left right =
    sym (difference_of-over w (bit_or a b) (bit_and a b) (or_lt w a b left right) (omega (arith, and_le_l a b))
    (omega (arith, or_add_and a b, and_le_l a b, and_le_r a b))
    ∙ omega (arith, or_add_and a b, xor_add_and a b))

pub or_of-sum : (w a b : ℕ) → a < 2 ^ w → b < 2 ^ w →
    result_of Or w a b ≡ result_of Add w (result_of Xor w a b) (result_of And w a b)
or_of-sum w a b left right =
    let same : bit_xor a b + bit_and a b ≡ bit_or a b = omega (arith, or_add_and a b, xor_add_and a b) in
    sym (ap (λ v. v % 2 ^ w) same ∙ mod-eq_of_lt (or_lt w a b left right))

-- no bit is 1 in both complements but where it is 0 in both words
and-complements : (w a b : ℕ) → a < 2 ^ w → b < 2 ^ w →
    bit_and (complement_of w a) (complement_of w b) ≡ complement_of w (bit_or a b)
and-complements w a b left right =
    let first = and-not w a (complement_of w b) left (omega arith) in
    let second = and-not w b a right left in
    omega (arith, first, second, and_comm a (complement_of w b), and_comm a b, or_add_and a b)

pub or_of-complements : (w a b c d : ℕ) → a < 2 ^ w → b < 2 ^ w →
    result_of Or w a b ≡ result_of Com w (result_of And w (result_of Com w a c) (result_of Com w b c)) d
or_of-complements w a b c d left right =
    let below : bit_or a b < 2 ^ w = or_lt w a b left right in
    omega (arith, and-complements w a b left right)

pub and_of-complements : (w a b c d : ℕ) → a < 2 ^ w → b < 2 ^ w →
    result_of And w a b ≡ result_of Com w (result_of Or w (result_of Com w a c) (result_of Com w b c)) d
and_of-complements w a b c d left right =
    let below : bit_or a b < 2 ^ w = or_lt w a b left right in
    let parts = or_add_and (complement_of w a) (complement_of w b) in
    let rest : bit_or (complement_of w a) (complement_of w b) ≡ complement_of w (bit_and a b) =
    omega (arith, and-complements w a b left right, parts, or_add_and a b, and_le_l a b) in
    rw rest (omega (arith, and_le_l a b))

-- ---- comparisons by the bits in which two words differ

same_from_xor : (a b : ℕ) → bit_xor a b ≡ 0 → a ≡ b
same_from_xor a b none = omega (arith, none, xor_add_and a b, and_le_l a b, and_le_r a b)

xor_from_same : (a b : ℕ) → a ≡ b → bit_xor a b ≡ 0
xor_from_same a b same = rw same (xor_self b)

equal_test : (a b x : ℕ) → (x ≡ 0 → a ≡ b) → (a ≡ b → x ≡ 0) → (a == b) ≡ nat_lt x 1
equal_test a b x forth back = elim (cases_eq a b) [
  | inl same ↦ let none : x ≡ 0 = back same in grind (arith, none, same)
  | inr other ↦
      let some : 1 ≤ x = elim (cases_lt 0 x) [ inl h ↦ h | inr h ↦ absurd (other (forth (omega arith))) ] in
      grind (arith, some, other)
]

pub equal_of-xor : (w a b : ℕ) → result_of Eq w a b ≡ result_of Ltu w (result_of Xor w a b) 1
equal_of-xor w a b = ap truth_of (equal_test a b (bit_xor a b) (same_from_xor a b) (xor_from_same a b))

unequal_test : (x : ℕ) → not (nat_lt x 1) ≡ nat_lt 0 x
unequal_test x = grind arith

pub unequal_of-xor : (w a b : ℕ) → result_of Ne w a b ≡ result_of Ltu w 0 (result_of Xor w a b)
unequal_of-xor w a b =
    ap (λ t. truth_of (not t)) (equal_test a b (bit_xor a b) (same_from_xor a b) (xor_from_same a b))
    ∙ ap truth_of (unequal_test (bit_xor a b))

-- the sign bit of a word inverted adds half of the words to a low one and takes it from a high one
least_xor_low : (w a : ℕ) → 1 ≤ w → a < 2 ^ (w - 1) → bit_xor a (2 ^ (w - 1)) ≡ a + 2 ^ (w - 1)
least_xor_low w a positive low =
    let none : bit_and a (2 ^ (w - 1)) ≡ 0 =
    and_pow a (w - 1) ∙ ap (λ v. v * 2 ^ (w - 1)) (bit_at_above a (w - 1) (w - 1) low (omega arith))
    ∙ zero-mul (2 ^ (w - 1)) in
    omega (arith, xor_add_and a (2 ^ (w - 1)), none)

least_xor_high : (w a : ℕ) → 1 ≤ w → 2 ^ (w - 1) ≤ a → a < 2 ^ w → bit_xor a (2 ^ (w - 1)) ≡ a - 2 ^ (w - 1)
least_xor_high w a positive high below =
    let one : bit_and a (2 ^ (w - 1)) ≡ 2 ^ (w - 1) =
    and_pow a (w - 1) ∙ ap (λ v. v * 2 ^ (w - 1)) (sign_bit-high w a positive high below) ∙ one-mul (2 ^ (w - 1)) in
    omega (arith, xor_add_and a (2 ^ (w - 1)), one)

less_test : (w a b : ℕ) → 1 ≤ w → a < 2 ^ w → b < 2 ^ w →
    int_lt (signed_of w a) (signed_of w b) ≡ nat_lt (bit_xor a (2 ^ (w - 1))) (bit_xor b (2 ^ (w - 1)))
less_test w a b positive left right =
    let halves : 2 ^ w ≡ 2 * 2 ^ (w - 1) = twice_half w positive in
    elim (cases_lt a (2 ^ (w - 1))) [
      | inl a_low ↦ elim (cases_lt b (2 ^ (w - 1))) [
        | inl b_low ↦
            rw (signed_of-low w a a_low, signed_of-low w b b_low)
            (rw (least_xor_low w a positive a_low, least_xor_low w b positive b_low) (grind arith))
        | inr b_high ↦
            rw (signed_of-low w a a_low, signed_of-high w b b_high right)
            (rw (least_xor_low w a positive a_low, least_xor_high w b positive b_high right) (grind arith))
      ]
      | inr a_high ↦ elim (cases_lt b (2 ^ (w - 1))) [
        | inl b_low ↦
            rw (signed_of-high w a a_high left, signed_of-low w b b_low)
            (rw (least_xor_high w a positive a_high left, least_xor_low w b positive b_low) (grind arith))
        | inr b_high ↦
            rw (signed_of-high w a a_high left, signed_of-high w b b_high right)
            (rw (least_xor_high w a positive a_high left, least_xor_high w b positive b_high right) (grind arith))
      ]
    ]

pub less_of-unsigned : (w a b : ℕ) → 1 ≤ w → a < 2 ^ w → b < 2 ^ w →
    result_of Lt w a b ≡ result_of Ltu w (result_of Xor w a (2 ^ (w - 1))) (result_of Xor w b (2 ^ (w - 1)))
less_of-unsigned w a b positive left right = ap truth_of (less_test w a b positive left right)

xor_twice : (a m : ℕ) → bit_xor (bit_xor a m) m ≡ a
xor_twice a m = xor_assoc a m m ∙ ap (bit_xor a) (xor_self m) ∙ xor_zero_r a

pub less_of-signed : (w a b : ℕ) → 1 ≤ w → a < 2 ^ w → b < 2 ^ w →
    result_of Ltu w a b ≡ result_of Lt w (result_of Xor w a (2 ^ (w - 1))) (result_of Xor w b (2 ^ (w - 1)))
less_of-signed w a b positive left right =
    let half : 2 ^ (w - 1) < 2 ^ w = omega (arith, twice_half w positive, pow_pos (w - 1)) in
    sym (less_of-unsigned w (bit_xor a (2 ^ (w - 1))) (bit_xor b (2 ^ (w - 1))) positive
    (xor_lt w a (2 ^ (w - 1)) left half) (xor_lt w b (2 ^ (w - 1)) right half)
    ∙ ap (λ v. truth_of (nat_lt v (bit_xor (bit_xor b (2 ^ (w - 1))) (2 ^ (w - 1))))) (xor_twice a (2 ^ (w - 1)))
    ∙ ap (λ v. truth_of (nat_lt a v)) (xor_twice b (2 ^ (w - 1))))
