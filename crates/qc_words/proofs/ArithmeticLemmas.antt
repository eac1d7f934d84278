-- Arithmetic modulo 2 ^ w, on words and on the numbers that they stand for.
use Rattle.std.proofs.Common.{◌≡◌, ℕ, zero, suc, inl, inr, zero-add, ◌+◌, ◌-◌, ◌*◌, ◌/◌, ◌%◌, ◌^◌, ◌<◌, ◌≤◌, ◌==◌, false, ℤ, pos, negsuc, neg_ℤ, ◌+ℤ◌, ◌-ℤ◌, ◌*ℤ◌, unsigned_abs, int_div, int_rem, refl, sym, ◌∙◌, ap, arith}
use Rattle.std.proofs.Math.Nat.{le-mul_of_pos_right, mul-add, add-mul, mul_comm, mul-zero, zero-mod, mod_self, mod-eq-sub-mod, add-mod, add-mul-mod_self_right, mod-eq_of_lt, mod-add-mod, add-mod_right}
use Rattle.std.proofs.lemmas.Nat.{pow_pos, mul-mod, div-add-mod'}
use Rattle.std.proofs.lemmas.Bool.{cases_lt}
use Rattle.std.proofs.lemmas.Int.{ints, int_rem_euclid_is, quot-rem}
use Rattle.qc_words.specs.Operators.{result_of, difference_of, negation_of}
use Rattle.qc_words.specs.Words.{signed_of, word_of}
use Rattle.qc_words.specs.declared.operator.Op.TheVariants.{Add, Sub, Mul, Divu, Modu, Quot, Rem, Neg}
use Rattle.qc_words.proofs.WordLemmas.{word_of-signed_of}
use Rattle.qc_words.specs.Law.Results.{word_of-pos, word_of-lt}

-- z and some multiple of 2 ^ w make the natural m
pub word_of-shifted : (w : ℕ) (z : ℤ) (k m : ℕ) → z +ℤ pos (k * 2 ^ w) ≡ pos m → word_of w z ≡ m % 2 ^ w
unfolding word_of
word_of-shifted w z k m sum = ap unsigned_abs (int_rem_euclid_is z (pos (2 ^ w)) (2 ^ w) k m (pow_pos w) refl sum)

pub difference_of-natural : (w a b : ℕ) → b ≤ 2 ^ w → difference_of w a b ≡ (a + (2 ^ w - b)) % 2 ^ w
difference_of-natural w a b within =
    word_of-shifted w (pos a -ℤ pos b) 1 (a + (2 ^ w - b)) (omega (arith, ints))

pub negation_of-natural : (w a : ℕ) → a ≤ 2 ^ w → negation_of w a ≡ (2 ^ w - a) % 2 ^ w
negation_of-natural w a within = word_of-shifted w (neg_ℤ (pos a)) 1 (2 ^ w - a) (omega (arith, ints))

-- the number below 0 and some multiple of 2 ^ w
negative_natural : ℕ → ℕ → ℕ
negative_natural w n = suc n * 2 ^ w - suc n

negative_natural-sum : (w n : ℕ) → negative_natural w n + suc n ≡ suc n * 2 ^ w
unfolding negative_natural
negative_natural-sum w n =
    let enough : suc n ≤ suc n * 2 ^ w = le-mul_of_pos_right (suc n) (pow_pos w) in omega arith

word_of-negative : (w n : ℕ) → word_of w (negsuc n) ≡ negative_natural w n % 2 ^ w
word_of-negative w n =
    word_of-shifted w (negsuc n) (suc n) (negative_natural w n) (omega (arith, ints, negative_natural-sum w n))

-- each number is a natural less a multiple of 2 ^ w
record Shifted (w : ℕ) (z : ℤ) : Type 0 where
  times : ℕ
  natural : ℕ
  sum : z +ℤ pos (times * 2 ^ w) ≡ pos natural

shifted : (w : ℕ) (z : ℤ) → Shifted w z
shifted w (pos n) = record { times = 0; natural = n; sum = omega (arith, ints) }
shifted w (negsuc n) =
    record { times = suc n; natural = negative_natural w n; sum = omega (arith, ints, negative_natural-sum w n) }

pub word_of-add : (w : ℕ) (x y : ℤ) → word_of w (x +ℤ y) ≡ (word_of w x + word_of w y) % 2 ^ w
word_of-add w x y =
    let p = shifted w x in let q = shifted w y in
    let together : (x +ℤ y) +ℤ pos ((p.times + q.times) * 2 ^ w) ≡ pos (p.natural + q.natural) =
    omega (arith, ints, p.sum, q.sum) in
    word_of-shifted w (x +ℤ y) (p.times + q.times) (p.natural + q.natural) together
    ∙ add-mod p.natural q.natural (2 ^ w)
    ∙ ap (λ v. (v + q.natural % 2 ^ w) % 2 ^ w) (sym (word_of-shifted w x p.times p.natural p.sum))
    ∙ ap (λ v. (word_of w x + v) % 2 ^ w) (sym (word_of-shifted w y q.times q.natural q.sum))

-- the product of two numbers below 0, as naturals less multiples of the unit
product_of_negatives : (a b m n unit : ℕ) → m + a ≡ a * unit → n + b ≡ b * unit → (m * n) % unit ≡ (a * b) % unit
product_of_negatives a b m n unit first second =
    let left : m * n + a * n ≡ a * unit * n = sym (add-mul m a n) ∙ ap (λ v. v * n) first in
    let right : a * n + a * b ≡ a * (b * unit) = sym (mul-add a n b) ∙ ap (λ v. a * v) second in
    let both : m * n + a * b * unit ≡ a * b + a * n * unit = omega arith in
    sym (add-mul-mod_self_right (m * n) (a * b) unit) ∙ ap (λ v. v % unit) both
    ∙ add-mul-mod_self_right (a * b) (a * n) unit

product_by_negative : (w a b m : ℕ) → m + b ≡ b * 2 ^ w →
    neg_ℤ (pos (a * b)) +ℤ pos (a * b * 2 ^ w) ≡ pos (a * m)
product_by_negative w a b m negative =
    let product : a * m + a * b ≡ a * (b * 2 ^ w) = sym (mul-add a m b) ∙ ap (λ v. a * v) negative in
    omega (arith, ints)

word_of-mul_negative : (w a b : ℕ) →
    word_of w (neg_ℤ (pos (a * suc b))) ≡ (word_of w (pos a) * word_of w (negsuc b)) % 2 ^ w
word_of-mul_negative w a b =
    word_of-shifted w (neg_ℤ (pos (a * suc b))) (a * suc b) (a * negative_natural w b)
    (product_by_negative w a (suc b) (negative_natural w b) (negative_natural-sum w b))
    ∙ mul-mod a (negative_natural w b) (2 ^ w)
    ∙ ap (λ v. (v * (negative_natural w b % 2 ^ w)) % 2 ^ w) (sym (word_of-pos w a))
    ∙ ap (λ v. (word_of w (pos a) * v) % 2 ^ w) (sym (word_of-negative w b))

pub word_of-mul : (w : ℕ) (x y : ℤ) → word_of w (x *ℤ y) ≡ (word_of w x * word_of w y) % 2 ^ w
word_of-mul w (pos a) (pos b) =
    word_of-pos w (a * b) ∙ mul-mod a b (2 ^ w)
    ∙ ap (λ v. (v * (b % 2 ^ w)) % 2 ^ w) (sym (word_of-pos w a))
    ∙ ap (λ v. (word_of w (pos a) * v) % 2 ^ w) (sym (word_of-pos w b))
word_of-mul w (pos a) (negsuc b) = word_of-mul_negative w a b
word_of-mul w (negsuc a) (pos b) =
    ap (λ v. word_of w (neg_ℤ (pos v))) (mul_comm (suc a) b) ∙ word_of-mul_negative w b a
    ∙ ap (λ v. v % 2 ^ w) (mul_comm (word_of w (pos b)) (word_of w (negsuc a)))
word_of-mul w (negsuc a) (negsuc b) =
    word_of-pos w (suc a * suc b)
    ∙ sym (product_of_negatives (suc a) (suc b) (negative_natural w a) (negative_natural w b) (2 ^ w)
    (negative_natural-sum w a) (negative_natural-sum w b))
    ∙ mul-mod (negative_natural w a) (negative_natural w b) (2 ^ w)
    ∙ ap (λ v. (v * (negative_natural w b % 2 ^ w)) % 2 ^ w) (sym (word_of-negative w a))
    ∙ ap (λ v. (word_of w (negsuc a) * v) % 2 ^ w) (sym (word_of-negative w b))

opposite : (u v unit : ℕ) → u < unit → v < unit → (u + v) % unit ≡ 0 → v ≡ (unit - u) % unit
opposite u v unit first second none = elim (cases_lt (u + v) unit) [
  | inl small ↦
      let both : u + v ≡ 0 = sym (mod-eq_of_lt small) ∙ none in
      let zero_first : u ≡ 0 = omega arith in
      let zero_second : v ≡ 0 = omega arith in
      let whole : unit - u ≡ unit = omega arith in
      rw whole (zero_second ∙ sym (mod_self unit))
  | inr large ↦
      let over : u + v - unit ≡ 0 =
      sym (mod-eq_of_lt (let below : u + v - unit < unit = omega arith in below)) ∙ sym (mod-eq-sub-mod large) ∙ none in
      let rest : unit - u ≡ v = omega arith in
      rw rest (sym (mod-eq_of_lt second))
]

pub word_of-neg : (w : ℕ) (z : ℤ) → word_of w (neg_ℤ z) ≡ (2 ^ w - word_of w z) % 2 ^ w
word_of-neg w z =
    let none : z +ℤ neg_ℤ z ≡ pos 0 = omega (arith, ints) in
    opposite (word_of w z) (word_of w (neg_ℤ z)) (2 ^ w) (word_of-lt w z) (word_of-lt w (neg_ℤ z))
    (sym (word_of-add w z (neg_ℤ z)) ∙ ap (word_of w) none ∙ word_of-pos w 0 ∙ zero-mod (2 ^ w))

-- ---- the operators of arithmetic agree on unsigned and signed numbers

pub result_of-Add-signed : (w a b : ℕ) → 1 ≤ w → a < 2 ^ w → b < 2 ^ w →
    result_of Add w a b ≡ word_of w (signed_of w a +ℤ signed_of w b)
result_of-Add-signed w a b positive left right =
    sym (word_of-add w (signed_of w a) (signed_of w b)
    ∙ ap (λ v. (v + word_of w (signed_of w b)) % 2 ^ w) (word_of-signed_of w a positive left)
    ∙ ap (λ v. (a + v) % 2 ^ w) (word_of-signed_of w b positive right))

pub result_of-Mul-signed : (w a b : ℕ) → 1 ≤ w → a < 2 ^ w → b < 2 ^ w →
    result_of Mul w a b ≡ word_of w (signed_of w a *ℤ signed_of w b)
result_of-Mul-signed w a b positive left right =
    sym (word_of-mul w (signed_of w a) (signed_of w b)
    ∙ ap (λ v. (v * word_of w (signed_of w b)) % 2 ^ w) (word_of-signed_of w a positive left)
    ∙ ap (λ v. (a * v) % 2 ^ w) (word_of-signed_of w b positive right))

pub result_of-Neg-signed : (w a b : ℕ) → 1 ≤ w → a < 2 ^ w →
    result_of Neg w a b ≡ word_of w (neg_ℤ (signed_of w a))
result_of-Neg-signed w a b positive below =
    word_of-neg w (pos a)
    ∙ ap (λ v. (2 ^ w - v) % 2 ^ w) (word_of-pos w a ∙ mod-eq_of_lt below ∙ sym (word_of-signed_of w a positive below))
    ∙ sym (word_of-neg w (signed_of w a))

-- to subtract is to add the negation
pub result_of-Sub : (w a b c : ℕ) → a < 2 ^ w → result_of Sub w a b ≡ result_of Add w a (result_of Neg w b c)
result_of-Sub w a b c below =
    word_of-add w (pos a) (neg_ℤ (pos b))
    ∙ ap (λ v. (v + negation_of w b) % 2 ^ w) (word_of-pos w a ∙ mod-eq_of_lt below)

pub result_of-Sub-signed : (w a b : ℕ) → 1 ≤ w → a < 2 ^ w → b < 2 ^ w →
    result_of Sub w a b ≡ word_of w (signed_of w a -ℤ signed_of w b)
result_of-Sub-signed w a b positive left right =
    result_of-Sub w a b 0 left
    ∙ ap (λ v. (v + negation_of w b) % 2 ^ w) (sym (word_of-signed_of w a positive left))
    ∙ ap (λ v. (word_of w (signed_of w a) + v) % 2 ^ w) (result_of-Neg-signed w b 0 positive right)
    ∙ sym (word_of-add w (signed_of w a) (neg_ℤ (signed_of w b)))

pub result_of-Sub-Add : (w a b : ℕ) → a < 2 ^ w → b < 2 ^ w → result_of Sub w (result_of Add w a b) b ≡ a
result_of-Sub-Add w a b left right =
    difference_of-natural w ((a + b) % 2 ^ w) b (omega arith)
    ∙ mod-add-mod (a + b) (2 ^ w) (2 ^ w - b)
    ∙ ap (λ v. v % 2 ^ w) (let sum : a + b + (2 ^ w - b) ≡ a + 2 ^ w = omega arith in sum)
    ∙ add-mod_right a (2 ^ w) ∙ mod-eq_of_lt left

-- ---- quotient times divisor plus remainder is the dividend

by_zero : (unit quotient a : ℕ) → a < unit → ((quotient * 0) % unit + a) % unit ≡ a
by_zero unit quotient a below = rw (mul-zero quotient, zero-mod unit, zero-add a) (mod-eq_of_lt below)

pub positive_test : (b : ℕ) → (suc b == 0) ≡ false
positive_test b = grind arith

pub dividend_of-unsigned : (w a b : ℕ) → a < 2 ^ w →
    result_of Add w (result_of Mul w (result_of Divu w a b) b) (result_of Modu w a b) ≡ a
dividend_of-unsigned w a zero below = by_zero (2 ^ w) (2 ^ w - 1) a below
dividend_of-unsigned w a (suc b) below =
    rw (positive_test b)
    (mod-add-mod (a / suc b * suc b) (2 ^ w) (a % suc b)
    ∙ ap (λ v. v % 2 ^ w) (div-add-mod' a (suc b)) ∙ mod-eq_of_lt below)

pub dividend_of-signed : (w a b : ℕ) → 1 ≤ w → a < 2 ^ w → b < 2 ^ w →
    result_of Add w (result_of Mul w (result_of Quot w a b) b) (result_of Rem w a b) ≡ a
dividend_of-signed w a zero positive left right = by_zero (2 ^ w) (2 ^ w - 1) a left
dividend_of-signed w a (suc b) positive left right =
    let x = signed_of w a in let y = signed_of w (suc b) in
    rw (positive_test b)
    (ap (λ v. ((word_of w (int_div x y) * v) % 2 ^ w + word_of w (int_rem x y)) % 2 ^ w)
    (sym (word_of-signed_of w (suc b) positive right))
    ∙ ap (λ v. (v + word_of w (int_rem x y)) % 2 ^ w) (sym (word_of-mul w (int_div x y) y))
    ∙ sym (word_of-add w (int_div x y *ℤ y) (int_rem x y))
    ∙ ap (word_of w) (quot-rem x y) ∙ word_of-signed_of w a positive left)
