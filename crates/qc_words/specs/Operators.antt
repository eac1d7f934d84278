-- The value of each operator at words of the width w, that is at numbers below 2 ^ w. The numbers
-- are unbounded, so a definition says itself where a result is taken modulo 2 ^ w.
use Rattle.std.specs.Prelude.{ℕ, ◌+◌, ◌-◌, ◌*◌, ◌/◌, ◌%◌, ◌^◌, ◌≤◌, Bool, true, false, int_div, int_rem, int_lt, int_le, nat_lt, nat_le, not, pos, neg_ℤ, ◌-ℤ◌, bit_and, bit_or, bit_xor, ◌==◌, if◌then◌else◌}
use Rattle.std.specs.Int.{int_shr}
use Rattle.qc_words.specs.Words.{signed_of, word_of}
use Rattle.qc_words.specs.declared.operator.Op.{Op}
use Rattle.qc_words.specs.declared.operator.Op.TheVariants.{Add, Sub, Mul, Divu, Modu, Quot, Rem, And, Or, Xor, Com, Neg, Shl, Shrl, Shra, Eq, Ne, Lt, Ge, Ltu, Geu, Zx, Sx, Slice}

-- a + b modulo 2 ^ w
abbrev pub sum_of : ℕ → ℕ → ℕ → ℕ
sum_of w a b = (a + b) % 2 ^ w

-- a - b modulo 2 ^ w
abbrev pub difference_of : ℕ → ℕ → ℕ → ℕ
difference_of w a b = word_of w (pos a -ℤ pos b)

-- a * b modulo 2 ^ w
abbrev pub product_of : ℕ → ℕ → ℕ → ℕ
product_of w a b = a * b % 2 ^ w

-- the quotient of a by b, rounded down; 2 ^ w - 1 for b = 0
abbrev pub unsigned_quotient_of : ℕ → ℕ → ℕ → ℕ
unsigned_quotient_of w a b = (if b == 0 then 2 ^ w - 1 else a / b)

-- the remainder of a by b; a for b = 0
abbrev pub unsigned_remainder_of : ℕ → ℕ → ℕ
unsigned_remainder_of a b = (if b == 0 then a else a % b)

-- the signed quotient of a by b, rounded toward zero; 2 ^ w - 1 for b = 0
abbrev pub signed_quotient_of : ℕ → ℕ → ℕ → ℕ
signed_quotient_of w a b =
    (if b == 0 then 2 ^ w - 1 else word_of w (int_div (signed_of w a) (signed_of w b)))

-- the signed remainder of a by b, with the sign of a; a for b = 0
abbrev pub signed_remainder_of : ℕ → ℕ → ℕ → ℕ
signed_remainder_of w a b =
    (if b == 0 then a else word_of w (int_rem (signed_of w a) (signed_of w b)))

-- each bit inverted
abbrev pub complement_of : ℕ → ℕ → ℕ
complement_of w a = 2 ^ w - 1 - a

-- -a modulo 2 ^ w
abbrev pub negation_of : ℕ → ℕ → ℕ
negation_of w a = word_of w (neg_ℤ (pos a))

-- a shift's amount: b modulo w
abbrev pub amount_of : ℕ → ℕ → ℕ
amount_of w b = b % w

-- a shifted left by the amount, with zeros from the right
abbrev pub shift_left_of : ℕ → ℕ → ℕ → ℕ
shift_left_of w a b = a * 2 ^ amount_of w b % 2 ^ w

-- a shifted right by the amount, with zeros from the left
abbrev pub shift_right_of : ℕ → ℕ → ℕ → ℕ
shift_right_of w a b = a / 2 ^ amount_of w b

-- a shifted right by the amount, with copies of the sign bit from the left: the signed number of a
-- divided by 2 ^ amount and rounded down
abbrev pub signed_shift_right_of : ℕ → ℕ → ℕ → ℕ
signed_shift_right_of w a b = word_of w (int_shr (signed_of w a) (amount_of w b))

-- the word of width 1 for a test: 1 where it holds, and 0 where it does not
abbrev pub truth_of : Bool → ℕ
truth_of test = (if test then 1 else 0)

-- s(a), the signed number of a, modulo 2 ^ n
abbrev pub sign_extension_of : ℕ → ℕ → ℕ → ℕ
sign_extension_of w n a = word_of n (signed_of w a)

-- the n bits from low on
abbrev pub slice_of : ℕ → ℕ → ℕ → ℕ
slice_of low n a = a / 2 ^ low % 2 ^ n

-- the operator's value; an operator of one operand ignores the second
abbrev pub result_of : Op → (w a b : ℕ) → ℕ
result_of Add w a b = sum_of w a b
result_of Sub w a b = difference_of w a b
result_of Mul w a b = product_of w a b
result_of Divu w a b = unsigned_quotient_of w a b
result_of Modu w a b = unsigned_remainder_of a b
result_of Quot w a b = signed_quotient_of w a b
result_of Rem w a b = signed_remainder_of w a b
result_of And w a b = bit_and a b
result_of Or w a b = bit_or a b
result_of Xor w a b = bit_xor a b
result_of Com w a b = complement_of w a
result_of Neg w a b = negation_of w a
result_of Shl w a b = shift_left_of w a b
result_of Shrl w a b = shift_right_of w a b
result_of Shra w a b = signed_shift_right_of w a b
result_of Eq w a b = truth_of (a == b)
result_of Ne w a b = truth_of (not (a == b))
result_of Lt w a b = truth_of (int_lt (signed_of w a) (signed_of w b))
result_of Ge w a b = truth_of (int_le (signed_of w b) (signed_of w a))
result_of Ltu w a b = truth_of (nat_lt a b)
result_of Geu w a b = truth_of (nat_le b a)
result_of (Zx to) w a b = a
result_of (Sx to) w a b = sign_extension_of w to a
result_of (Slice low to) w a b = slice_of low to a

-- the width of the operator's value
abbrev pub result_width_of : Op → ℕ → ℕ
result_width_of Add w = w
result_width_of Sub w = w
result_width_of Mul w = w
result_width_of Divu w = w
result_width_of Modu w = w
result_width_of Quot w = w
result_width_of Rem w = w
result_width_of And w = w
result_width_of Or w = w
result_width_of Xor w = w
result_width_of Com w = w
result_width_of Neg w = w
result_width_of Shl w = w
result_width_of Shrl w = w
result_width_of Shra w = w
result_width_of Eq w = 1
result_width_of Ne w = 1
result_width_of Lt w = 1
result_width_of Ge w = 1
result_width_of Ltu w = 1
result_width_of Geu w = 1
result_width_of (Zx to) w = to
result_width_of (Sx to) w = to
result_width_of (Slice low to) w = to

-- the operator may be applied to words of the width w: an extension does not narrow, and a slice
-- stays within the word
abbrev pub Accepts : Op → ℕ → Type 0
Accepts (Zx to) w = w ≤ to
Accepts (Sx to) w = w ≤ to
Accepts (Slice low to) w = low + to ≤ w
Accepts _ w = Unit {0}

-- the operator has one operand
abbrev pub is_unary : Op → Bool
is_unary Com = true
is_unary Neg = true
is_unary (Zx to) = true
is_unary (Sx to) = true
is_unary (Slice low to) = true
is_unary _ = false
