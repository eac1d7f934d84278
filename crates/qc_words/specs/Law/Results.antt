-- Each operator's value is a word of the width of its result.
use Rattle.std.proofs.Common.{◌≡◌, ℕ, ℤ, pos, negsuc, refl, ◌-◌, ◌%◌, ◌^◌, ◌<◌, ◌≤◌, ◌==◌, Bool, true, false, if◌then◌else◌, arith}
use Rattle.std.proofs.Math.Nat.{mod-lt, mod-le, div-le_self, pow-le-pow_right}
use Rattle.std.proofs.lemmas.Nat.{pow_pos, shr_le, and_le_l, or_lt, xor_lt}
use Rattle.qc_words.specs.Words.{word_of}
use Rattle.qc_words.specs.Operators.{result_of, result_width_of, Accepts, truth_of}
use Rattle.qc_words.specs.declared.operator.Op.{Op}
use Rattle.qc_words.specs.declared.operator.Op.TheVariants.{Add, Sub, Mul, Divu, Modu, Quot, Rem, And, Or, Xor, Com, Neg, Shl, Shrl, Shra, Eq, Ne, Lt, Ge, Ltu, Geu, Zx, Sx, Slice}

-- a word is a word of each wider width
pub word_of_wider : (a w n : ℕ) → a < 2 ^ w → w ≤ n → a < 2 ^ n
word_of_wider a w n below wider =
    let powers : 2 ^ w ≤ 2 ^ n = pow-le-pow_right (omega arith) wider in omega arith

pub word_of-pos : (w n : ℕ) → word_of w (pos n) ≡ n % 2 ^ w
unfolding word_of
word_of-pos w n = refl

pub word_of-negsuc : (w n : ℕ) → word_of w (negsuc n) ≡ 2 ^ w - 1 - n % 2 ^ w
unfolding word_of
word_of-negsuc w n = refl

pub word_of-lt : (w : ℕ) (z : ℤ) → word_of w z < 2 ^ w
word_of-lt w (pos n) = rw (word_of-pos w n) (mod-lt n (pow_pos w))
word_of-lt w (negsuc n) = rw (word_of-negsuc w n) (omega (arith, pow_pos w))

truth_of-lt : (test : Bool) → truth_of test < 2 ^ 1
truth_of-lt true = omega arith
truth_of-lt false = omega arith

if-lt : (test : Bool) (m n bound : ℕ) → m < bound → n < bound → (if test then m else n) < bound
if-lt true m n bound first second = first
if-lt false m n bound first second = second

-- each operator's value is a word of the width of its result
pub result_of-lt : (op : Op) (w a b : ℕ) → Accepts op w → a < 2 ^ w → b < 2 ^ w →
    result_of op w a b < 2 ^ result_width_of op w
result_of-lt Add w a b accepted left right = mod-lt _ (pow_pos w)
result_of-lt Sub w a b accepted left right = word_of-lt w _
result_of-lt Mul w a b accepted left right = mod-lt _ (pow_pos w)
result_of-lt Divu w a b accepted left right =
    if-lt (b == 0) (2 ^ w - 1) _ (2 ^ w) (omega (arith, pow_pos w)) (omega (arith, div-le_self a b))
result_of-lt Modu w a b accepted left right =
    if-lt (b == 0) a _ (2 ^ w) left (omega (arith, mod-le a b))
result_of-lt Quot w a b accepted left right =
    if-lt (b == 0) (2 ^ w - 1) _ (2 ^ w) (omega (arith, pow_pos w)) (word_of-lt w _)
result_of-lt Rem w a b accepted left right = if-lt (b == 0) a _ (2 ^ w) left (word_of-lt w _)
result_of-lt And w a b accepted left right = omega (arith, and_le_l a b)
result_of-lt Or w a b accepted left right = or_lt w a b left right
result_of-lt Xor w a b accepted left right = xor_lt w a b left right
result_of-lt Com w a b accepted left right = omega (arith, pow_pos w)
result_of-lt Neg w a b accepted left right = word_of-lt w _
result_of-lt Shl w a b accepted left right = mod-lt _ (pow_pos w)
result_of-lt Shrl w a b accepted left right = omega (arith, shr_le a (b % w))
result_of-lt Shra w a b accepted left right = word_of-lt w _
result_of-lt Eq w a b accepted left right = truth_of-lt _
result_of-lt Ne w a b accepted left right = truth_of-lt _
result_of-lt Lt w a b accepted left right = truth_of-lt _
result_of-lt Ge w a b accepted left right = truth_of-lt _
result_of-lt Ltu w a b accepted left right = truth_of-lt _
result_of-lt Geu w a b accepted left right = truth_of-lt _
result_of-lt (Zx to) w a b accepted left right = word_of_wider a w to left accepted
result_of-lt (Sx to) w a b accepted left right = word_of-lt to _
result_of-lt (Slice low to) w a b accepted left right = mod-lt _ (pow_pos to)
