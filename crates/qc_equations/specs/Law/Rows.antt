-- Each row of the table over numbers: both sides use the same parts and have the same width, the right side is typed
-- where the left one is.
use Rattle.std.proofs.Common.{◌≡◌, ℕ, ◌<◌, ◌≤◌, ◌-◌, ◌^◌, refl, arith}
use Rattle.std.proofs.Math.Pow.{ones_lt}
use Rattle.std.proofs.lemmas.Nat.{pow_below, pow_pos}
use Rattle.qc_lists.specs.Law.Powers.{below_power}
use Rattle.qc_words.specs.Law.Results.{word_of_wider}
use Rattle.qc_words.specs.declared.operator.Op.TheVariants.{Sub}
use Rattle.qc_words.specs.Width.{IsWidth}
use Rattle.qc_equations.specs.declared.names.Law.{Law}
use Rattle.qc_equations.specs.declared.names.Law.TheVariants.{AddZero, OrZero, AddZeroDrop, OrZeroDrop, XorZeroDrop, ShlZeroDrop, AndOnesDrop, AddSwap, AndSwap, OrSwap, XorSwap, EqSwap, NeSwap, MulSwap, AddLeft, AddRight, SubNeg, NegSub, NegCom, ComXor, ComSub, ComNeg, XorOrAnd, OrXorAnd, AndOr, OrAnd, SubCom, AddSub, EqLtu, NeLtu, LtLtu, LtuLt, EqNe, NeEq, LtGe, GeLt, LtuGeu, GeuLtu, ZxCom, Split8, Split12, Split16, Part8, Part12, Part16, ZxAnd, AndZx, SxShifts}
use Rattle.qc_equations.specs.Pattern.{Pattern, A, Infix}
use Rattle.qc_equations.specs.Table.{equation_of, high, parted, signed_low, split}
use Rattle.qc_equations.specs.Turning.{left_pattern}
use Rattle.qc_equations.specs.Law.Fill.{Which, First, Second, Third, IsTypedPattern, pattern_width, uses}
use Rattle.qc_equations.specs.Law.Found.{Nests, Within}

abbrev pub left_side : Law → Pattern
left_side law = left_pattern (equation_of law).left

abbrev pub right_side : Law → Pattern
right_side law = (equation_of law).right

-- the parts of both sides, which are computed for each law
same_first : (law : Law) → uses First (right_side law) ≡ uses First (left_side law)
same_first AddZero = refl
same_first _ = refl

same_second : (law : Law) → uses Second (right_side law) ≡ uses Second (left_side law)
same_second AddZero = refl
same_second _ = refl

same_third : (law : Law) → uses Third (right_side law) ≡ uses Third (left_side law)
same_third AddZero = refl
same_third _ = refl

pub same_parts : (law : Law) (x : Which) → uses x (right_side law) ≡ uses x (left_side law)
same_parts law First = same_first law
same_parts law Second = same_second law
same_parts law Third = same_third law

pub same_width : (law : Law) (word size : ℕ) → pattern_width (right_side law) word size ≡ pattern_width (left_side law) word size
same_width AddZero word size = refl
same_width _ word size = refl

pub nests : (law : Law) → Nests (equation_of law).left
nests AddLeft = λ w. refl
nests AddRight = λ w. refl
nests _ = tt

-- ---- literals fit their widths

one_fits : (word : ℕ) → 1 ≤ word → 1 < 2 ^ word
one_fits word h = pow_below 0 word h

least_fits : (word : ℕ) → 1 ≤ word → 2 ^ (word - 1) < 2 ^ word
least_fits word h = pow_below (word - 1) word (omega arith)

-- ---- types

low_typed : (word size : ℕ) → size ≤ word → IsTypedPattern signed_low word size
low_typed word size h = (refl, h, (refl, omega arith, tt))

high_typed : (p : Pattern) (word size : ℕ) → size < word → pattern_width p word size ≡ word → IsTypedPattern p word size →
    IsTypedPattern (high p) word size
high_typed p word size h same typed = (
  refl,
  tt,
  refl,
  (refl, omega arith, (refl, omega (arith, same), typed)),
  word_of_wider size size word (below_power size) (omega arith),
)

split_typed : (word size : ℕ) → size < word → IsTypedPattern split word size
split_typed word size h =
    let low = low_typed word size (omega arith) in
    (refl, tt, refl, high_typed (Infix Sub A signed_low) word size h refl (refl, tt, refl, tt, low), low)

parted_typed : (word size : ℕ) → size < word → IsTypedPattern parted word size
parted_typed word size h = (refl, tt, refl, high_typed A word size h refl tt, (refl, omega arith, (refl, omega arith, tt)))

pub row_typed : (law : Law) (word size : ℕ) → IsWidth word → Within (equation_of law).left word size →
    IsTypedPattern (left_side law) word size → IsTypedPattern (right_side law) word size
row_typed AddZero w m width suits typed = (refl, tt, refl, tt, pow_pos w)
row_typed OrZero w m width suits typed = (refl, tt, refl, tt, pow_pos w)
row_typed AddZeroDrop w m width suits typed = tt
row_typed OrZeroDrop w m width suits typed = tt
row_typed XorZeroDrop w m width suits typed = tt
row_typed ShlZeroDrop w m width suits typed = tt
row_typed AndOnesDrop w m width suits typed = tt
row_typed AddSwap w m width suits typed = (refl, tt, refl, tt, tt)
row_typed AndSwap w m width suits typed = (refl, tt, refl, tt, tt)
row_typed OrSwap w m width suits typed = (refl, tt, refl, tt, tt)
row_typed XorSwap w m width suits typed = (refl, tt, refl, tt, tt)
row_typed EqSwap w m width suits typed = (refl, tt, refl, tt, tt)
row_typed NeSwap w m width suits typed = (refl, tt, refl, tt, tt)
row_typed MulSwap w m width suits typed = (refl, tt, refl, tt, tt)
row_typed AddLeft w m width suits typed = (refl, tt, refl, (refl, tt, refl, tt, tt), tt)
row_typed AddRight w m width suits typed = (refl, tt, refl, tt, (refl, tt, refl, tt, tt))
row_typed SubNeg w m width suits typed = (refl, tt, refl, tt, (refl, tt, tt))
row_typed NegSub w m width suits typed = (refl, tt, refl, pow_pos w, tt)
row_typed NegCom w m width suits typed = (refl, tt, refl, (refl, tt, tt), one_fits w width.0)
row_typed ComXor w m width suits typed = (refl, tt, refl, tt, ones_lt w)
row_typed ComSub w m width suits typed = (refl, tt, refl, ones_lt w, tt)
row_typed ComNeg w m width suits typed = (refl, tt, refl, (refl, tt, tt), one_fits w width.0)
row_typed XorOrAnd w m width suits typed = (refl, tt, refl, (refl, tt, refl, tt, tt), (refl, tt, refl, tt, tt))
row_typed OrXorAnd w m width suits typed = (refl, tt, refl, (refl, tt, refl, tt, tt), (refl, tt, refl, tt, tt))
row_typed AndOr w m width suits typed = (refl, tt, (refl, tt, refl, (refl, tt, tt), (refl, tt, tt)))
row_typed OrAnd w m width suits typed = (refl, tt, (refl, tt, refl, (refl, tt, tt), (refl, tt, tt)))
row_typed SubCom w m width suits typed = (refl, tt, (refl, tt, refl, (refl, tt, tt), tt))
row_typed AddSub w m width suits typed = (refl, tt, refl, tt, (refl, tt, tt))
row_typed EqLtu w m width suits typed = (refl, tt, refl, (refl, tt, refl, tt, tt), one_fits w width.0)
row_typed NeLtu w m width suits typed = (refl, tt, refl, pow_pos w, (refl, tt, refl, tt, tt))
row_typed LtLtu w m width suits typed =
    let least = least_fits w width.0 in (refl, tt, refl, (refl, tt, refl, tt, least), (refl, tt, refl, tt, least))
row_typed LtuLt w m width suits typed =
    let least = least_fits w width.0 in (refl, tt, refl, (refl, tt, refl, tt, least), (refl, tt, refl, tt, least))
row_typed EqNe w m width suits typed = (refl, tt, (refl, tt, refl, tt, tt))
row_typed NeEq w m width suits typed = (refl, tt, (refl, tt, refl, tt, tt))
row_typed LtGe w m width suits typed = (refl, tt, (refl, tt, refl, tt, tt))
row_typed GeLt w m width suits typed = (refl, tt, (refl, tt, refl, tt, tt))
row_typed LtuGeu w m width suits typed = (refl, tt, (refl, tt, refl, tt, tt))
row_typed GeuLtu w m width suits typed = (refl, tt, (refl, tt, refl, tt, tt))
row_typed ZxCom w m width suits typed =
    let wide : w ≤ m = typed.1 in
    (refl, tt, refl, (refl, wide, tt), one_fits m (omega (arith, wide, width.0)))
row_typed Split8 w m width suits typed = split_typed w m (omega (arith, suits.0, suits.1))
row_typed Split12 w m width suits typed = split_typed w m (omega (arith, suits.0, suits.1))
row_typed Split16 w m width suits typed = split_typed w m (omega (arith, suits.0, suits.1))
row_typed Part8 w m width suits typed = parted_typed w m (omega (arith, suits.0, suits.1))
row_typed Part12 w m width suits typed = parted_typed w m (omega (arith, suits.0, suits.1))
row_typed Part16 w m width suits typed = parted_typed w m (omega (arith, suits.0, suits.1))
row_typed ZxAnd w m width suits typed =
    (refl, tt, refl, tt, word_of_wider (2 ^ m - 1) m w (ones_lt m) (omega (arith, typed.2.1)))
row_typed AndZx w m width suits typed =
    let within : m ≤ w = omega (arith, suits.1) in (refl, within, (refl, omega (arith, within), tt))
row_typed SxShifts w m width suits typed =
    let rest = word_of_wider (w - m) (w - m) w (below_power (w - m)) (omega arith) in
    (refl, tt, refl, (refl, tt, refl, tt, rest), rest)
