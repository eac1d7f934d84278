-- The values of both sides of each row are equal.
use Rattle.std.proofs.Common.{◌≡◌, ℕ, ◌<◌, ◌^◌, refl, sym, subst, arith, zero, suc}
use Rattle.qc_words.specs.declared.operator.Op.TheVariants.{Xor, Com}
use Rattle.qc_words.specs.Operators.{result_of}
use Rattle.qc_words.specs.Width.{IsWidth}
use Rattle.qc_equations.specs.declared.names.Law.{Law}
use Rattle.qc_equations.specs.declared.names.Law.TheVariants.{AddZero, OrZero, AddZeroDrop, OrZeroDrop, XorZeroDrop, ShlZeroDrop, AndOnesDrop, AddSwap, AndSwap, OrSwap, XorSwap, EqSwap, NeSwap, MulSwap, AddLeft, AddRight, SubNeg, NegSub, NegCom, ComXor, ComSub, ComNeg, XorOrAnd, OrXorAnd, AndOr, OrAnd, SubCom, AddSub, EqLtu, NeLtu, LtLtu, LtuLt, EqNe, NeEq, LtGe, GeLt, LtuGeu, GeuLtu, ZxCom, Split8, Split12, Split16, Part8, Part12, Part16, ZxAnd, AndZx, SxShifts}
use Rattle.qc_equations.specs.Inner.WordLaws.{WordLaws}
use Rattle.qc_equations.specs.Table.{equation_of}
use Rattle.qc_equations.specs.Law.Fill.{IsTypedPattern, meaning}
use Rattle.qc_equations.specs.Law.Found.{Within}
use Rattle.qc_equations.specs.Law.Rows.{left_side, right_side}

-- the complement of one bit
complement_of_bit : (a : ℕ) → a < 2 → result_of Xor 1 a 1 ≡ result_of Com 1 a 0
complement_of_bit zero h = refl
complement_of_bit (suc zero) h = refl
complement_of_bit (suc (suc a)) h = absurd (omega (arith, h))

abbrev pub ValuesAgree : Law → (word size a b c : ℕ) → Type 0
ValuesAgree law word size a b c = meaning (right_side law) word size a b c ≡ meaning (left_side law) word size a b c

pub row_value : WordLaws → (law : Law) (word size a b c : ℕ) → IsWidth word → Within (equation_of law).left word size →
    IsTypedPattern (left_side law) word size → a < 2 ^ word → b < 2 ^ word → c < 2 ^ word → ValuesAgree law word size a b c
row_value k AddZero w m a b c width suits typed x y z = k.neutral.add w a x
row_value k OrZero w m a b c width suits typed x y z = k.neutral.or w a
row_value k AddZeroDrop w m a b c width suits typed x y z = sym (k.neutral.add w a x)
row_value k OrZeroDrop w m a b c width suits typed x y z = sym (k.neutral.or w a)
row_value k XorZeroDrop w m a b c width suits typed x y z = sym (k.neutral.xor w a)
row_value k ShlZeroDrop w m a b c width suits typed x y z = sym (k.neutral.shl w a x)
row_value k AndOnesDrop w m a b c width suits typed x y z = sym (k.neutral.and w a x)
row_value k AddSwap w m a b c width suits typed x y z = k.swaps.add w b a
row_value k AndSwap w m a b c width suits typed x y z = k.swaps.and w b a
row_value k OrSwap w m a b c width suits typed x y z = k.swaps.or w b a
row_value k XorSwap w m a b c width suits typed x y z = k.swaps.xor w b a
row_value k EqSwap w m a b c width suits typed x y z = k.swaps.equal w b a
row_value k NeSwap w m a b c width suits typed x y z = k.swaps.unequal w b a
row_value k MulSwap w m a b c width suits typed x y z = k.swaps.mul w b a
row_value k AddLeft w m a b c width suits typed x y z = k.swaps.regrouped w a b c
row_value k AddRight w m a b c width suits typed x y z = sym (k.swaps.regrouped w a b c)
row_value k SubNeg w m a b c width suits typed x y z = sym (k.complements.subtraction w a b 0 x)
row_value k NegSub w m a b c width suits typed x y z = sym (k.complements.from_zero w a 0 x)
row_value k NegCom w m a b c width suits typed x y z = sym (k.complements.negation w a 0 0 x)
row_value k ComXor w m a b c width suits typed x y z = sym (k.complements.with_ones w a 0 x)
row_value k ComSub w m a b c width suits typed x y z = sym (k.complements.from_ones w a 0 x)
row_value k ComNeg w m a b c width suits typed x y z = sym (k.complements.complement w a 0 0 x)
row_value k XorOrAnd w m a b c width suits typed x y z = sym (k.logic.xor w a b x y)
row_value k OrXorAnd w m a b c width suits typed x y z = sym (k.logic.or w a b x y)
row_value k AndOr w m a b c width suits typed x y z = sym (k.logic.and_of_complements w a b 0 0 x y)
row_value k OrAnd w m a b c width suits typed x y z = sym (k.logic.or_of_complements w a b 0 0 x y)
row_value k SubCom w m a b c width suits typed x y z = sym (k.complements.difference w a b 0 0 x y)
row_value k AddSub w m a b c width suits typed x y z = sym (k.complements.sum w a b 0 x y)
row_value k EqLtu w m a b c width suits typed x y z = sym (k.comparisons.equal w a b)
row_value k NeLtu w m a b c width suits typed x y z = sym (k.comparisons.unequal w a b)
row_value k LtLtu w m a b c width suits typed x y z = sym (k.comparisons.signed w a b width x y)
row_value k LtuLt w m a b c width suits typed x y z = sym (k.comparisons.unsigned w a b width x y)
row_value k EqNe w m a b c width suits typed x y z = sym (k.comparisons.eq_ne w a b 0)
row_value k NeEq w m a b c width suits typed x y z = sym (k.comparisons.ne_eq w a b 0)
row_value k LtGe w m a b c width suits typed x y z = sym (k.comparisons.lt_ge w a b 0)
row_value k GeLt w m a b c width suits typed x y z = sym (k.comparisons.ge_lt w a b 0)
row_value k LtuGeu w m a b c width suits typed x y z = sym (k.comparisons.ltu_geu w a b 0)
row_value k GeuLtu w m a b c width suits typed x y z = sym (k.comparisons.geu_ltu w a b 0)
row_value k ZxCom w m a b c width suits typed x y z =
    rw suits (complement_of_bit a (let bit : a < 2 ^ 1 = subst (λ n. a < 2 ^ n) suits x in bit))
row_value k Split8 w m a b c width suits typed x y z = k.slices.summed m w a 0 (omega (arith, suits.0)) (omega (arith, suits.0, suits.1)) x
row_value k Split12 w m a b c width suits typed x y z = k.slices.summed m w a 0 (omega (arith, suits.0)) (omega (arith, suits.0, suits.1)) x
row_value k Split16 w m a b c width suits typed x y z = k.slices.summed m w a 0 (omega (arith, suits.0)) (omega (arith, suits.0, suits.1)) x
row_value k Part8 w m a b c width suits typed x y z = k.slices.joined m w a 0 (omega (arith, suits.0, suits.1)) x
row_value k Part12 w m a b c width suits typed x y z = k.slices.joined m w a 0 (omega (arith, suits.0, suits.1)) x
row_value k Part16 w m a b c width suits typed x y z = k.slices.joined m w a 0 (omega (arith, suits.0, suits.1)) x
row_value k ZxAnd w m a b c width suits typed x y z = sym (k.slices.masked m w a 0)
row_value k AndZx w m a b c width suits typed x y z = k.slices.masked m w a 0
row_value k SxShifts w m a b c width suits typed x y z = sym (k.slices.shifted m w a 0 suits (omega (arith, typed.2.1)))
