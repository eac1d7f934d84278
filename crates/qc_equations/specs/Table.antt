-- The laws: the left and the right side of each. Laws go from left to right.
use Rattle.std.specs.Prelude.{Option}
use Rattle.std.specs.Option.{option_map}
use Rattle.qc_words.specs.declared.operator.Op.TheVariants.{Add, Sub, Mul, And, Or, Xor, Shl, Shra, Eq, Ne, Lt, Ge, Ltu, Geu}
use Rattle.qc_terms.specs.Tree.{Tree}
use Rattle.qc_equations.specs.declared.form.Left.{Left}
use Rattle.qc_equations.specs.declared.form.Left.TheVariants.{Whole, Constant, OneOperand, TwoOperands, WithLiteral, LeftNested, RightNested, WideComplement, LowBits, Masked}
use Rattle.qc_equations.specs.declared.form.Literal.TheVariants.{Zero, One, Ones, Least, Size, Rest, LowMask, WideOne}
use Rattle.qc_equations.specs.declared.form.Operator.TheVariants.{Complement, Negation, ZeroExtension, SignExtension, Widening, LowSlice, HighSlice}
use Rattle.qc_equations.specs.declared.names.Law.{Law}
use Rattle.qc_equations.specs.declared.names.Law.TheVariants.{AddZero, OrZero, AddZeroDrop, OrZeroDrop, XorZeroDrop, ShlZeroDrop, AndOnesDrop, AddSwap, AndSwap, OrSwap, XorSwap, EqSwap, NeSwap, MulSwap, AddLeft, AddRight, SubNeg, NegSub, NegCom, ComXor, ComSub, ComNeg, XorOrAnd, OrXorAnd, AndOr, OrAnd, SubCom, AddSub, EqLtu, NeLtu, LtLtu, LtuLt, EqNe, NeEq, LtGe, GeLt, LtuGeu, GeuLtu, ZxCom, Split8, Split12, Split16, Part8, Part12, Part16, ZxAnd, AndZx, SxShifts}
use Rattle.qc_equations.specs.Matching.{parts_of}
use Rattle.qc_equations.specs.Pattern.{Pattern, A, B, C, Fixed, Prefix, Infix, fill}

-- the two sides: the form of the terms that the law matches, and what it gives for their parts
pub record Equation : Type 0 where
  pub left : Left
  pub right : Pattern

abbrev pub turns : Left → Pattern → Equation
turns left right = record { left = left; right = right }

-- each bit inverted
abbrev pub inverted : Pattern → Pattern
inverted = Prefix Complement

-- the low bits as a number with a sign, and without
abbrev pub signed_low : Pattern
signed_low = Prefix SignExtension (Prefix LowSlice A)

abbrev pub unsigned_low : Pattern
unsigned_low = Prefix ZeroExtension (Prefix LowSlice A)

-- the high bits at their place
abbrev pub high : Pattern → Pattern
high p = Infix Shl (Prefix ZeroExtension (Prefix HighSlice p)) (Fixed Size)

-- The constant as a sum: the high part takes a carry where the low one is negative.
abbrev pub split : Pattern
split = Infix Add (high (Infix Sub A signed_low)) signed_low

abbrev pub parted : Pattern
parted = Infix Or (high A) unsigned_low

-- the sign bit inverted
abbrev pub turned : Pattern → Pattern
turned p = Infix Xor p (Fixed Least)

abbrev pub equation_of : Law → Equation
equation_of AddZero = turns Whole (Infix Add A (Fixed Zero))
equation_of OrZero = turns Whole (Infix Or A (Fixed Zero))
equation_of AddZeroDrop = turns (WithLiteral Add Zero) A
equation_of OrZeroDrop = turns (WithLiteral Or Zero) A
equation_of XorZeroDrop = turns (WithLiteral Xor Zero) A
equation_of ShlZeroDrop = turns (WithLiteral Shl Zero) A
equation_of AndOnesDrop = turns (WithLiteral And Ones) A
equation_of AddSwap = turns (TwoOperands Add) (Infix Add B A)
equation_of AndSwap = turns (TwoOperands And) (Infix And B A)
equation_of OrSwap = turns (TwoOperands Or) (Infix Or B A)
equation_of XorSwap = turns (TwoOperands Xor) (Infix Xor B A)
equation_of EqSwap = turns (TwoOperands Eq) (Infix Eq B A)
equation_of NeSwap = turns (TwoOperands Ne) (Infix Ne B A)
equation_of MulSwap = turns (TwoOperands Mul) (Infix Mul B A)
equation_of AddLeft = turns (RightNested Add) (Infix Add (Infix Add A B) C)
equation_of AddRight = turns (LeftNested Add) (Infix Add A (Infix Add B C))
equation_of SubNeg = turns (TwoOperands Sub) (Infix Add A (Prefix Negation B))
equation_of NegSub = turns (OneOperand Negation) (Infix Sub (Fixed Zero) A)
equation_of NegCom = turns (OneOperand Negation) (Infix Add (inverted A) (Fixed One))
equation_of ComXor = turns (OneOperand Complement) (Infix Xor A (Fixed Ones))
equation_of ComSub = turns (OneOperand Complement) (Infix Sub (Fixed Ones) A)
equation_of ComNeg = turns (OneOperand Complement) (Infix Sub (Prefix Negation A) (Fixed One))
equation_of XorOrAnd = turns (TwoOperands Xor) (Infix Sub (Infix Or A B) (Infix And A B))
equation_of OrXorAnd = turns (TwoOperands Or) (Infix Add (Infix Xor A B) (Infix And A B))
equation_of AndOr = turns (TwoOperands And) (inverted (Infix Or (inverted A) (inverted B)))
equation_of OrAnd = turns (TwoOperands Or) (inverted (Infix And (inverted A) (inverted B)))
equation_of SubCom = turns (TwoOperands Sub) (inverted (Infix Add (inverted A) B))
equation_of AddSub = turns (TwoOperands Add) (Infix Sub A (Prefix Negation B))
equation_of EqLtu = turns (TwoOperands Eq) (Infix Ltu (Infix Xor A B) (Fixed One))
equation_of NeLtu = turns (TwoOperands Ne) (Infix Ltu (Fixed Zero) (Infix Xor A B))
equation_of LtLtu = turns (TwoOperands Lt) (Infix Ltu (turned A) (turned B))
equation_of LtuLt = turns (TwoOperands Ltu) (Infix Lt (turned A) (turned B))
equation_of EqNe = turns (TwoOperands Eq) (inverted (Infix Ne A B))
equation_of NeEq = turns (TwoOperands Ne) (inverted (Infix Eq A B))
equation_of LtGe = turns (TwoOperands Lt) (inverted (Infix Ge A B))
equation_of GeLt = turns (TwoOperands Ge) (inverted (Infix Lt A B))
equation_of LtuGeu = turns (TwoOperands Ltu) (inverted (Infix Geu A B))
equation_of GeuLtu = turns (TwoOperands Geu) (inverted (Infix Ltu A B))
equation_of ZxCom = turns WideComplement (Infix Xor (Prefix Widening A) (Fixed WideOne))
equation_of Split8 = turns (Constant 8) split
equation_of Split12 = turns (Constant 12) split
equation_of Split16 = turns (Constant 16) split
equation_of Part8 = turns (Constant 8) parted
equation_of Part12 = turns (Constant 12) parted
equation_of Part16 = turns (Constant 16) parted
equation_of ZxAnd = turns (LowBits ZeroExtension) (Infix And A (Fixed LowMask))
equation_of AndZx = turns Masked unsigned_low
equation_of SxShifts = turns (LowBits SignExtension) (Infix Shra (Infix Shl A (Fixed Rest)) (Fixed Rest))

-- what a law gives for a term, where it matches the term
abbrev pub gives : Law → Tree → Option Tree
gives law t = option_map (fill (equation_of law).right) (parts_of (equation_of law).left t)
