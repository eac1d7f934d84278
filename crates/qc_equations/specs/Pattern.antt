-- The sides of laws as patterns: trees over the parts of a term, where numbers and widths come from the parts.
use Rattle.std.specs.Prelude.{ℕ, ◌-◌, ◌^◌}
use Rattle.qc_words.specs.declared.operator.Op.{Op}
use Rattle.qc_words.specs.declared.operator.Op.TheVariants.{Com, Neg, Zx, Sx, Slice}
use Rattle.qc_terms.specs.Tree.{Tree, Number, Unary, Binary, width_of}
use Rattle.qc_equations.specs.declared.form.Literal.{Literal}
use Rattle.qc_equations.specs.declared.form.Literal.TheVariants.{Zero, One, Ones, Least, Size, Rest, LowMask, WideOne}
use Rattle.qc_equations.specs.declared.form.Operator.{Operator}
use Rattle.qc_equations.specs.declared.form.Operator.TheVariants.{Complement, Negation, ZeroExtension, SignExtension, Widening, LowSlice, HighSlice}

-- The parts of a term that a law speaks of. The word of the law has the width of the first part. The size is a number
-- of bits: where a constant is taken apart, how many low bits are meant, or how wide an extension is.
pub record Parts : Type 0 where
  pub a : Tree
  pub b : Tree
  pub c : Tree
  pub size : ℕ

-- a side of a law
pub data Pattern : Type 0 where
  A B C : Pattern
  Fixed : (literal : Literal) → Pattern
  Prefix : (operator : Operator) (arg : Pattern) → Pattern
  Infix : (op : Op) (left right : Pattern) → Pattern

-- a literal's number, for a word's width and a size
abbrev pub literal_value : Literal → (word size : ℕ) → ℕ
literal_value Zero word size = 0
literal_value One word size = 1
literal_value Ones word size = 2 ^ word - 1
literal_value Least word size = 2 ^ (word - 1)
literal_value Size word size = size
literal_value Rest word size = word - size
literal_value LowMask word size = 2 ^ size - 1
literal_value WideOne word size = 1

abbrev pub literal_width : Literal → (word size : ℕ) → ℕ
literal_width WideOne word size = size
literal_width _ word size = word

-- the operator that an operator of a law is
abbrev pub op_of : Operator → (word size : ℕ) → Op
op_of Complement word size = Com
op_of Negation word size = Neg
op_of ZeroExtension word size = Zx word
op_of SignExtension word size = Sx word
op_of Widening word size = Zx size
op_of LowSlice word size = Slice 0 size
op_of HighSlice word size = Slice size (word - size)

-- the tree of a literal beside the parts
abbrev pub literal_of : Literal → Parts → Tree
literal_of literal parts =
    Number (literal_value literal (width_of parts.a) parts.size) (literal_width literal (width_of parts.a) parts.size)

-- the tree that a pattern is over the parts
abbrev pub fill : Pattern → Parts → Tree
fill A parts = parts.a
fill B parts = parts.b
fill C parts = parts.c
fill (Fixed literal) parts = literal_of literal parts
fill (Prefix operator arg) parts = Unary (op_of operator (width_of parts.a) parts.size) (fill arg parts)
fill (Infix op left right) parts = Binary op (fill left parts) (fill right parts)
