-- When a law turns one term into another, without a search: both are the trees of its two sides over the same parts.
use Rattle.std.specs.Prelude.{◌≡◌, ◌≤◌, ◌<◌, true}
use Rattle.qc_words.specs.declared.operator.Op.TheVariants.{And}
use Rattle.qc_words.specs.Width.{IsWidth}
use Rattle.qc_terms.specs.Tree.{Tree, width_of}
use Rattle.qc_equations.specs.declared.form.Left.{Left}
use Rattle.qc_equations.specs.declared.form.Left.TheVariants.{Whole, Constant, OneOperand, TwoOperands, WithLiteral, LeftNested, RightNested, WideComplement, LowBits, Masked}
use Rattle.qc_equations.specs.declared.form.Literal.TheVariants.{LowMask}
use Rattle.qc_equations.specs.declared.form.Operator.TheVariants.{Complement, Widening, LowSlice}
use Rattle.qc_equations.specs.declared.names.Law.{Law}
use Rattle.qc_equations.specs.Matching.{is_constant}
use Rattle.qc_equations.specs.Pattern.{Parts, Pattern, A, B, C, Fixed, Prefix, Infix, fill}
use Rattle.qc_equations.specs.Table.{equation_of}

-- the left side of a law as a pattern
abbrev pub left_pattern : Left → Pattern
left_pattern Whole = A
left_pattern (Constant size) = A
left_pattern (OneOperand operator) = Prefix operator A
left_pattern (TwoOperands op) = Infix op A B
left_pattern (WithLiteral op literal) = Infix op A (Fixed literal)
left_pattern (LeftNested op) = Infix op (Infix op A B) C
left_pattern (RightNested op) = Infix op A (Infix op B C)
left_pattern WideComplement = Prefix Widening (Prefix Complement A)
left_pattern (LowBits extension) = Prefix extension (Prefix LowSlice A)
left_pattern Masked = Infix And A (Fixed LowMask)

-- what a form asks of the parts besides
abbrev pub Suits : Left → Parts → Type 0
Suits (Constant bits) parts = (is_constant parts.a ≡ true) × (parts.size ≡ bits) × (bits < width_of parts.a)
Suits WideComplement parts = width_of parts.a ≡ 1
Suits (LowBits extension) parts = 1 ≤ parts.size
Suits Masked parts = (1 ≤ parts.size) × (parts.size < width_of parts.a)
Suits _ parts = Unit {0}

-- the law turns the term t into the term u
pub record TurnsInto (law : Law) (t u : Tree) : Type 0 where
  pub parts : Parts
  pub word : IsWidth (width_of parts.a)
  pub suits : Suits (equation_of law).left parts
  pub left : t ≡ fill (left_pattern (equation_of law).left) parts
  pub right : u ≡ fill (equation_of law).right parts
