-- What forms and operators of laws ask, so that programs can make them.
use Rattle.std.specs.Prelude.{ℕ, ◌-◌, ◌≤◌, Option, None, Some, if◌then◌else◌}
use Rattle.qc_words.specs.declared.operator.Op.{Op}
use Rattle.qc_words.specs.Width.{IsWidth}
use Rattle.qc_terms.specs.Tree.{Tree, Binary}
use Rattle.qc_equations.specs.declared.form.Left.{Left}
use Rattle.qc_equations.specs.declared.form.Left.TheVariants.{Constant, OneOperand, WithLiteral, LowBits}
use Rattle.qc_equations.specs.declared.form.Literal.{Literal}
use Rattle.qc_equations.specs.declared.form.Literal.TheVariants.{Zero, Ones}
use Rattle.qc_equations.specs.declared.form.Operator.{Operator}
use Rattle.qc_equations.specs.declared.form.Operator.TheVariants.{Complement, Negation, ZeroExtension, SignExtension, Widening, LowSlice, HighSlice}
use Rattle.qc_equations.specs.Matching.{same_op}

-- the operator is the complement or the negation
abbrev pub IsPlain : Operator → Type 0
IsPlain Complement = Unit {0}
IsPlain Negation = Unit {0}
IsPlain _ = ⊥

-- the operator is an extension to the word's width
abbrev pub IsExtension : Operator → Type 0
IsExtension ZeroExtension = Unit {0}
IsExtension SignExtension = Unit {0}
IsExtension _ = ⊥

-- the literal has the word's width and no size in it
abbrev pub IsOfWord : Literal → Type 0
IsOfWord Zero = Unit {0}
IsOfWord Ones = Unit {0}
IsOfWord _ = ⊥

-- the operators, literals and sizes of the form are those of left sides
abbrev pub IsForm : Left → Type 0
IsForm (Constant size) = size ≤ 64
IsForm (OneOperand operator) = IsPlain operator
IsForm (WithLiteral op literal) = IsOfWord literal
IsForm (LowBits extension) = IsExtension extension
IsForm _ = Unit {0}

-- the widths that the operator carries are widths of words
abbrev pub HasWords : Operator → (word size : ℕ) → Type 0
HasWords Widening word size = IsWidth size
HasWords LowSlice word size = IsWidth size
HasWords HighSlice word size = IsWidth (word - size)
HasWords _ word size = Unit {0}

-- the operands of a term with this operator
abbrev pub operands_of : Op → Tree → Option (Tree × Tree)
operands_of op (Binary found left right) = if same_op found op then Some (left, right) else None
operands_of op _ = None
