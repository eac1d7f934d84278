-- Right sides of laws as lists of parts, an operator before its operands.
use Rattle.std.specs.Prelude.{ℕ, ◌≡◌, List, [], ◌∷◌, ◌++◌, ◌<◌, length, drop}
use Rattle.qc_words.specs.Width.{IsWidth}
use Rattle.qc_terms.specs.Tree.{Tree, width_of}
use Rattle.qc_pool.specs.Nodes.{term_at}
use Rattle.qc_pool.specs.Widths.{HasWidths}
use Rattle.qc_equations.specs.declared.form.Literal.{Literal}
use Rattle.qc_equations.specs.declared.form.Literal.TheVariants.{WideOne}
use Rattle.qc_equations.specs.Pattern.{Parts, Pattern, A, B, C, Fixed, Prefix, Infix, fill}
use Rattle.qc_laws.specs.declared.right.Part.{Part}
use Rattle.qc_laws.specs.declared.right.Part.TheVariants.{First, Second, Third, Number, Un, Bin}
use Rattle.qc_laws.specs.Inner.Forms.{HasWords}

-- the list of a pattern
abbrev pub spell : Pattern → List Part
spell A = First ∷ []
spell B = Second ∷ []
spell C = Third ∷ []
spell (Fixed literal) = Number literal ∷ []
spell (Prefix operator arg) = Un operator ∷ spell arg
spell (Infix op left right) = Bin op ∷ (spell left ++ spell right)

-- the width of a literal is one of words
abbrev pub LiteralHasWord : Literal → (size : ℕ) → Type 0
LiteralHasWord WideOne size = IsWidth size
LiteralHasWord _ size = Unit {0}

-- all widths that the pattern's operators and literals carry are widths of words
abbrev pub AllHaveWords : Pattern → (word size : ℕ) → Type 0
AllHaveWords A word size = Unit {0}
AllHaveWords B word size = Unit {0}
AllHaveWords C word size = Unit {0}
AllHaveWords (Fixed literal) word size = LiteralHasWord literal size
AllHaveWords (Prefix operator arg) word size = HasWords operator word size × AllHaveWords arg word size
AllHaveWords (Infix op left right) word size = AllHaveWords left word size × AllHaveWords right word size

-- the pattern over the parts is a term that a pool may have
pub record CanStand (p : Pattern) (parts : Parts) : Type 0 where
  pub words : AllHaveWords p (width_of parts.a) parts.size
  pub widths : HasWidths (fill p parts)

-- from a place on the list is that of a pattern that can stand over the parts, and something more
abbrev pub Spells : List Part → ℕ → Parts → Type 0
Spells list at parts =
    (p : Pattern) × (rest : List Part) × (drop at list ≡ spell p ++ rest) × CanStand p parts

-- the pattern over the parts is the term of the id
pub record IsMade (terms : List Tree) (p : Pattern) (parts : Parts) (id : ℕ) : Type 0 where
  pub there : id < length terms
  pub term : term_at terms id ≡ fill p parts
