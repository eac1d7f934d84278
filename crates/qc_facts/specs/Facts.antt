-- What all expressions of a machine are written for: its words, its spaces and their cells, and the operators.
use Rattle.std.specs.Prelude.{ℕ, nat_lt, if◌then◌else◌, cond, is_some, List, [], ◌∷◌, codes, Option, None, Some}
use Rattle.std.specs.List.{flat_map}
use Rattle.std.specs.Str.{bytes_eq}
use Rattle.qc_words.specs.declared.operator.Op.{Op}
use Rattle.qc_words.specs.declared.operator.Op.TheVariants as op
use Rattle.qc_words.specs.Operators.{is_unary}
use Rattle.qc_terms.specs.declared.term.Place.TheVariants as place
use Rattle.qc_grammar.specs.declared.cursor.Ident.{Ident}
use Rattle.qc_grammar.specs.declared.cursor.Number.{Number}
use Rattle.qc_lrtl.specs.declared.syntax.OperandKind.{OperandKind}
use Rattle.qc_lrtl.specs.declared.syntax.OperandKind.TheVariants.{Register, Immediate, Address}
use Rattle.qc_lrtl.specs.declared.syntax.Item.{Item}
use Rattle.qc_lrtl.specs.declared.syntax.Item.TheVariants.{Word, Space}
use Rattle.qc_facts.specs.declared.facts.OperandFacts.TheVariants.{Register as register, Immediate as immediate, Address as address}
use Rattle.qc_facts.specs.declared.facts.OperandFacts.{OperandFacts}
use Rattle.qc_facts.specs.declared.facts.SpaceFacts.{SpaceFacts}
use Rattle.qc_facts.specs.declared.facts.Target.{Target}
use Rattle.qc_facts.specs.declared.faults.WidthFault.{WidthFault}
use Rattle.qc_facts.specs.declared.faults.WidthFault.TheVariants.{UnknownName}
use Rattle.qc_facts.specs.Faults.{unknown_unless}
use Rattle.qc_facts.specs.Numbers.{width_in, width_faults}

-- the first of a list that has this name
abbrev pub named : {A : Type 0} → (A → List ℕ) → List A → List ℕ → Option A
named name_of [] name = None
named name_of (x ∷ xs) name = cond (bytes_eq (name_of x) name) (Some x) (named name_of xs name)

-- the first of a list that has this name, with its place, where the list begins at this place
abbrev pub placed_from : {A : Type 0} → ℕ → (A → List ℕ) → List A → List ℕ → Option (ℕ × A)
placed_from at name_of [] name = None
placed_from at name_of (x ∷ xs) name =
    cond (bytes_eq (name_of x) name) (Some (at, x)) (placed_from (ℕ.suc at) name_of xs name)

-- the operators that have names
unfoldable pub operators : List (List ℕ × Op)
operators =
    (codes "add", op.Add) ∷ (codes "sub", op.Sub) ∷ (codes "mul", op.Mul) ∷ (codes "divu", op.Divu)
    ∷ (codes "modu", op.Modu) ∷ (codes "quot", op.Quot) ∷ (codes "rem", op.Rem) ∷ (codes "and", op.And)
    ∷ (codes "or", op.Or) ∷ (codes "xor", op.Xor) ∷ (codes "com", op.Com) ∷ (codes "neg", op.Neg)
    ∷ (codes "shl", op.Shl) ∷ (codes "shrl", op.Shrl) ∷ (codes "shra", op.Shra) ∷ (codes "eq", op.Eq)
    ∷ (codes "ne", op.Ne) ∷ (codes "lt", op.Lt) ∷ (codes "ge", op.Ge) ∷ (codes "ltu", op.Ltu)
    ∷ (codes "geu", op.Geu) ∷ []

abbrev pub second : Option (List ℕ × Op) → Option Op
second None = None
second (Some p) = Some p.1

unfoldable pub operator_named : List ℕ → Option Op
operator_named name = second (named (λ p. p.0) operators name)

-- how many operands an operator has
abbrev pub operands_of : Op → ℕ
operands_of op = if is_unary op then 1 else 2

-- What all expressions of a machine are written for: the width of its words, if that is known, and its spaces.
pub record Facts : Type 0 where
  pub word : Option ℕ
  pub spaces : List SpaceFacts

abbrev pub space_named : Facts → List ℕ → Option (ℕ × SpaceFacts)
space_named facts name = placed_from 0 (λ s. s.name) facts.spaces name

-- the cell of this number, if its space has it
abbrev pub cell_in : Number → Option (ℕ × SpaceFacts) → Option Target
cell_in cell None = None
cell_in cell (Some s) =
    if nat_lt cell.value s.1.cells
    then Some (record { place = place.Cell s.0 cell.value; width = s.1.width }) else None

abbrev pub cell_named : Facts → Ident → Number → Option Target
cell_named facts space cell = cell_in cell (space_named facts space.text)

-- the name of the space is unknown, or it has no cell of this number
abbrev pub number_faults : Number → Option (ℕ × SpaceFacts) → ℕ → List WidthFault
number_faults cell None token = UnknownName token ∷ []
number_faults cell (Some s) token = if nat_lt cell.value s.1.cells then [] else UnknownName cell.token ∷ []

abbrev pub cell_faults : Facts → Ident → Number → List WidthFault
cell_faults facts space cell = number_faults cell (space_named facts space.text) space.token

-- The width of words: that of the first item of them, or 32 where there is none.
abbrev pub word_in : List Item → Option ℕ
word_in [] = Some 32
word_in (Word token bits ∷ items) = width_in bits
word_in (_ ∷ items) = word_in items

-- the spaces in order, also those of one name
abbrev pub space_of_item : Item → List SpaceFacts
space_of_item (Space token name cells bits flags) =
    record { name = name.text; cells = cells.value; width = width_in bits; flags = flags } ∷ []
space_of_item _ = []

abbrev pub spaces_in : List Item → List SpaceFacts
spaces_in items = flat_map space_of_item items

abbrev pub facts_in : List Item → Facts
facts_in items = record { word = word_in items; spaces = spaces_in items }

-- what an operand is, if the space that it names is unknown a register of any
abbrev pub register_of : Option (ℕ × SpaceFacts) → OperandFacts
register_of None = register 0 None
register_of (Some s) = register s.0 s.1.width

abbrev pub facts_of_operand : Facts → OperandKind → OperandFacts
facts_of_operand facts (Register space) = register_of (space_named facts space.text)
facts_of_operand facts (Immediate token bits) = immediate (width_in bits)
facts_of_operand facts (Address token) = address

-- the number of the first function or named effects of this name, in order
abbrev pub place_of : {A : Type 0} → Option (ℕ × A) → Option ℕ
place_of None = None
place_of (Some p) = Some p.0

-- what is wrong with an operand's kind
abbrev pub kind_faults : Facts → OperandKind → List WidthFault
kind_faults facts (Register space) = unknown_unless (is_some (space_named facts space.text)) space.token
kind_faults facts (Immediate token bits) = width_faults bits
kind_faults facts (Address token) = []
