-- What a description is made of beside its coding: the facts that a text gives, spaces, and operations.
use Rattle.std.specs.Prelude.{ℕ, ◌<◌, ◌≤◌, List, length, map, slice_index, All, Option, None, Some, IfSome}
use Rattle.qc_terms.specs.State.{Context}
use Rattle.qc_terms.specs.Typing.{HasOneEvent, IsTypedRtl}
use Rattle.qc_descr.specs.declared.description.OperandKind.{OperandKind}
use Rattle.qc_descr.specs.declared.description.OperandKind.TheVariants.{Register, Imm, Addr}
use Rattle.qc_descr.specs.declared.description.Space.{Space}
use Rattle.qc_descr.specs.declared.parts.Given.{Given}
use Rattle.qc_descr.specs.declared.parts.Operation.{Operation}
use Rattle.qc_descr.specs.Limits.{most_cells, most_effects, most_instructions, most_nodes, most_operands, most_spaces}
use Rattle.qc_descr.specs.Names.{AreDistinct, IsName}
use Rattle.qc_descr.specs.Valid.{EffectNames, nodes_of_rtl}

-- the width of words: the given one, or 32 where none is given
abbrev pub width_or_32 : Option ℕ → ℕ
width_or_32 None = 32
width_or_32 (Some width) = width

abbrev pub word_of : Given → ℕ
word_of given = width_or_32 given.word

-- what the register transfer lists are typed for
abbrev pub context_of_parts : Given → List Space → Context
context_of_parts given spaces =
    record { word = word_of given; widths = map (λ s. s.width) spaces; counts = map (λ s. s.cells) spaces }

-- a cell of one of the spaces
abbrev pub IsCellOf : List Space → ℕ × ℕ → Type 0
IsCellOf spaces cell = (cell.0 < length spaces) × (cell.1 < slice_index (map (λ s. s.cells) spaces) cell.0)

-- the space of a register is one of them
abbrev pub HasSpace : List Space → OperandKind → Type 0
HasSpace spaces (Register space) = space < length spaces
HasSpace spaces (Imm width) = Unit {0}
HasSpace spaces Addr = Unit {0}

-- An operation: it has a name, at most 8 operands with names of their own, at most 16 effects and 4,096 nodes of terms. Its
-- register transfer list is well typed, shows one thing at most, and names operands as what they are.
pub record IsOperation (given : Given) (spaces : List Space) (o : Operation) : Type 0 where
  pub name : IsName o.name
  pub operand_names : All (λ operand. IsName operand.0) o.operands
  pub operands : length o.operands ≤ most_operands
  pub places : All (λ operand. HasSpace spaces operand.1) o.operands
  pub distinct : AreDistinct (map (λ operand. operand.0) o.operands)
  pub effects : length o.rtl.effects ≤ most_effects
  pub nodes : nodes_of_rtl o.rtl ≤ most_nodes
  pub typed : IsTypedRtl (context_of_parts given spaces) o.rtl
  pub event : HasOneEvent o.rtl
  pub names : All (EffectNames (word_of given) (map (λ operand. operand.1) o.operands)) o.rtl.effects

-- What a description is made of: a name, at most 8 spaces of at most 64 cells, and at most 256 operations, with names of
-- their own. The cells that are given are cells of the spaces.
pub record AreParts (name : List ℕ) (given : Given) (spaces : List Space) (operations : List Operation) : Type 0 where
  pub is_name : IsName name
  pub space_names : All (λ s. IsName s.name) spaces
  pub few_spaces : length spaces ≤ most_spaces
  pub few_cells : All (λ s. s.cells ≤ most_cells) spaces
  pub distinct_spaces : AreDistinct (map (λ s. s.name) spaces)
  pub frame : IfSome given.frame (IsCellOf spaces)
  pub link : IfSome given.link (IsCellOf spaces)
  pub «zero» : IfSome given.zero (IsCellOf spaces)
  pub first : IfSome given.allocatable (λ a. IsCellOf spaces (a.0, a.1))
  pub last : IfSome given.allocatable (λ a. IsCellOf spaces (a.0, a.2))
  pub few_operations : length operations ≤ most_instructions
  pub distinct_operations : AreDistinct (map (λ o. o.name) operations)
  pub each : All (IsOperation given spaces) operations
