-- What code of each kind keeps: its lines are tiles or instructions of the description, with operands that fit, and its labels differ.
use Rattle.std.specs.Prelude.{ℕ, ◌≡◌, ◌≢◌, ◌<◌, ◌≤◌, ◌^◌, ◌⊎◌, List, [], ◌∷◌, length, map, slice_get, slice_index, Option, Some, Bool, true, false, All, Contains, is_some}
use Rattle.std.specs.List.{AllPairs, flat_map, list_any}
use Rattle.qc_descr.specs.declared.description.Description.{Description}
use Rattle.qc_descr.specs.declared.description.Instruction.{Instruction}
use Rattle.qc_descr.specs.declared.description.OperandKind.{OperandKind}
use Rattle.qc_descr.specs.declared.description.OperandKind.TheVariants as kind
use Rattle.qc_descr.specs.Description.{counts_of, kinds_of}
use Rattle.qc_tiles.specs.declared.name.TileName.{TileName}
use Rattle.qc_tiles.specs.Sound.{facts_of}
use Rattle.qc_tiles.specs.Tiles.{tile_of, tiles_of}
use Rattle.qc_meaning.specs.declared.lines.Line.{Line}
use Rattle.qc_meaning.specs.declared.lines.Line.TheVariants as line
use Rattle.qc_meaning.specs.declared.lines.TileLine.{TileLine}
use Rattle.qc_meaning.specs.declared.lines.TileLine.TheVariants as tile_line
use Rattle.qc_meaning.specs.declared.lines.TileCode.{TileCode}
use Rattle.qc_meaning.specs.declared.lines.Code.{Code}
use Rattle.qc_meaning.specs.declared.lines.Placed.{Placed}
use Rattle.qc_meaning.specs.Code as code
use Rattle.qc_meaning.specs.Code.{Does, Inst, Label}
use Rattle.qc_meaning.specs.Kinds.{is_address}
use Rattle.qc_meaning.specs.Runs.{own_cells}

-- ---- labels

abbrev pub tile_label : TileLine → List ℕ
tile_label (tile_line.Label number) = number ∷ []
tile_label (tile_line.Inst tile registers constants target) = []

abbrev pub line_label : Line → List ℕ
line_label (line.Label number) = number ∷ []
line_label (line.Inst instance target) = []

-- numbers of labels differ, and are none of procedures
pub record AreLabels (procedures : ℕ) (labels : List ℕ) : Type 0 where
  pub apart : AllPairs (λ a b. a ≢ b) labels
  pub above : All (λ number. procedures ≤ number) labels

-- ---- code of tiles

-- there is one constant for each width, below 2 to it
abbrev pub AreConstants : List ℕ → List ℕ → Type 0
AreConstants [] [] = Unit {0}
AreConstants [] (constant ∷ constants) = ⊥
AreConstants (width ∷ widths) [] = ⊥
AreConstants (width ∷ widths) (constant ∷ constants) = (constant < 2 ^ width) × AreConstants widths constants

-- A line is a tile of the machine, with its numbers of registers, which are virtual, and of constants, and with a target exactly where
-- the tile has one.
pub record IsTileInst (d : Description) (tile : TileName) (registers constants : List ℕ) (target : Option ℕ) : Type 0 where
  pub known : Contains (map (λ t. t.name) (tiles_of (facts_of d))) tile
  pub count : length registers ≡ (tile_of (facts_of d) tile).registers
  pub virtual : All (λ number. own_cells d ≤ number) registers
  pub words : AreConstants (tile_of (facts_of d) tile).constants constants
  pub aim : is_some target ≡ (tile_of (facts_of d) tile).target

abbrev pub IsTileLine : Description → TileLine → Type 0
IsTileLine d (tile_line.Label number) = Unit {0}
IsTileLine d (tile_line.Inst tile registers constants target) = IsTileInst d tile registers constants target

pub record IsTileCode (d : Description) (x : TileCode) : Type 0 where
  pub lines : All (λ ls. All (IsTileLine d) ls) x.procedures
  pub labels : AreLabels (length x.procedures) (flat_map (λ ls. flat_map tile_label ls) x.procedures)

-- ---- code of instructions

-- a register operand is a cell of its space, or a virtual register, which are of the allocatable space, where there are some
abbrev pub IsOperand : Description → (virtual : Bool) → OperandKind → ℕ → Type 0
IsOperand d true (kind.Register space) operand = (operand < slice_index (counts_of d) space) ⊎ (space ≡ d.allocatable)
IsOperand d false (kind.Register space) operand = operand < slice_index (counts_of d) space
IsOperand d virtual (kind.Imm width) operand = operand < 2 ^ width
IsOperand d virtual kind.Addr operand = operand ≡ 0

-- there is one operand for each kind
abbrev pub AreOperands : Description → (virtual : Bool) → List OperandKind → List ℕ → Type 0
AreOperands d virtual [] [] = Unit {0}
AreOperands d virtual [] (operand ∷ operands) = ⊥
AreOperands d virtual (k ∷ kinds) [] = ⊥
AreOperands d virtual (k ∷ kinds) (operand ∷ operands) = IsOperand d virtual k operand × AreOperands d virtual kinds operands

-- A line is an instruction of the machine, with its operands, and with a target exactly where one of them is an address.
pub record IsInstance (d : Description) (virtual : Bool) (number : ℕ) (operands : List ℕ) (target : Option ℕ) : Type 0 where
  pub instruction : Instruction
  pub is : slice_get d.instructions number ≡ Some instruction
  pub fit : AreOperands d virtual (kinds_of instruction) operands
  pub aim : is_some target ≡ list_any is_address (kinds_of instruction)

abbrev pub IsCodeLine : Description → (virtual : Bool) → Line → Type 0
IsCodeLine d virtual (line.Label number) = Unit {0}
IsCodeLine d virtual (line.Inst instance target) = IsInstance d virtual instance.instruction instance.operands.items target

pub record AreCodeLines (d : Description) (virtual : Bool) (procedures : List (List Line)) : Type 0 where
  pub lines : All (λ ls. All (IsCodeLine d virtual) ls) procedures
  pub labels : AreLabels (length procedures) (flat_map (λ ls. flat_map line_label ls) procedures)

abbrev pub IsCode : Description → Code → Type 0
IsCode d x = AreCodeLines d true x.procedures

-- placed code has no virtual registers
abbrev pub IsPlacedCode : Description → Placed → Type 0
IsPlacedCode d x = AreCodeLines d false x.procedures

-- ---- the machine invariant

-- the line does what an instruction of the description does
pub record IsOneInstruction (d : Description) (inst : Inst) : Type 0 where
  pub number : ℕ
  pub instruction : Instruction
  pub is : slice_get d.instructions number ≡ Some instruction
  pub rtl : inst.rtl ≡ instruction.rtl

abbrev pub DoesOne : Description → code.Line → Type 0
DoesOne d (Label number) = Unit {0}
DoesOne d (Does inst) = IsOneInstruction d inst
