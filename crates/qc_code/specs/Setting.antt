-- What the slots of a template stand for where it is used, and what its lines do there.
use Rattle.std.specs.Prelude.{ℕ, suc, ◌≢◌, ◌+◌, ◌<◌, ◌≤◌, ◌^◌, ◌⊎◌, List, [], ◌∷◌, length, map, slice_get, slice_index, Option, None, Some}
use Rattle.qc_words.specs.Operators.{result_of}
use Rattle.qc_terms.specs.declared.term.Rtl.{Rtl}
use Rattle.qc_terms.specs.Tree.{Tree, Number, Unary, Binary, Register, Immediate, Load, NextInput, AddressAfter, tree_of, width_of}
use Rattle.qc_descr.specs.declared.description.Description.{Description}
use Rattle.qc_descr.specs.declared.description.Instruction.{Instruction}
use Rattle.qc_descr.specs.declared.description.OperandKind.{OperandKind}
use Rattle.qc_descr.specs.declared.description.OperandKind.TheVariants as kind
use Rattle.qc_descr.specs.Description.{counts_of}
use Rattle.qc_tiles.specs.declared.tile.Tile.{Tile}
use Rattle.qc_tiles.specs.Sound.{facts_of, kinds_of_tile}
use Rattle.qc_code.specs.declared.template.Slot.{Slot}
use Rattle.qc_code.specs.declared.template.Slot.TheVariants.{Param, Scratch, Cell, Constant, Target}
use Rattle.qc_code.specs.Running.{Transfer}

-- The tile's operands, which are its register parameters, then its constants, then its target; the cell of each scratch;
-- and the address after each line.
pub record Setting : Type 0 where
  pub operands : List ℕ
  pub scratch : ℕ → ℕ
  pub next : ℕ → ℕ

-- ---- slots

-- The value of a term of constants, for these operands. It reads no register, memory, input and address after: these have
-- no value here.
abbrev pub constant_value : List ℕ → Tree → ℕ
constant_value operands (Number value width) = value
constant_value operands (Unary op arg) = result_of op (width_of arg) (constant_value operands arg) 0
constant_value operands (Binary op left right) =
    result_of op (width_of left) (constant_value operands left) (constant_value operands right)
constant_value operands (Register place width) = 0
constant_value operands (Immediate operand width) = slice_index operands operand
constant_value operands (Load width address) = 0
constant_value operands (NextInput width) = 0
constant_value operands (AddressAfter width) = 0

-- the number of the tile's target among its operands
abbrev pub target_number : Tile → ℕ
target_number t = t.registers + length t.constants

-- the operand that a slot is
abbrev pub slot_value : Tile → Setting → Slot → ℕ
slot_value t e (Param number) = slice_index e.operands number
slot_value t e (Scratch number) = e.scratch number
slot_value t e (Cell index) = index
slot_value t e (Constant term) = constant_value e.operands (tree_of term)
slot_value t e Target = slice_index e.operands (target_number t)

-- ---- lines

-- a line is an instruction's number, with a slot for each operand
abbrev pub Line : Type 0
Line = ℕ × List Slot

-- what an instruction of the description does
abbrev pub rtl_of : Option Instruction → Rtl
rtl_of None = record { effects = [] }
rtl_of (Some instruction) = instruction.rtl

abbrev pub line_rtl : Description → Line → Rtl
line_rtl d line = rtl_of (slice_get d.instructions line.0)

-- what a line does where it has this address after it
abbrev pub transfer_of : Description → Tile → Setting → ℕ → Line → Transfer
transfer_of d t e after line =
    record { rtl = line_rtl d line; operands = map (slot_value t e) line.1; after = after }

-- what lines do, of which the first has this number
abbrev pub transfers_from : Description → Tile → Setting → ℕ → List Line → List Transfer
transfers_from d t e k [] = []
transfers_from d t e k (line ∷ lines) = transfer_of d t e (e.next k) line ∷ transfers_from d t e (suc k) lines

-- ---- settings

-- A register operand is an allocatable cell, or a number from the space's number of cells on, where the row of cells has
-- further ones. All are inside the row, which has so many cells.
pub record IsRegisterOf (d : Description) (row number : ℕ) : Type 0 where
  pub inside : number < row
  pub usable : ((d.first ≤ number) × (number ≤ d.last)) ⊎ (slice_index (counts_of d) d.allocatable ≤ number)

-- an operand of a tile
abbrev pub IsOperandOf : Description → ℕ → OperandKind → ℕ → Type 0
IsOperandOf d row (kind.Register space) operand = IsRegisterOf d row operand
IsOperandOf d row (kind.Imm width) operand = operand < 2 ^ width
IsOperandOf d row kind.Addr operand = operand < 2 ^ d.facts.word

-- there is one operand for each kind
abbrev pub AreOperandsOf : Description → ℕ → List OperandKind → List ℕ → Type 0
AreOperandsOf d row [] [] = Unit {0}
AreOperandsOf d row [] (operand ∷ operands) = ⊥
AreOperandsOf d row (kind ∷ kinds) [] = ⊥
AreOperandsOf d row (kind ∷ kinds) (operand ∷ operands) =
    IsOperandOf d row kind operand × AreOperandsOf d row kinds operands

-- A setting for so many scratches and lines, where the row of the allocatable space has so many cells. Two parameters may
-- be one cell. Scratches differ from each other and from the parameters. An address after a line is any word, since lines
-- may stand anywhere.
pub record IsSetting (d : Description) (t : Tile) (scratches lines row : ℕ) (e : Setting) : Type 0 where
  pub operands : AreOperandsOf d row (kinds_of_tile (facts_of d) t) e.operands
  pub scratches_are : (k : ℕ) → k < scratches → IsRegisterOf d row (e.scratch k)
  pub apart : (j k : ℕ) → j < k → k < scratches → e.scratch j ≢ e.scratch k
  pub from_parameters : (k number : ℕ) → k < scratches → number < t.registers →
      e.scratch k ≢ slice_index e.operands number
  pub words : (k : ℕ) → k < lines → e.next k < 2 ^ d.facts.word
