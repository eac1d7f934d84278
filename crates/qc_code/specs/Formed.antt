-- Templates whose lines are instructions of a description, each with its operands.
use Rattle.std.specs.Prelude.{ℕ, ◌≡◌, ◌≤◌, length, ◌<◌, List, [], ◌∷◌, slice_get, slice_index, true, Some, All}
use Rattle.qc_terms.specs.Tree.{Tree, Number, Unary, Binary, Register, Immediate, Load, NextInput, AddressAfter, tree_of, width_of}
use Rattle.qc_terms.specs.Typing.{IsTyped}
use Rattle.qc_descr.specs.declared.description.Description.{Description}
use Rattle.qc_descr.specs.declared.description.Instruction.{Instruction}
use Rattle.qc_descr.specs.declared.description.OperandKind.{OperandKind}
use Rattle.qc_descr.specs.declared.description.OperandKind.TheVariants as kind
use Rattle.qc_descr.specs.Description.{context_of_description, counts_of, kinds_of}
use Rattle.qc_tiles.specs.declared.tile.Tile.{Tile}
use Rattle.qc_tiles.specs.Sound.{facts_of, kinds_of_tile}
use Rattle.qc_code.specs.declared.template.Slot.{Slot}
use Rattle.qc_code.specs.declared.template.Slot.TheVariants.{Param, Scratch, Cell, Constant, Target}
use Rattle.qc_code.specs.declared.template.Template.{Template}
use Rattle.qc_code.specs.Setting.{Line}

-- A term over the tile's constants alone: each of them is named as an immediate of its width. It reads no register, no
-- memory, no input, not the address after, and not the target.
abbrev pub IsOfConstants : List OperandKind → Tree → Type 0
IsOfConstants kinds (Number value width) = Unit {0}
IsOfConstants kinds (Unary op arg) = IsOfConstants kinds arg
IsOfConstants kinds (Binary op left right) = IsOfConstants kinds left × IsOfConstants kinds right
IsOfConstants kinds (Register place width) = ⊥
IsOfConstants kinds (Immediate operand width) = slice_get kinds operand ≡ Some (kind.Imm width)
IsOfConstants kinds (Load width address) = ⊥
IsOfConstants kinds (NextInput width) = ⊥
IsOfConstants kinds (AddressAfter width) = ⊥

-- The slot may stand for an operand of this kind. A register is a parameter or a scratch where it is of the allocatable
-- space, or a cell of its space. An immediate is a constant of its width, and an address is the target.
abbrev pub IsSlotFor : Description → Tile → (scratches : ℕ) → OperandKind → Slot → Type 0
IsSlotFor d t scratches (kind.Register space) (Param number) = (space ≡ d.allocatable) × (number < t.registers)
IsSlotFor d t scratches (kind.Register space) (Scratch number) = (space ≡ d.allocatable) × (number < scratches)
IsSlotFor d t scratches (kind.Register space) (Cell index) = index < slice_index (counts_of d) space
IsSlotFor d t scratches (kind.Imm width) (Constant term) =
    (width_of (tree_of term) ≡ width) × IsTyped (context_of_description d) (tree_of term)
    × IsOfConstants (kinds_of_tile (facts_of d) t) (tree_of term)
IsSlotFor d t scratches kind.Addr Target = t.target ≡ true
IsSlotFor d t scratches _ _ = ⊥

-- there is one slot for each kind
abbrev pub AreSlotsFor : Description → Tile → (scratches : ℕ) → List OperandKind → List Slot → Type 0
AreSlotsFor d t scratches [] [] = Unit {0}
AreSlotsFor d t scratches [] (slot ∷ slots) = ⊥
AreSlotsFor d t scratches (kind ∷ kinds) [] = ⊥
AreSlotsFor d t scratches (kind ∷ kinds) (slot ∷ slots) =
    IsSlotFor d t scratches kind slot × AreSlotsFor d t scratches kinds slots

-- The description has the line's instruction, and there are slots for its operands.
pub record IsLineFor (d : Description) (t : Tile) (scratches : ℕ) (line : Line) : Type 0 where
  pub instruction : Instruction
  pub is : slice_get d.instructions line.0 ≡ Some instruction
  pub slots : AreSlotsFor d t scratches (kinds_of instruction) line.1

-- there is at least one line
pub record IsFormed (d : Description) (t : Tile) (x : Template) : Type 0 where
  pub some_line : 1 ≤ length x.instances
  pub lines : All (IsLineFor d t x.scratches) x.instances
