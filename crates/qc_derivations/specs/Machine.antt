-- A machine as derivations see it: what each instruction does, over trees, and what its operands are.
use Rattle.std.specs.Prelude.{ℕ, Bool, false, List, map, slice_get, Option, None, Some}
use Rattle.std.specs.Option.{option_map}
use Rattle.qc_terms.specs.declared.term.Dest.{Dest}
use Rattle.qc_terms.specs.declared.term.Dest.TheVariants as dest
use Rattle.qc_terms.specs.declared.term.Effect.{Effect}
use Rattle.qc_terms.specs.declared.term.Place.{Place}
use Rattle.qc_terms.specs.declared.term.Rtl.{Rtl}
use Rattle.qc_terms.specs.State.{is_zero_cell}
use Rattle.qc_terms.specs.Tree.{Tree, tree_of}
use Rattle.qc_descr.specs.declared.coding.Coding.{Coding}
use Rattle.qc_descr.specs.declared.description.Description.{Description}
use Rattle.qc_descr.specs.declared.description.Instruction.{Instruction}
use Rattle.qc_descr.specs.declared.description.OperandKind.{OperandKind}
use Rattle.qc_descr.specs.Description.{counts_of, kinds_of}

-- what an assignment changes
pub data Destination : Type 0 where
  ToPlace : (place : Place) → Destination
  ToMemory : (width : ℕ) (address : Tree) → Destination
  ToCounter ToOutput ToHalt ToTrap : Destination

-- An effect of a register transfer list, its terms as trees.
pub record Assignment : Type 0 where
  pub guard : Option Tree
  pub to : Destination
  pub value : Tree

abbrev pub destination_of : Dest → Destination
destination_of (dest.Reg place) = ToPlace place
destination_of (dest.Mem width address) = ToMemory width (tree_of address)
destination_of dest.Pc = ToCounter
destination_of dest.Out = ToOutput
destination_of dest.Halt = ToHalt
destination_of dest.Trap = ToTrap

abbrev pub assignment_of : Effect → Assignment
assignment_of e = record { guard = option_map tree_of e.guard; to = destination_of e.to; value = tree_of e.value }

-- the assignments of a register transfer list
abbrev pub assignments_of : Rtl → List Assignment
assignments_of rtl = map assignment_of rtl.effects

-- An instruction: what its operands are, what it does, and how it is encoded.
pub record Form : Type 0 where
  pub kinds : List OperandKind
  pub assignments : List Assignment
  pub coding : Coding

abbrev pub form_of : Instruction → Form
form_of i = record { kinds = kinds_of i; assignments = assignments_of i.rtl; coding = i.coding }

-- The instructions, the zero cell, of each space whether its cells are flags and how many there are, the space that a
-- compiler's cells are of, and the alignment of instructions in bytes.
pub record Machine : Type 0 where
  pub forms : List Form
  pub «zero» : Option (ℕ × ℕ)
  pub flags : List Bool
  pub counts : List ℕ
  pub allocatable : ℕ
  pub align : ℕ

abbrev pub machine_of : Description → Machine
machine_of d = record {
  forms = map form_of d.instructions;
  «zero» = d.facts.zero;
  flags = map (λ s. s.flags) d.spaces;
  counts = counts_of d;
  allocatable = d.allocatable;
  align = d.align;
}

-- the cells of the space are flags
abbrev pub is_true : Option Bool → Bool
is_true None = false
is_true (Some b) = b

abbrev pub has_flags : Machine → ℕ → Bool
has_flags m space = is_true (slice_get m.flags space)

-- the cell always reads 0
abbrev pub is_zero : Machine → ℕ → ℕ → Bool
is_zero m space index = is_zero_cell m.«zero» space index
