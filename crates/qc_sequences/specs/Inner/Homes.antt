-- The registers that nodes' values are for, and what functions that make sequences answer.
use Rattle.std.specs.Prelude.{ℕ, ◌≡◌, ◌+◌, List, map, length}
use Rattle.qc_descr.specs.declared.description.OperandKind.{OperandKind}
use Rattle.qc_code.specs.declared.template.Slot.{Slot}
use Rattle.qc_code.specs.declared.template.Slot.TheVariants as slot
use Rattle.qc_derivations.specs.Forest.{Bound, Empty, Forest, Grow, Stand, grow_all}
use Rattle.qc_derivations.specs.Machine.{Assignment, Machine}
use Rattle.qc_derivations.specs.Sequence.{child_slots, lines_of, scratches_from, scratches_of, slots_from}
use Rattle.qc_sequences.specs.declared.homes.Home.{Home}
use Rattle.qc_sequences.specs.declared.homes.Home.TheVariants.{Param, Scratch, Cell}
use Rattle.qc_sequences.specs.declared.homes.Row.{Row}
use Rattle.qc_sequences.specs.declared.homes.Made.{Made}

abbrev pub home_slot : Home → Slot
home_slot (Param number) = slot.Param number
home_slot (Scratch number) = slot.Scratch number
home_slot (Cell index) = slot.Cell index

abbrev pub home_slots : List Home → List Slot
home_slots homes = map home_slot homes

-- the number of trees that stand beside each other
abbrev pub trees_in : Forest → ℕ
trees_in Empty = 0
trees_in (Grow node children rest) = 1 + trees_in rest

-- The row has the slots of the operands from a number on, the registers of the children among them, and the number of the
-- next scratch. There are as many registers as trees of children.
pub record IsRow (m : Machine) (assignments : List Assignment) (kinds : List OperandKind) (own : Home) (number scratch : ℕ) (stands : List Stand) (bounds : List Bound) (row : Row) : Type 0 where
  pub slots : row.slots ≡ slots_from m assignments kinds (home_slot own) number scratch stands
  pub homes : home_slots row.homes ≡ child_slots stands (slots_from m assignments kinds (home_slot own) number scratch stands)
  pub next : row.next ≡ scratch + scratches_from m assignments number stands
  pub trees : (rest : Forest) → trees_in (grow_all bounds rest) ≡ length row.homes + trees_in rest

-- the lines of the forest, and the number of the scratch after its ones
pub record IsMade (m : Machine) (forest : Forest) (owns : List Slot) (scratch : ℕ) (made : Made) : Type 0 where
  pub lines : made.lines ≡ lines_of m forest owns scratch
  pub next : made.next ≡ scratch + scratches_of m forest
