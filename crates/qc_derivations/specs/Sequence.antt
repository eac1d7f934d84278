-- The sequence of a derivation: its instructions with slots for their operands, children first, a flag's child last of them,
-- and then the node.
use Rattle.std.specs.Prelude.{ℕ, ◌+◌, Bool, List, [], ◌∷◌, ◌++◌, nat_eq, slice_get, Option, None, Some, if◌then◌else◌}
use Rattle.qc_terms.specs.declared.term.Place.{Place}
use Rattle.qc_terms.specs.declared.term.Place.TheVariants as place
use Rattle.qc_descr.specs.declared.description.Description.{Description}
use Rattle.qc_descr.specs.declared.description.OperandKind.{OperandKind}
use Rattle.qc_descr.specs.declared.description.OperandKind.TheVariants as kind
use Rattle.qc_tiles.specs.declared.tile.Tile.{Tile}
use Rattle.qc_tiles.specs.Terms.{term_of}
use Rattle.qc_code.specs.declared.template.Slot.{Slot}
use Rattle.qc_code.specs.declared.template.Slot.TheVariants as slot
use Rattle.qc_code.specs.declared.template.Template.{Template}
use Rattle.qc_code.specs.Setting.{Line}
use Rattle.qc_derivations.specs.declared.derivation.Derivation.{Derivation}
use Rattle.qc_derivations.specs.Forest.{Child, Constant, Empty, Forest, Grow, Node, Own, Param, Cell, Spare, Stand, forest_of}
use Rattle.qc_derivations.specs.Machine.{Assignment, Destination, Form, Machine, ToPlace, assignments_of, machine_of}
use Rattle.qc_derivations.specs.Rules.{is_written}

-- ---- scratches

-- the zero cell of the allocatable space, where it has one
abbrev pub spare_cell_in : ℕ → Option (ℕ × ℕ) → Option ℕ
spare_cell_in space None = None
spare_cell_in space (Some cell) = if nat_eq cell.0 space then Some cell.1 else None

abbrev pub spare_cell : Machine → Option ℕ
spare_cell m = spare_cell_in m.allocatable m.«zero»

abbrev pub one_unless : Option ℕ → ℕ
one_unless None = 1
one_unless (Some index) = 0

-- How many scratches an operand takes: one for a child that isn't computed into the node's own register, which one that is
-- written is, and one for a spare where there is no zero cell for it.
abbrev pub scratches_at : Machine → Bool → Stand → ℕ
scratches_at m written Child = if written then 0 else 1
scratches_at m written Spare = one_unless (spare_cell m)
scratches_at m written _ = 0

-- how many scratches the operands from this number on take
abbrev pub scratches_from : Machine → List Assignment → ℕ → List Stand → ℕ
scratches_from m assignments number [] = 0
scratches_from m assignments number (stand ∷ stands) =
    scratches_at m (is_written number assignments) stand + scratches_from m assignments (number + 1) stands

-- the assignments of an instruction; one that isn't there has none
abbrev pub assignments_in : Option Form → List Assignment
assignments_in None = []
assignments_in (Some form) = form.assignments

abbrev pub kinds_in : Option Form → List OperandKind
kinds_in None = []
kinds_in (Some form) = form.kinds

abbrev pub node_form : Machine → Node → Option Form
node_form m node = slice_get m.forms node.instruction

-- how many scratches a node's operands take
abbrev pub node_scratches : Machine → Node → ℕ
node_scratches m node = scratches_from m (assignments_in (node_form m node)) 0 node.stands

-- how many scratches all nodes of a forest take
abbrev pub scratches_of : Machine → Forest → ℕ
scratches_of m Empty = 0
scratches_of m (Grow node children rest) = node_scratches m node + (scratches_of m children + scratches_of m rest)

-- ---- slots

abbrev pub spare_slot : Option ℕ → ℕ → Slot
spare_slot None scratch = slot.Scratch scratch
spare_slot (Some index) scratch = slot.Cell index

-- a register parameter, or the target where the operand is an address
abbrev pub parameter_slot : OperandKind → ℕ → Slot
parameter_slot (kind.Register space) number = slot.Param number
parameter_slot (kind.Imm width) number = slot.Param number
parameter_slot kind.Addr number = slot.Target

-- The slot of an operand, where this one is the node's own register, and the next scratch has this number.
abbrev pub slot_at : Machine → Slot → OperandKind → Bool → ℕ → Stand → Slot
slot_at m own k written scratch Own = own
slot_at m own k written scratch (Param number) = parameter_slot k number
slot_at m own k written scratch (Cell space index) = slot.Cell index
slot_at m own k written scratch (Constant term) = slot.Constant (term_of term)
slot_at m own k written scratch Spare = spare_slot (spare_cell m) scratch
slot_at m own k written scratch Child = if written then own else slot.Scratch scratch

abbrev pub slot_if_there : Machine → Slot → Bool → ℕ → Stand → Option OperandKind → Slot
slot_if_there m own written scratch stand None = own
slot_if_there m own written scratch stand (Some k) = slot_at m own k written scratch stand

-- the slots of the operands from this number on, where operands are of these kinds
abbrev pub slots_from : Machine → List Assignment → List OperandKind → Slot → ℕ → ℕ → List Stand → List Slot
slots_from m assignments kinds own number scratch [] = []
slots_from m assignments kinds own number scratch (stand ∷ stands) =
    slot_if_there m own (is_written number assignments) scratch stand (slice_get kinds number)
    ∷ slots_from m assignments kinds own (number + 1) (scratch + scratches_at m (is_written number assignments) stand) stands

-- the slots of these that children compute
abbrev pub child_slots : List Stand → List Slot → List Slot
child_slots [] slots = []
child_slots (Child ∷ stands) (s ∷ slots) = s ∷ child_slots stands slots
child_slots (stand ∷ stands) (s ∷ slots) = child_slots stands slots
child_slots (stand ∷ stands) [] = []

-- the slots of a node's operands
abbrev pub node_slots : Machine → Slot → ℕ → Node → List Slot
node_slots m own scratch node =
    slots_from m (assignments_in (node_form m node)) (kinds_in (node_form m node)) own 0 scratch node.stands

-- The registers that the children have as their own: those of the operands that they compute. One for a flag has none, and is
-- told the node's.
abbrev pub own_slots : Slot → Node → List Slot → List Slot
own_slots own node slots = child_slots node.stands slots ++ (if node.flag then own ∷ [] else [])

-- ---- sequences

-- The lines of a forest, where each tree has its own register and scratches are numbered from one number on. A node's
-- operands take theirs first, then its children, and then what stands beside it.
abbrev pub lines_of : Machine → Forest → List Slot → ℕ → List Line
lines_of m Empty owns scratch = []
lines_of m (Grow node children rest) [] scratch = []
lines_of m (Grow node children rest) (own ∷ owns) scratch =
    lines_of m children (own_slots own node (node_slots m own scratch node)) (scratch + node_scratches m node)
    ++ ((node.instruction, node_slots m own scratch node)
    ∷ lines_of m rest owns (scratch + (node_scratches m node + scratches_of m children)))

-- the register of a tile's first assignment to one: its first parameter, or a cell that it names
abbrev pub place_slot : Place → Slot
place_slot (place.Operand space number) = slot.Param number
place_slot (place.Cell space index) = slot.Cell index

abbrev pub own_slot_or : Slot → Destination → Slot
own_slot_or other (ToPlace p) = place_slot p
own_slot_or other _ = other

abbrev pub own_slot : List Assignment → Slot
own_slot [] = slot.Param 0
own_slot (a ∷ rest) = own_slot_or (own_slot rest) a.to

-- the template of a derivation of the tile on the machine
unfoldable pub sequence_of : Description → Tile → Derivation → Template
sequence_of d t derivation = record {
  instances = lines_of (machine_of d) (forest_of derivation) (own_slot (assignments_of t.rtl) ∷ []) 0;
  scratches = scratches_of (machine_of d) (forest_of derivation);
}
