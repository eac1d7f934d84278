-- The value of a term in a state, for an instruction's operands and the address after it.
use Rattle.std.specs.Prelude.{ℕ, ◌/◌, List, slice_index, Option, Some, option_and_then, if◌then◌else◌}
use Rattle.std.specs.Option.{option_map}
use Rattle.qc_words.specs.Operators.{result_of}
use Rattle.qc_terms.specs.declared.state.State.{State}
use Rattle.qc_terms.specs.declared.term.Place.{Place}
use Rattle.qc_terms.specs.declared.term.Place.TheVariants.{Cell, Operand}
use Rattle.qc_terms.specs.Cells.{cell_of}
use Rattle.qc_terms.specs.Memory.{load_of}
use Rattle.qc_terms.specs.State.{is_zero_cell}
use Rattle.qc_terms.specs.Tree.{Tree, Number, Unary, Binary, Register, Immediate, Load, NextInput, AddressAfter, width_of}

abbrev pub space_of : Place → ℕ
space_of (Cell space index) = space
space_of (Operand space number) = space

-- the number of the cell that a place is, an operand naming it by its value
abbrev pub index_of : Place → List ℕ → ℕ
index_of (Cell space index) operands = index
index_of (Operand space number) operands = slice_index operands number

-- the word that a cell reads as: the zero cell reads 0
abbrev pub read_of : State → ℕ → ℕ → ℕ
read_of s space index = if is_zero_cell s.facts.zero space index then 0 else cell_of s.cells space index

-- the word that the next input gives, where one is left
abbrev pub next_input_of : State → ℕ
next_input_of s = slice_index s.input s.taken

-- The value, or none where a memory access isn't wholly inside memory. The operands of an operator have the width of
-- the first one.
abbrev pub value_of : Tree → List ℕ → ℕ → State → Option ℕ
value_of (Number value width) operands after s = Some value
value_of (Unary op arg) operands after s =
    option_map (λ a. result_of op (width_of arg) a 0) (value_of arg operands after s)
value_of (Binary op left right) operands after s =
    option_and_then (λ a. option_map (λ b. result_of op (width_of left) a b) (value_of right operands after s))
    (value_of left operands after s)
value_of (Register place width) operands after s = Some (read_of s (space_of place) (index_of place operands))
value_of (Immediate operand width) operands after s = Some (slice_index operands operand)
value_of (Load width address) operands after s =
    option_and_then (load_of s.facts.order s.memory (width / 8)) (value_of address operands after s)
value_of (NextInput width) operands after s = Some (next_input_of s)
value_of (AddressAfter width) operands after s = Some after
