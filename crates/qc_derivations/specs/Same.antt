-- Tests of trees: whether two are the same, and what stands in one.
use Rattle.std.specs.Prelude.{ℕ, ◌+◌, Bool, false, ◌&&◌, ◌||◌, nat_eq}
use Rattle.qc_words.specs.declared.operator.Op.{Op}
use Rattle.qc_terms.specs.declared.term.Place.{Place}
use Rattle.qc_terms.specs.declared.term.Place.TheVariants.{Cell, Operand}
use Rattle.qc_terms.specs.Tree.{Tree, Number, Unary, Binary, Register, Immediate, Load, NextInput, AddressAfter}
use Rattle.qc_equations.specs.Matching.{same_op}

abbrev pub same_place : Place → Place → Bool
same_place (Cell space index) (Cell other number) = nat_eq space other && nat_eq index number
same_place (Operand space number) (Operand other index) = nat_eq space other && nat_eq number index
same_place _ _ = false

abbrev pub is_number : ℕ → ℕ → Tree → Bool
is_number value width (Number v w) = nat_eq value v && nat_eq width w
is_number value width _ = false

abbrev pub is_register : Place → ℕ → Tree → Bool
is_register place width (Register p w) = same_place place p && nat_eq width w
is_register place width _ = false

abbrev pub is_immediate : ℕ → ℕ → Tree → Bool
is_immediate operand width (Immediate o w) = nat_eq operand o && nat_eq width w
is_immediate operand width _ = false

-- the operator over a part that passes a test
abbrev pub is_operator : Op → (Tree → Bool) → Tree → Bool
is_operator op test (Unary o arg) = same_op op o && test arg
is_operator op test _ = false

-- the operator over two parts that pass two tests
abbrev pub is_operator_of_two : Op → (Tree → Bool) → (Tree → Bool) → Tree → Bool
is_operator_of_two op first second (Binary o left right) = same_op op o && (first left && second right)
is_operator_of_two op first second _ = false

abbrev pub is_load : ℕ → (Tree → Bool) → Tree → Bool
is_load width test (Load w address) = nat_eq width w && test address
is_load width test _ = false

abbrev pub is_next_input : ℕ → Tree → Bool
is_next_input width (NextInput w) = nat_eq width w
is_next_input width _ = false

abbrev pub is_address_after : ℕ → Tree → Bool
is_address_after width (AddressAfter w) = nat_eq width w
is_address_after width _ = false

-- the trees are the same, node for node
abbrev pub same_tree : Tree → Tree → Bool
same_tree (Number value width) = is_number value width
same_tree (Unary op arg) = is_operator op (same_tree arg)
same_tree (Binary op left right) = is_operator_of_two op (same_tree left) (same_tree right)
same_tree (Register place width) = is_register place width
same_tree (Immediate operand width) = is_immediate operand width
same_tree (Load width address) = is_load width (same_tree address)
same_tree (NextInput width) = is_next_input width
same_tree (AddressAfter width) = is_address_after width

-- the place is the operand of this number
abbrev pub is_operand : ℕ → Place → Bool
is_operand number (Cell space index) = false
is_operand number (Operand space n) = nat_eq number n

-- the register of this operand is read in the tree
abbrev pub reads_operand : ℕ → Tree → Bool
reads_operand number (Number value width) = false
reads_operand number (Unary op arg) = reads_operand number arg
reads_operand number (Binary op left right) = reads_operand number left || reads_operand number right
reads_operand number (Register place width) = is_operand number place
reads_operand number (Immediate operand width) = false
reads_operand number (Load width address) = reads_operand number address
reads_operand number (NextInput width) = false
reads_operand number (AddressAfter width) = false

-- the immediate of this operand stands in the tree
abbrev pub has_immediate : ℕ → Tree → Bool
has_immediate number (Number value width) = false
has_immediate number (Unary op arg) = has_immediate number arg
has_immediate number (Binary op left right) = has_immediate number left || has_immediate number right
has_immediate number (Register place width) = false
has_immediate number (Immediate operand width) = nat_eq number operand
has_immediate number (Load width address) = has_immediate number address
has_immediate number (NextInput width) = false
has_immediate number (AddressAfter width) = false

-- how often the next word of the input stands in the tree
abbrev pub inputs_in : Tree → ℕ
inputs_in (Number value width) = 0
inputs_in (Unary op arg) = inputs_in arg
inputs_in (Binary op left right) = inputs_in left + inputs_in right
inputs_in (Register place width) = 0
inputs_in (Immediate operand width) = 0
inputs_in (Load width address) = inputs_in address
inputs_in (NextInput width) = 1
inputs_in (AddressAfter width) = 0
