-- Normal forms of terms: numbers computed, and sums with numbers in one shape. Terms of one normal form have one value.
use Rattle.std.specs.Prelude.{ℕ, ◌+◌, ◌-◌, ◌%◌, ◌^◌, List, slice_index, Option, Bool, true, false, ◌&&◌, not, if◌then◌else◌, nat_eq}
use Rattle.qc_words.specs.declared.operator.Op.{Op}
use Rattle.qc_words.specs.declared.operator.Op.TheVariants as op
use Rattle.qc_words.specs.Operators.{result_of, result_width_of}
use Rattle.qc_terms.specs.declared.term.Place.{Place}
use Rattle.qc_terms.specs.declared.term.Place.TheVariants.{Cell, Operand}
use Rattle.qc_terms.specs.State.{is_zero_cell}
use Rattle.qc_terms.specs.Tree.{Tree, Number, Unary, Binary, Register, Immediate, Load, NextInput, AddressAfter, width_of}

abbrev pub is_number : Tree → Bool
is_number (Number value width) = true
is_number _ = false

-- ---- rules at one operator, over operands in normal form

-- an extension or a slice to the width of its operand
abbrev pub keeps_width : Op → ℕ → Bool
keeps_width (op.Zx to) width = nat_eq to width
keeps_width (op.Sx to) width = nat_eq to width
keeps_width (op.Slice low to) width = nat_eq to width
keeps_width _ width = false

abbrev pub unary_normal : Op → Tree → Tree
unary_normal o (Number value width) = Number (result_of o width value 0) (result_width_of o width)
unary_normal o t = if keeps_width o (width_of t) then t else Unary o t

-- an operator with its two operands, while rules are used one after another
pub record Pair : Type 0 where
  pub op : Op
  pub left : Tree
  pub right : Tree

abbrev pub is_subtraction : Op → Bool
is_subtraction op.Sub = true
is_subtraction _ = false

abbrev pub is_sum : Op → Bool
is_sum op.Add = true
is_sum _ = false

-- the operators whose operands may change places
abbrev pub swaps : Op → Bool
swaps op.Add = true
swaps op.And = true
swaps op.Or = true
swaps op.Xor = true
swaps op.Mul = true
swaps op.Eq = true
swaps op.Ne = true
swaps _ = false

-- the operators that give their first operand where the second is 0
abbrev pub drops_zero : Op → Bool
drops_zero op.Add = true
drops_zero op.Or = true
drops_zero op.Xor = true
drops_zero op.Shl = true
drops_zero op.Shrl = true
drops_zero op.Shra = true
drops_zero _ = false

-- a number is subtracted by adding the number that is opposite to it
abbrev pub added : Pair → Tree → Pair
added p (Number value width) =
    if is_subtraction p.op then record { op = op.Add; left = p.left; right = Number ((2 ^ width - value) % 2 ^ width) width } else p
added p right = p

-- a number goes second
abbrev pub number_second : Pair → Pair
number_second p =
    if swaps p.op && (is_number p.left && not (is_number p.right)) then record { op = p.op; left = p.right; right = p.left } else p

-- the sum of two numbers is added once
abbrev pub sum_of_numbers : Pair → Tree → Tree → Pair
sum_of_numbers p (Binary o a (Number m width)) (Number n other) =
    if is_sum p.op && is_sum o then record { op = p.op; left = a; right = Number ((m + n) % 2 ^ width) width } else p
sum_of_numbers p left right = p

abbrev pub is_zero_number : Tree → Bool
is_zero_number (Number value width) = nat_eq value 0
is_zero_number _ = false

-- a second operand 0 is dropped
abbrev pub without_zero : Pair → Tree
without_zero p = if drops_zero p.op && is_zero_number p.right then p.left else Binary p.op p.left p.right

abbrev pub pair_normal : Pair → Tree
pair_normal p = without_zero (sum_of_numbers p p.left p.right)

abbrev pub binary_normal : Op → Tree → Tree → Tree
binary_normal o (Number a width) (Number b other) = Number (result_of o width a b) (result_width_of o width)
binary_normal o left right = pair_normal (number_second (added (record { op = o; left = left; right = right }) right))

-- ---- terms

-- a register as the cell that it is, and 0 where that cell always reads 0
abbrev pub cell_normal : Option (ℕ × ℕ) → ℕ → ℕ → ℕ → Tree
cell_normal zero_cell space index width =
    if is_zero_cell zero_cell space index then Number 0 width else Register (Cell space index) width

abbrev pub register_normal : Option (ℕ × ℕ) → List ℕ → Place → ℕ → Tree
register_normal zero_cell operands (Cell space index) width = cell_normal zero_cell space index width
register_normal zero_cell operands (Operand space number) width = cell_normal zero_cell space (slice_index operands number) width

-- The normal form of a term with these operands, of which some stand for the address of a target.
abbrev pub normal : Option (ℕ × ℕ) → (operands : List ℕ) → (addressed : ℕ → Bool) → Tree → Tree
normal zero_cell operands addressed (Number value width) = Number value width
normal zero_cell operands addressed (Unary o arg) = unary_normal o (normal zero_cell operands addressed arg)
normal zero_cell operands addressed (Binary o left right) =
    binary_normal o (normal zero_cell operands addressed left) (normal zero_cell operands addressed right)
normal zero_cell operands addressed (Register place width) = register_normal zero_cell operands place width
normal zero_cell operands addressed (Immediate operand width) =
    if addressed operand then Immediate operand width else Number (slice_index operands operand) width
normal zero_cell operands addressed (Load width address) = Load width (normal zero_cell operands addressed address)
normal zero_cell operands addressed (NextInput width) = NextInput width
normal zero_cell operands addressed (AddressAfter width) = AddressAfter width
