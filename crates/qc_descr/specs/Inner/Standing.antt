-- The tests of `stands_once` by names: of one bit of an operand, and of one operand.
use Rattle.std.specs.Prelude.{ℕ, List, count_by, slice_index, Bool, nat_eq, nat_lt, if◌then◌else◌}
use Rattle.qc_descr.specs.declared.coding.Bit.{Bit}
use Rattle.qc_descr.specs.Coding.{is_piece}
use Rattle.qc_descr.specs.Valid.{all_below}

-- the bit of the operand stands in just one place, or in none where it is one of so many dropped ones
abbrev pub bit_is_right : ℕ → ℕ → List Bit → ℕ → Bool
bit_is_right operand dropped bits bit =
    nat_eq (count_by (is_piece operand bit) bits) (if nat_lt bit dropped then 0 else 1)

-- each bit of the operand does
abbrev pub operand_is_right : List ℕ → List ℕ → List Bit → ℕ → Bool
operand_is_right sizes dropped bits operand =
    all_below (slice_index sizes operand) (bit_is_right operand (slice_index dropped operand) bits)
