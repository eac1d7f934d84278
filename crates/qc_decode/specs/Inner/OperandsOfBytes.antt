-- The operands of an instance, by the bits of its bytes.
use Rattle.std.specs.Prelude.{ℕ, ◌*◌, ◌/◌, ◌%◌, ◌^◌, List, [], ◌∷◌, ◌&&◌, if◌then◌else◌, nat_eq, nat_lt}
use Rattle.std.specs.Prelude.{bit_or}
use Rattle.qc_descr.specs.declared.coding.Bit.{Bit}
use Rattle.qc_descr.specs.declared.coding.Bit.TheVariants.{Fixed, Piece}

-- what a bit of this value gives to an operand: the value at the bit's place in it, where it is one of its bits
abbrev pub piece_value : ℕ → Bit → ℕ → ℕ
piece_value operand (Fixed one) value = 0
piece_value operand (Piece named place) value =
    if nat_eq named operand && nat_lt place 64 then value * 2 ^ place else 0

-- what a byte of these bits gives to an operand
abbrev pub operand_in_byte : ℕ → List Bit → ℕ → ℕ
operand_in_byte operand [] byte = 0
operand_in_byte operand (bit ∷ bits) byte =
    bit_or (piece_value operand bit (byte % 2)) (operand_in_byte operand bits (byte / 2))

-- what bytes of these bits add to a value for an operand
abbrev pub operand_in_bytes : ℕ → ℕ → List (List Bit) → List ℕ → ℕ
operand_in_bytes operand value [] bytes = value
operand_in_bytes operand value (bits ∷ rows) [] = value
operand_in_bytes operand value (bits ∷ rows) (byte ∷ bytes) =
    operand_in_bytes operand (bit_or value (operand_in_byte operand bits byte)) rows bytes
