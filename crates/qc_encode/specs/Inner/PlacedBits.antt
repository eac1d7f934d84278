-- The places of an operand's bits in a coding.
use Rattle.std.specs.Prelude.{ℕ, ◌^◌, List, [], ◌∷◌, ◌&&◌, if◌then◌else◌, nat_eq, nat_lt, bit_or}
use Rattle.qc_descr.specs.declared.coding.Bit.{Bit}
use Rattle.qc_descr.specs.declared.coding.Bit.TheVariants.{Fixed, Piece}

-- a bit's place in an operand, as a number with this one bit, where it is one of the operand's bits
abbrev pub place_of : ℕ → Bit → ℕ
place_of operand (Fixed one) = 0
place_of operand (Piece named place) = if nat_eq named operand && nat_lt place 64 then 2 ^ place else 0

-- the places of all bits that are the operand's
abbrev pub placed_bits : ℕ → List Bit → ℕ
placed_bits operand [] = 0
placed_bits operand (bit ∷ bits) = bit_or (place_of operand bit) (placed_bits operand bits)
