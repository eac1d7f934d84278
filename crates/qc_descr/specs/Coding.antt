-- Which bits encode an instruction: their values under the operands, and their places in memory.
use Rattle.std.specs.Prelude.{ℕ, zero, suc, ◌+◌, ◌*◌, ◌/◌, List, [], ◌∷◌, ◌++◌, take, drop, reverse, slice_index, Bool}
use Rattle.std.specs.Prelude.{false, ◌&&◌, ◌||◌, not, nat_eq, if◌then◌else◌}
use Rattle.std.specs.Int.{bit_at}
use Rattle.qc_terms.specs.declared.state.Order.{Order}
use Rattle.qc_terms.specs.declared.state.Order.TheVariants.{Little, Big}
use Rattle.qc_descr.specs.declared.coding.Bit.{Bit}
use Rattle.qc_descr.specs.declared.coding.Bit.TheVariants.{Fixed, Piece}
use Rattle.qc_descr.specs.declared.coding.Coding.{Coding}

-- a bit's value, 0 or 1, under the coded values of the operands
abbrev pub bit_value : List ℕ → Bit → ℕ
bit_value operands (Fixed one) = if one then 1 else 0
bit_value operands (Piece operand bit) = bit_at (slice_index operands operand) bit

-- the bit is this bit of this operand
abbrev pub is_piece : ℕ → ℕ → Bit → Bool
is_piece operand bit (Fixed one) = false
is_piece operand bit (Piece o b) = nat_eq o operand && nat_eq b bit

-- the number of a list of bits, the lowest one first
abbrev pub number_of : List ℕ → ℕ
number_of [] = 0
number_of (bit ∷ bits) = bit + 2 * number_of bits

-- the first n bytes of a list of bits, each of 8 bits
abbrev pub bytes_of_bits : ℕ → List Bit → List (List Bit)
bytes_of_bits zero bits = []
bytes_of_bits (suc n) bits = take 8 bits ∷ bytes_of_bits n (drop 8 bits)

-- the bytes of a token of this many bits, as they stand in memory
abbrev pub token_bytes : Order → ℕ → List Bit → List (List Bit)
token_bytes Little size bits = bytes_of_bits (size / 8) bits
token_bytes Big size bits = reverse (bytes_of_bits (size / 8) bits)

-- the bytes of all tokens, as they stand in memory
abbrev pub tokens_bytes : Order → List ℕ → List Bit → List (List Bit)
tokens_bytes order [] bits = []
tokens_bytes order (size ∷ sizes) bits = token_bytes order size bits ++ tokens_bytes order sizes (drop size bits)

abbrev pub memory_bytes : Order → Coding → List (List Bit)
memory_bytes order coding = tokens_bytes order coding.tokens coding.bits

-- both bits are fixed, and differ
abbrev pub differs_at : Bit → Bit → Bool
differs_at (Fixed a) (Fixed b) = (a && not b) || (not a && b)
differs_at (Fixed a) (Piece operand bit) = false
differs_at (Piece operand bit) b = false

-- at some place that both have, both have a constant bit, and not the same one
abbrev pub bits_differ : List Bit → List Bit → Bool
bits_differ [] ys = false
bits_differ (x ∷ xs) [] = false
bits_differ (x ∷ xs) (y ∷ ys) = differs_at x y || bits_differ xs ys

-- some two bits at the same place of two lists of bytes differ so
abbrev pub bytes_differ : List (List Bit) → List (List Bit) → Bool
bytes_differ [] ys = false
bytes_differ (x ∷ xs) [] = false
bytes_differ (x ∷ xs) (y ∷ ys) = bits_differ x y || bytes_differ xs ys
