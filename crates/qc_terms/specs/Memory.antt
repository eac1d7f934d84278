-- Words in a memory, which is a list of bytes. The bytes of a word stand in the machine's order.
use Rattle.std.specs.Prelude.{ℕ, zero, suc, ◌+◌, ◌*◌, ◌/◌, ◌%◌, List, [], ◌∷◌, ◌++◌, length, take, drop, reverse, nat_le, Option, None, Some, if◌then◌else◌}
use Rattle.qc_terms.specs.declared.state.Order.{Order}
use Rattle.qc_terms.specs.declared.state.Order.TheVariants.{Little, Big}

-- the number whose digits in base 256 these bytes are, the least significant first
unfoldable pub number_of : List ℕ → ℕ
number_of [] = 0
number_of (byte ∷ bytes) = byte + 256 * number_of bytes

-- so many digits of a number in base 256, the least significant first
unfoldable pub digits_of : ℕ → ℕ → List ℕ
digits_of zero n = []
digits_of (suc count) n = n % 256 ∷ digits_of count (n / 256)

-- the bytes as they stand in memory, of which the least significant is given first; and the other way round
abbrev pub in_order : Order → List ℕ → List ℕ
in_order Little bytes = bytes
in_order Big bytes = reverse bytes

-- the word of so many bytes at an address; none unless all of them are inside the memory
abbrev pub load_of : Order → List ℕ → (count address : ℕ) → Option ℕ
load_of order memory count address =
    if nat_le (address + count) (length memory)
    then Some (number_of (in_order order (take count (drop address memory)))) else None

-- the memory with other bytes from an address on
abbrev pub with_bytes : List ℕ → ℕ → List ℕ → List ℕ
with_bytes memory address bytes = take address memory ++ (bytes ++ drop (address + length bytes) memory)

-- the memory with a word stored in so many bytes at an address
abbrev pub store_of : Order → List ℕ → (count address word : ℕ) → List ℕ
store_of order memory count address word = with_bytes memory address (in_order order (digits_of count word))
