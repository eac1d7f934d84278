-- The limits of descriptions.
use Rattle.std.specs.Prelude.{ℕ}

-- How many spaces, cells of one space and instructions there may be, and how many operands, effects and nodes of terms
-- one instruction may have.
abbrev pub most_spaces : ℕ
most_spaces = 8

abbrev pub most_cells : ℕ
most_cells = 64

abbrev pub most_instructions : ℕ
most_instructions = 256

abbrev pub most_operands : ℕ
most_operands = 8

abbrev pub most_effects : ℕ
most_effects = 16

abbrev pub most_nodes : ℕ
most_nodes = 4096

-- a register of one of so many cells has fewer bits than this
abbrev pub register_bits_end : ℕ
register_bits_end = 7

-- how many tokens a coding may have
abbrev pub most_tokens : ℕ
most_tokens = 4

-- The most bytes of the memory, the least and the most of the code region, and the least of the data region.
abbrev pub most_memory : ℕ
most_memory = 67108864

abbrev pub least_code : ℕ
least_code = 16

abbrev pub most_code : ℕ
most_code = 1048576

abbrev pub least_data : ℕ
least_data = 8

-- the least number of bits of a slot, which has a word's at most
abbrev pub least_slot_bits : ℕ
least_slot_bits = 4
