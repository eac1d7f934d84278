-- Laws of codings, which crates above may cite.
-- Bits: of bits in bytes: `bit_value-lt`, `below_of_all`, `piece_in_bytes`, `no_piece_in_bytes`, `any_counted`.
-- Places: where the bytes of a token stand: `StandsAt`, `found`, `passed`, `little_byte`, `big_byte`, `token_size`,
-- `length-token_bytes`.
-- CodedBytes: how many bytes an instruction has, and each of them: `covered_at`, `valid_at`, `few_bits`, `few_operands`,
-- `instruction_read`, `coded_byte`, `length-coded_bytes`, `length-tokens_bytes`, `sum_least`.
-- Operands: operands by their numbers: `SizedAt`, `sized_at`, `in_range_at`, `range_take_more`, `kind_read`, `coded_at`,
-- `reached_once`, `has_few_bits`, `word_bits`, `length-in_range`, `length-reaches`, `length-coded`.
pub mod Bits
pub mod CodedBytes
pub mod Operands
pub mod Places
