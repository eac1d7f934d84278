use Rattle.std.proofs.Common.{◌%◌}
use Rattle.qc_words.proofs.WordLemmas.{bit_at-shift_left_low, bit_at-shift_left_high, bit_at-div, bit_at-shifted_sign}
use Rattle.qc_words.proofs.laws.shifts_move_bits.Goals as goal

pub returns-clause-left_filled : goal.returns-clause-left_filled
returns-clause-left_filled c = bit_at-shift_left_low

pub returns-clause-left : goal.returns-clause-left
returns-clause-left c = bit_at-shift_left_high

pub returns-clause-right : goal.returns-clause-right
returns-clause-right c w a b k = bit_at-div a (b % w) k

pub returns-clause-right_signed : goal.returns-clause-right_signed
returns-clause-right_signed c w a b k width = bit_at-shifted_sign w w a (b % w) k width.0
