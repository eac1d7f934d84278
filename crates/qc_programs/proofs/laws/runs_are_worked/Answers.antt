use Rattle.std.proofs.Common.{refl}
use Rattle.qc_words.specs.Words.{signed_of, word_of}
use Rattle.qc_terms.specs.Memory.{digits_of, number_of}
use Rattle.qc_programs.proofs.laws.runs_are_worked.Goals as goal

pub returns : goal.returns
unfolding signed_of word_of digits_of number_of
returns c = record {
  no_input = refl;
  two_words = refl;
  greatest_word = refl;
  one_step_less = refl;
  deep_enough = refl;
  too_deep = refl;
  last_result = refl;
  in_region = refl;
  beyond_region = refl;
  before_region = refl;
  last_byte = refl;
  beyond_last = refl;
  by_zero = refl;
  first_trap = refl;
  operands_first = refl;
  eight_bits = refl;
}
