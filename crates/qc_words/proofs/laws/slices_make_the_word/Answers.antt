use Rattle.qc_words.proofs.SliceLemmas.{word_of_parts, word_of_split, low_bits_by_mask, extension_by_shifts}
use Rattle.qc_words.proofs.laws.slices_make_the_word.Goals as goal

pub returns-clause-joined : goal.returns-clause-joined
returns-clause-joined c m w a c' = word_of_parts m w a

pub returns-clause-summed : goal.returns-clause-summed
returns-clause-summed c m w a c' = word_of_split m w a

pub returns-clause-masked : goal.returns-clause-masked
returns-clause-masked c m w a c' = low_bits_by_mask m w a

pub returns-clause-shifted : goal.returns-clause-shifted
returns-clause-shifted c m w a c' = extension_by_shifts m w a
