use Rattle.qc_words.proofs.WordLemmas.{signed_of-range, word_of-signed_of, signed_of-word_of}
use Rattle.qc_words.proofs.laws.signed_numbers_read_back.Goals as goal

pub returns-clause-range : goal.returns-clause-range
returns-clause-range c w a width = signed_of-range w a width.0

pub returns-clause-word : goal.returns-clause-word
returns-clause-word c w a width = word_of-signed_of w a width.0

pub returns-clause-number : goal.returns-clause-number
returns-clause-number c w z width = signed_of-word_of w z width.0
