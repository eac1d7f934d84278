use Rattle.qc_words.proofs.WordLemmas.{slice_of-whole, slice_of-sign_extension, word_of-signed_of, signed_of-sign_extension}
use Rattle.qc_words.proofs.laws.extensions_keep_the_word.Goals as goal

pub returns-clause-zero_low : goal.returns-clause-zero_low
returns-clause-zero_low c w n a b c' width wider = slice_of-whole w a

pub returns-clause-sign_low : goal.returns-clause-sign_low
returns-clause-sign_low c w n a b c' width = slice_of-sign_extension w n a width.0

pub returns-clause-sign_same : goal.returns-clause-sign_same
returns-clause-sign_same c w a b width = word_of-signed_of w a width.0

pub returns-clause-signed : goal.returns-clause-signed
returns-clause-signed c w n a b width = signed_of-sign_extension w n a width.0
