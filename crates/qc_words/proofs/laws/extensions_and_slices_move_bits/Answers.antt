use Rattle.qc_words.proofs.WordLemmas.{bit_at-sign_extension, bit_at-slice}
use Rattle.qc_words.proofs.laws.extensions_and_slices_move_bits.Goals as goal

pub returns-clause-sign : goal.returns-clause-sign
returns-clause-sign c w n a b k width = bit_at-sign_extension w n a k width.0

pub returns-clause-slice : goal.returns-clause-slice
returns-clause-slice c low n w a b k = bit_at-slice low n a k
