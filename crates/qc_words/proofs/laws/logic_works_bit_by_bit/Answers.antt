use Rattle.std.proofs.lemmas.Nat.Bits.{bit_at_and, bit_at_or, bit_at_xor}
use Rattle.qc_words.proofs.WordLemmas.{bit_at-complement}
use Rattle.qc_words.proofs.laws.logic_works_bit_by_bit.Goals as goal

pub returns-clause-and : goal.returns-clause-and
returns-clause-and c w = bit_at_and

pub returns-clause-or : goal.returns-clause-or
returns-clause-or c w = bit_at_or

pub returns-clause-xor : goal.returns-clause-xor
returns-clause-xor c w = bit_at_xor

pub returns-clause-com : goal.returns-clause-com
returns-clause-com c w a b k = bit_at-complement w a k
