use Rattle.qc_words.proofs.AlgebraLemmas.{equal_of-xor, unequal_of-xor, less_of-unsigned, less_of-signed}
use Rattle.qc_words.proofs.laws.comparisons_by_exclusive_or.Goals as goal

pub returns-clause-equal : goal.returns-clause-equal
returns-clause-equal c = equal_of-xor

pub returns-clause-unequal : goal.returns-clause-unequal
returns-clause-unequal c = unequal_of-xor

pub returns-clause-signed : goal.returns-clause-signed
returns-clause-signed c w a b width = less_of-unsigned w a b width.0

pub returns-clause-unsigned : goal.returns-clause-unsigned
returns-clause-unsigned c w a b width = less_of-signed w a b width.0
