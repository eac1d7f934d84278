use Rattle.qc_words.proofs.AlgebraLemmas.{negation_of-complement, complement_of-negation, complement_of-difference, complement_of-xor, difference_of-complements, sum_of-difference, negation_from_zero}
use Rattle.qc_words.proofs.SliceLemmas.{sum_undoes_difference}
use Rattle.qc_words.proofs.laws.complements_negate.Goals as goal

pub returns-clause-negation : goal.returns-clause-negation
returns-clause-negation c = negation_of-complement

pub returns-clause-from_zero : goal.returns-clause-from_zero
returns-clause-from_zero c w a b = negation_from_zero w a

pub returns-clause-complement : goal.returns-clause-complement
returns-clause-complement c = complement_of-negation

pub returns-clause-from_ones : goal.returns-clause-from_ones
returns-clause-from_ones c w a b = complement_of-difference w a

pub returns-clause-with_ones : goal.returns-clause-with_ones
returns-clause-with_ones c w a b = complement_of-xor w a

pub returns-clause-difference : goal.returns-clause-difference
returns-clause-difference c = difference_of-complements

pub returns-clause-sum : goal.returns-clause-sum
returns-clause-sum c = sum_of-difference

pub returns-clause-restored : goal.returns-clause-restored
returns-clause-restored c = sum_undoes_difference
