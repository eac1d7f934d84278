use Rattle.qc_words.proofs.AlgebraLemmas.{xor_of-difference, or_of-sum, and_of-complements, or_of-complements}
use Rattle.qc_words.proofs.laws.logic_by_arithmetic.Goals as goal

pub returns-clause-xor : goal.returns-clause-xor
returns-clause-xor c = xor_of-difference

pub returns-clause-or : goal.returns-clause-or
returns-clause-or c = or_of-sum

pub returns-clause-and_of_complements : goal.returns-clause-and_of_complements
returns-clause-and_of_complements c = and_of-complements

pub returns-clause-or_of_complements : goal.returns-clause-or_of_complements
returns-clause-or_of_complements c = or_of-complements
