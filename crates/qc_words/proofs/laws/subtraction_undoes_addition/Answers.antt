use Rattle.std.proofs.Common.{arith}
use Rattle.qc_words.proofs.ArithmeticLemmas.{difference_of-natural, negation_of-natural, result_of-Sub, result_of-Sub-Add}
use Rattle.qc_words.proofs.laws.subtraction_undoes_addition.Goals as goal

pub returns-clause-difference : goal.returns-clause-difference
returns-clause-difference c w a b below = difference_of-natural w a b (omega arith)

pub returns-clause-negation : goal.returns-clause-negation
returns-clause-negation c w a b below = negation_of-natural w a (omega arith)

pub returns-clause-as_addition : goal.returns-clause-as_addition
returns-clause-as_addition c = result_of-Sub

pub returns-clause-undone : goal.returns-clause-undone
returns-clause-undone c = result_of-Sub-Add
