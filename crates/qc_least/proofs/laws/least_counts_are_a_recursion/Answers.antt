use Rattle.qc_least.specs.Choices.{least_of}
use Rattle.qc_least.proofs.Counts.{least_all, recursion}
use Rattle.qc_least.proofs.laws.least_counts_are_a_recursion.Goals as goal

pub returns-clause-one : goal.returns-clause-one
returns-clause-one c task choices are height need = recursion task choices are height need

pub returns-clause-all : goal.returns-clause-all
returns-clause-all c task choices are height needs =
    least_all task height (least_of choices height) (recursion task choices are height) needs
