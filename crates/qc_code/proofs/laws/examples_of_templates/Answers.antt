use Rattle.qc_code.proofs.Examples as examples
use Rattle.qc_code.proofs.laws.examples_of_templates.Goals as goal

pub returns-clause-addition : goal.returns-clause-addition
returns-clause-addition c = examples.whole

pub returns-clause-plain : goal.returns-clause-plain
returns-clause-plain c = examples.plain

pub returns-clause-carry : goal.returns-clause-carry
returns-clause-carry c = examples.carry

pub returns-clause-overflow : goal.returns-clause-overflow
returns-clause-overflow c = examples.overflow

pub returns-clause-branch_marks : goal.returns-clause-branch_marks
returns-clause-branch_marks c = examples.branch_marks

pub returns-clause-branch_last : goal.returns-clause-branch_last
returns-clause-branch_last c = examples.branch_last

pub returns-clause-branch_reach : goal.returns-clause-branch_reach
returns-clause-branch_reach c = examples.branch_reach

pub returns-clause-call : goal.returns-clause-call
returns-clause-call c = examples.call

pub returns-clause-jump : goal.returns-clause-jump
returns-clause-jump c = examples.jump
