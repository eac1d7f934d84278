use Rattle.qc_descr.proofs.Branch
use Rattle.qc_descr.proofs.laws.example_of_branch.Goals as goal

pub returns-clause-covered : goal.returns-clause-covered
returns-clause-covered c = Branch.branch_is_covered

pub returns-clause-forward : goal.returns-clause-forward
returns-clause-forward c = Branch.branch_forward

pub returns-clause-back : goal.returns-clause-back
returns-clause-back c = Branch.branch_back

pub returns-clause-too_far : goal.returns-clause-too_far
returns-clause-too_far c = Branch.branch_too_far

pub returns-clause-unaligned : goal.returns-clause-unaligned
returns-clause-unaligned c = Branch.branch_unaligned
