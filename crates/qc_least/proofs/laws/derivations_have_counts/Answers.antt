use Rattle.qc_least.proofs.Counts.{counted}
use Rattle.qc_least.proofs.laws.derivations_have_counts.Goals as goal

pub returns-clause-counts : goal.returns-clause-counts
returns-clause-counts c d t bounds count has = counted d t bounds count has

pub returns-clause-none : goal.returns-clause-none
returns-clause-none c d t bounds none n has = none n (counted d t bounds n has)

pub returns-clause-some : goal.returns-clause-some
returns-clause-some c d t bounds count has least = (has, λ n other. least.1 n (counted d t bounds n other))
