use Rattle.qc_least.proofs.Counts.{bounded, higher}
use Rattle.qc_least.proofs.laws.counts_bound_heights.Goals as goal

pub returns-clause-bound : goal.returns-clause-bound
returns-clause-bound c task height needs count has = bounded task height needs count has

pub returns-clause-grows : goal.returns-clause-grows
returns-clause-grows c task height more needs count below has = higher task height more needs count below has
