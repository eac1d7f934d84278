use Rattle.qc_least.proofs.Counts.{no_smaller}
use Rattle.qc_least.proofs.laws.least_by_limits.Goals as goal

pub returns : goal.returns
returns c task height needs count has only = no_smaller task height needs count has only
