use Rattle.qc_least.proofs.Limiting.{limited}
use Rattle.qc_least.proofs.laws.limits_cut_least_counts.Goals as goal

pub returns : goal.returns
returns c choices height limit need = limited choices height limit need
