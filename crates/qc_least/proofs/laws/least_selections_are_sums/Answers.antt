use Rattle.qc_least.proofs.Counts.{selection}
use Rattle.qc_least.proofs.laws.least_selections_are_sums.Goals as goal

pub returns : goal.returns
returns c task height least each options = selection task height least each options
