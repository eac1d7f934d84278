use Rattle.qc_descr.proofs.Runs
use Rattle.qc_descr.proofs.laws.some_outcome.Goals as goal

pub returns : goal.returns
returns c = Runs.some_outcome
