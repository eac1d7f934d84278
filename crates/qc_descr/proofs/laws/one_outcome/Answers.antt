use Rattle.qc_descr.proofs.Runs
use Rattle.qc_descr.proofs.laws.one_outcome.Goals as goal

pub returns : goal.returns
returns c = Runs.one_outcome
