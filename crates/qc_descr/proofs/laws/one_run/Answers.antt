use Rattle.qc_descr.proofs.Runs
use Rattle.qc_descr.proofs.laws.one_run.Goals as goal

pub returns : goal.returns
returns c = Runs.one_run
