use Rattle.qc_constants.proofs.Seven.{run_of_seven}
use Rattle.qc_constants.proofs.laws.run_of_seven.Goals as goal

pub returns : goal.returns
returns c = run_of_seven c.one_instance.ensures
