use Rattle.qc_core.proofs.Exactness.{exact_run}
use Rattle.qc_core.proofs.laws.one_setting.Goals as goal

pub returns : goal.returns
returns c = λ files names. (exact_run c.lower_laws.ensures names).one files
