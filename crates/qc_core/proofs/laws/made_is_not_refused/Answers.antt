use Rattle.qc_core.proofs.NamedFiles.{made_not_refused}
use Rattle.qc_core.proofs.laws.made_is_not_refused.Goals as goal

pub returns : goal.returns
returns c = made_not_refused
