use Rattle.qc_core.proofs.Checks.{exact_description}
use Rattle.qc_core.proofs.laws.one_description.Goals as goal

pub returns : goal.returns
returns c = λ files names. (exact_description c.lower_laws.ensures.tokens names).one files
