use Rattle.qc_core.proofs.Exactness.{exact_task}
use Rattle.qc_core.proofs.laws.one_refusal.Goals as goal

pub returns : goal.returns
returns c = λ command names files. (exact_task c.lower_laws.ensures command names).one_fault files
