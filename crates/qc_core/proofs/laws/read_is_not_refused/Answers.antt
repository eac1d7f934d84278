use Rattle.qc_core.proofs.Exactness.{exact_task}
use Rattle.qc_core.proofs.laws.read_is_not_refused.Goals as goal

pub returns : goal.returns
returns c = λ command names files file fault read refused.
    (exact_task c.lower_laws.ensures command names).not_both files read.0 file fault read.1 refused
