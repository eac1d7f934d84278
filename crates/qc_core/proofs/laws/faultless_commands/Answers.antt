use Rattle.qc_core.specs.Answer.{task_of}
use Rattle.qc_core.proofs.Exactness.{exact_task}
use Rattle.qc_core.proofs.Leaving.{good_status}
use Rattle.qc_core.proofs.laws.faultless_commands.Goals as goal

pub returns : goal.returns
returns c = λ command names files old new status known read.
    good_status (task_of command names) (exact_task c.lower_laws.ensures command names) files read.0 old new status known read.1
