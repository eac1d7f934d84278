use Rattle.qc_core.specs.Answer.{task_of}
use Rattle.qc_core.proofs.Exactness.{exact_task}
use Rattle.qc_core.proofs.Leaving.{refused_status}
use Rattle.qc_core.proofs.laws.refused_commands.Goals as goal

pub returns : goal.returns
returns c = λ command names. refused_status (task_of command names) (exact_task c.lower_laws.ensures command names)
