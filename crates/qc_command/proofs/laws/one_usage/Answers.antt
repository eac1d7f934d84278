use Rattle.qc_command.proofs.CommandLines.{one_usage}
use Rattle.qc_command.proofs.laws.one_usage.Goals as goal

pub returns : goal.returns
returns c = one_usage
