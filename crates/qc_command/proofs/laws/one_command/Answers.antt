use Rattle.qc_command.proofs.CommandLines.{one_command}
use Rattle.qc_command.proofs.laws.one_command.Goals as goal

pub returns : goal.returns
returns c = one_command
