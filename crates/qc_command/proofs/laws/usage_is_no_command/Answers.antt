use Rattle.qc_command.proofs.CommandLines.{usage_is_no_command}
use Rattle.qc_command.proofs.laws.usage_is_no_command.Goals as goal

pub returns : goal.returns
returns c = usage_is_no_command
