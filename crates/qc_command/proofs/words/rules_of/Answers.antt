use Rattle.std.proofs.Common.{rules}
use Rattle.qc_command.specs.Command.{most_steps, default_steps}
use Rattle.qc_command.proofs.words.rules_of.Goals as goal

pub returns-in-Run : goal.returns-in-Run
unfolding most_steps default_steps
returns-in-Run c = search rules
