use Rattle.std.proofs.Common.{length}
use Rattle.qc_command.proofs.settings.+sets_new.Given as goal

abbrev pub decreases-sets_new : goal.decreases-sets_new
decreases-sets_new l = length l.rules.now
