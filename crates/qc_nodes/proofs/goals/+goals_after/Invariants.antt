use Rattle.std.proofs.Common.{length}
use Rattle.qc_nodes.proofs.goals.+goals_after.Given as goal

abbrev pub decreases-goals_after : goal.decreases-goals_after
decreases-goals_after l = length l.steps.now
