use Rattle.std.proofs.Common.{length}
use Rattle.qc_nodes.proofs.matching.+goal_met.Given as goal

abbrev pub decreases-goal_met : goal.decreases-goal_met
decreases-goal_met l = length l.goals.now
