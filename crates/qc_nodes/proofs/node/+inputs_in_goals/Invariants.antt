use Rattle.std.proofs.Common.{length}
use Rattle.qc_nodes.proofs.node.+inputs_in_goals.Given as goal

abbrev pub decreases-inputs_in_goals : goal.decreases-inputs_in_goals
decreases-inputs_in_goals l = length l.goals.now
