use Rattle.std.proofs.Common.{length}
use Rattle.qc_nodes.proofs.node.+times_met.Given as goal

abbrev pub decreases-times_met : goal.decreases-times_met
decreases-times_met l = length l.effects.now
