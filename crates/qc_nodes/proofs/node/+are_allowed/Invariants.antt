use Rattle.std.proofs.Common.{length}
use Rattle.qc_nodes.proofs.node.+are_allowed.Given as goal

abbrev pub decreases-are_allowed : goal.decreases-are_allowed
decreases-are_allowed l = length l.effects.now
