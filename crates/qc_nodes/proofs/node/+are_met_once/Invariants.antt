use Rattle.std.proofs.Common.{length}
use Rattle.qc_nodes.proofs.node.+are_met_once.Given as goal

abbrev pub decreases-are_met_once : goal.decreases-are_met_once
decreases-are_met_once l = length l.goals.now
