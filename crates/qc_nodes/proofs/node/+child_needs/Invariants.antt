use Rattle.std.proofs.Common.{length}
use Rattle.qc_nodes.proofs.node.+child_needs.Given as goal

abbrev pub decreases-child_needs : goal.decreases-child_needs
decreases-child_needs l = length l.bindings.now
