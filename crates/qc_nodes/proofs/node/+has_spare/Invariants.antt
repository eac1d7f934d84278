use Rattle.std.proofs.Common.{length}
use Rattle.qc_nodes.proofs.node.+has_spare.Given as goal

abbrev pub decreases-has_spare : goal.decreases-has_spare
decreases-has_spare l = length l.bindings.now
