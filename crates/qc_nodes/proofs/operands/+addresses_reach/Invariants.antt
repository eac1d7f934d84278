use Rattle.std.proofs.Common.{length}
use Rattle.qc_nodes.proofs.operands.+addresses_reach.Given as goal

abbrev pub decreases-addresses_reach : goal.decreases-addresses_reach
decreases-addresses_reach l = length l.operands.now
