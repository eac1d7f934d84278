use Rattle.std.proofs.Common.{length}
use Rattle.qc_nodes.proofs.operands.+is_read.Given as goal

abbrev pub decreases-is_read : goal.decreases-is_read
decreases-is_read l = length l.effects.now
