use Rattle.std.proofs.Common.{length}
use Rattle.qc_nodes.proofs.node.+write_flag.Given as goal

abbrev pub decreases-write_flag : goal.decreases-write_flag
decreases-write_flag l = length l.effects.now
