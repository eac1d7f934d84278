use Rattle.std.proofs.Common.{length}
use Rattle.qc_nodes.proofs.rules.+register_part.Given as goal

abbrev pub decreases-register_part : goal.decreases-register_part
decreases-register_part l = length l.pairs.now
