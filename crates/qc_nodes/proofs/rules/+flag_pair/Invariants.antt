use Rattle.std.proofs.Common.{length}
use Rattle.qc_nodes.proofs.rules.+flag_pair.Given as goal

abbrev pub decreases-flag_pair : goal.decreases-flag_pair
decreases-flag_pair l = length l.pairs.now
