use Rattle.std.proofs.Common.{length}
use Rattle.qc_nodes.proofs.matching.+all_pairs.Given as goal

abbrev pub decreases-all_pairs : goal.decreases-all_pairs
decreases-all_pairs l = length l.effects.now
