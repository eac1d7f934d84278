use Rattle.std.proofs.Common.{length}
use Rattle.qc_nodes.proofs.goals.+rewritten.Given as goal

abbrev pub decreases-rewritten : goal.decreases-rewritten
decreases-rewritten l = length l.place.now
