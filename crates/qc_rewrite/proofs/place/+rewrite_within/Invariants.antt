use Rattle.std.proofs.Common.{length}
use Rattle.qc_rewrite.proofs.place.+rewrite_within.Given as goal

abbrev pub decreases-rewrite_within : goal.decreases-rewrite_within
decreases-rewrite_within l = length l.place.now
