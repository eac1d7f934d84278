use Rattle.std.proofs.Common.{length}
use Rattle.qc_flat.proofs.words.+high_first.Given as goal

abbrev pub decreases-high_first : goal.decreases-high_first
decreases-high_first l = length l.bytes.now
