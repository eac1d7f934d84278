use Rattle.std.proofs.Common.{length}
use Rattle.qc_descr.proofs.overlaps.+overlap_with.Given as goal

abbrev pub decreases-overlap_with : goal.decreases-overlap_with
decreases-overlap_with l = length l.others.now
