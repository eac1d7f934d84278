use Rattle.std.proofs.Common.{length}
use Rattle.qc_descr.proofs.overlaps.+bits_differ.Given as goal

abbrev pub decreases-bits_differ : goal.decreases-bits_differ
decreases-bits_differ l = length l.a.now
