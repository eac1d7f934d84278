use Rattle.std.proofs.Common.{length}
use Rattle.qc_descr.proofs.coding_faults.+all_dropped.Given as goal

abbrev pub decreases-all_dropped : goal.decreases-all_dropped
decreases-all_dropped l = length l.operands.now
