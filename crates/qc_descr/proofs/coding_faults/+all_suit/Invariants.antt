use Rattle.std.proofs.Common.{length}
use Rattle.qc_descr.proofs.coding_faults.+all_suit.Given as goal

abbrev pub decreases-all_suit : goal.decreases-all_suit
decreases-all_suit l = length l.operands.now
