use Rattle.std.proofs.Common.{length}
use Rattle.qc_descr.proofs.coding_faults.+operations_fault.Given as goal

abbrev pub decreases-operations_fault : goal.decreases-operations_fault
decreases-operations_fault l = length l.operations.now
