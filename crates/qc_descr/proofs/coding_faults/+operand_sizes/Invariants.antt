use Rattle.std.proofs.Common.{length}
use Rattle.qc_descr.proofs.coding_faults.+operand_sizes.Given as goal

abbrev pub decreases-operand_sizes : goal.decreases-operand_sizes
decreases-operand_sizes l = length l.operands.now
