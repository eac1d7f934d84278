use Rattle.std.proofs.Common.{length}
use Rattle.qc_decode.proofs.operands.+operand_in_byte.Given as goal

abbrev pub decreases-operand_in_byte : goal.decreases-operand_in_byte
decreases-operand_in_byte l = length l.bits.now
