use Rattle.std.proofs.Common.{◌≡◌, ◌++◌}
use Rattle.qc_constants.specs.Constants.{operand_bits}
use Rattle.qc_constants.proofs.instructions.push_operand.Given as goal

abbrev pub invariant-loop-bit : goal.invariant-loop-bit
invariant-loop-bit l = l.bits ≡ l.fn.bits ++ operand_bits l.bit l.operand
