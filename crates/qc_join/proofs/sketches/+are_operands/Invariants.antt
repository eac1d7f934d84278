use Rattle.std.proofs.Common.{length}
use Rattle.qc_join.proofs.sketches.+are_operands.Given as goal

-- one operand after the other
abbrev pub decreases-are_operands : goal.decreases-are_operands
decreases-are_operands l = length l.operands.now
