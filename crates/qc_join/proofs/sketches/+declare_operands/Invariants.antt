use Rattle.std.proofs.Common.{length}
use Rattle.qc_join.proofs.sketches.+declare_operands.Given as goal

-- one operand after the other
abbrev pub decreases-declare_operands : goal.decreases-declare_operands
decreases-declare_operands l = length l.operands.now
