use Rattle.std.proofs.Common.{length}
use Rattle.qc_decode.proofs.instance_range.+are_in_range.Given as goal

-- one operand after the other
abbrev pub decreases-are_in_range : goal.decreases-are_in_range
decreases-are_in_range l = length l.kinds.now
