use Rattle.std.proofs.Common.{length}
use Rattle.qc_nodes.proofs.operands.+operands_suit.Given as goal

abbrev pub decreases-operands_suit : goal.decreases-operands_suit
decreases-operands_suit l = length l.operands.now
