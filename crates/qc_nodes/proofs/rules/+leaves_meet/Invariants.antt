use Rattle.std.proofs.Common.{length}
use Rattle.qc_nodes.proofs.rules.+leaves_meet.Given as goal

abbrev pub decreases-leaves_meet : goal.decreases-leaves_meet
decreases-leaves_meet l = length l.some.now
