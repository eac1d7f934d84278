use Rattle.std.proofs.Common.{◌≡◌, map, take}
use Rattle.qc_instances.specs.Instances.{closed}
use Rattle.qc_instances.proofs.closing.close_all.Given as goal

abbrev pub invariant-loop-callee : goal.invariant-loop-callee
invariant-loop-callee l = l.all ≡ map (closed l.place.level l.place.given.now) (take l.callee-index l.callees)
