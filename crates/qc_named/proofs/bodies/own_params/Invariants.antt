use Rattle.std.proofs.Common.{take}
use Rattle.qc_named.specs.Inner.OwnNames.{AreOwn}
use Rattle.qc_named.proofs.bodies.own_params.Given as goal

abbrev pub invariant-loop-param : goal.invariant-loop-param
invariant-loop-param l = AreOwn (take l.param-index l.params) l.found
