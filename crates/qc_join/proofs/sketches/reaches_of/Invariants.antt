use Rattle.std.proofs.Common.{◌≡◌, take}
use Rattle.qc_join.specs.Joining.{reaches_of}
use Rattle.qc_join.proofs.sketches.reaches_of.Given as goal

-- the reaches so far
abbrev pub invariant-loop-param : goal.invariant-loop-param
invariant-loop-param l = l.reaches ≡ reaches_of (take l.param-index l.params)
