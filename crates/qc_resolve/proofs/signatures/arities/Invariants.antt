use Rattle.std.proofs.Common.{◌≡◌, map, take}
use Rattle.qc_resolve.specs.Declarations.{arity_of}
use Rattle.qc_resolve.proofs.signatures.arities.Given as goal

abbrev pub invariant-loop-param : goal.invariant-loop-param
invariant-loop-param l = l.found ≡ map arity_of (take l.param-index l.params)
