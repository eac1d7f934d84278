use Rattle.std.proofs.Common.{◌≡◌, map, take}
use Rattle.qc_resolve.specs.Declarations.{targets_of_param}
use Rattle.qc_resolve.specs.KeptSignatures.{least}
use Rattle.qc_resolve.specs.KeptNames.{names_at}
use Rattle.qc_resolve.proofs.signatures.param_targets.Given as goal

abbrev pub invariant-loop-param : goal.invariant-loop-param
invariant-loop-param l =
    l.found ≡ map least (map (targets_of_param (names_at l.names) l.body) (take l.param-index l.params))
