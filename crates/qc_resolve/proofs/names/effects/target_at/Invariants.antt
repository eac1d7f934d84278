use Rattle.std.proofs.Common.{◌≡◌, drop, map}
use Rattle.qc_resolve.specs.Expressions.{expression_of}
use Rattle.qc_resolve.specs.Effects.{targets_at}
use Rattle.qc_resolve.specs.KeptSignatures.{least, lesser, at_most_one}
use Rattle.qc_resolve.proofs.names.effects.target_at.Given as goal

abbrev pub invariant-loop-place : goal.invariant-loop-place
invariant-loop-place l =
    lesser l.found (least (targets_at l.name (map at_most_one (drop l.place l.targets))
    (map expression_of (drop l.place l.args))))
    ≡ least (targets_at l.name (map at_most_one l.targets) (map expression_of l.args))
