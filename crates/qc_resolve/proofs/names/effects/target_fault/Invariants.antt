use Rattle.std.proofs.Common.{◌≡◌, drop, map}
use Rattle.qc_facts.specs.Faults.{reported, reported_of_both}
use Rattle.qc_resolve.specs.Expressions.{expression_of}
use Rattle.qc_resolve.specs.Effects.{target_faults}
use Rattle.qc_resolve.specs.KeptSignatures.{at_most_one}
use Rattle.qc_resolve.specs.KeptNames.{names_at}
use Rattle.qc_resolve.proofs.names.effects.target_fault.Given as goal

abbrev pub invariant-loop-place : goal.invariant-loop-place
invariant-loop-place l =
    reported_of_both l.found (reported (target_faults (names_at l.names) (map at_most_one (drop l.place l.targets))
    (map expression_of (drop l.place l.args))))
    ≡ reported (target_faults (names_at l.names) (map at_most_one l.targets) (map expression_of l.args))
