use Rattle.std.proofs.Common.{◌≡◌, drop, map}
use Rattle.qc_facts.specs.Faults.{reported, reported_of_both}
use Rattle.qc_resolve.specs.Expressions.{expression_of, plain_faults, argument_faults}
use Rattle.qc_resolve.specs.KeptNames.{names_at}
use Rattle.qc_resolve.proofs.names.expressions.+faults.Given as goal

-- the fault that was found, and what is reported of the rest
abbrev pub invariant-plain_fault-loop-arg : goal.invariant-plain_fault-loop-arg
invariant-plain_fault-loop-arg l =
    reported_of_both l.found (reported (plain_faults (names_at l.names) (map expression_of (drop l.arg-index l.args))))
    ≡ reported (plain_faults (names_at l.names) (map expression_of l.args))

abbrev pub invariant-argument_fault-loop-place : goal.invariant-argument_fault-loop-place
invariant-argument_fault-loop-place l =
    reported_of_both l.found (reported (argument_faults (names_at l.names) (drop l.place l.params)
    (map expression_of (drop l.place l.args))))
    ≡ reported (argument_faults (names_at l.names) l.params (map expression_of l.args))
