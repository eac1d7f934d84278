use Rattle.std.proofs.Common.{◌≡◌, drop}
use Rattle.qc_cmmtype.specs.Faults.{reported, reported_of_both}
use Rattle.qc_cmmtype.specs.Statements as spec
use Rattle.qc_cmmtype.specs.Tables.{scope_at}
use Rattle.qc_cmmtype.proofs.statements.argument_fault.Given as goal

-- the fault that was found, and what is reported of the rest
abbrev pub invariant-loop-number : goal.invariant-loop-number
invariant-loop-number l =
    reported_of_both l.found (reported (spec.arguments_from (scope_at l.scope) l.params l.number (drop l.number l.args)))
    ≡ reported (spec.argument_faults (scope_at l.scope) l.params l.args)
