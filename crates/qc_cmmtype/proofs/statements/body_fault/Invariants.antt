use Rattle.std.proofs.Common.{◌≡◌, drop}
use Rattle.qc_cmmtype.specs.Faults.{reported, reported_of_both}
use Rattle.qc_cmmtype.specs.Statements as spec
use Rattle.qc_cmmtype.specs.Tables.{scope_at}
use Rattle.qc_cmmtype.proofs.statements.body_fault.Given as goal

-- the fault that was found, and what is reported of the rest
abbrev pub invariant-loop-item : goal.invariant-loop-item
invariant-loop-item l =
    reported_of_both l.found (reported (spec.body_faults (scope_at l.scope) (drop l.item-index l.body)))
    ≡ reported (spec.body_faults (scope_at l.scope) l.body)
