use Rattle.std.proofs.Common.{◌≡◌, drop}
use Rattle.qc_cmmtype.specs.Faults.{reported, reported_of_both}
use Rattle.qc_cmmtype.specs.Statements as spec
use Rattle.qc_cmmtype.specs.Tables.{scope_at}
use Rattle.qc_cmmtype.proofs.statements.word_fault.Given as goal

-- the fault that was found, and what is reported of the rest
abbrev pub invariant-loop-value : goal.invariant-loop-value
invariant-loop-value l =
    reported_of_both l.found (reported (spec.word_faults (scope_at l.scope) (drop l.value-index l.values)))
    ≡ reported (spec.word_faults (scope_at l.scope) l.values)
