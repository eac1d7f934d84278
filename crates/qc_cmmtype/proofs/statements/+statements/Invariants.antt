use Rattle.std.proofs.Common.{◌≡◌, drop}
use Rattle.qc_cmmtype.specs.Faults.{reported, reported_of_both}
use Rattle.qc_cmmtype.specs.Statements as spec
use Rattle.qc_cmmtype.specs.Tables.{scope_at}
use Rattle.qc_cmmtype.proofs.statements.+statements.Given as goal

-- the fault that was found, and what is reported of the rest
abbrev pub invariant-block_fault-loop-statement : goal.invariant-block_fault-loop-statement
invariant-block_fault-loop-statement l =
    reported_of_both l.found (reported (spec.block_faults (scope_at l.scope) (drop l.statement-index l.body)))
    ≡ reported (spec.block_faults (scope_at l.scope) l.body)
