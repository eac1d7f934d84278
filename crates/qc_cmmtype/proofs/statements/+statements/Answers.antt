use Rattle.std.proofs.Common.{refl}
use Rattle.qc_names.specs.Law.Reported.{reported_more}
use Rattle.qc_cmmtype.specs.Faults.{token_of, rank_of}
use Rattle.qc_cmmtype.specs.Statements as spec
use Rattle.qc_cmmtype.specs.Tables.{scope_at}
use Rattle.qc_cmmtype.proofs.statements.+statements.Goals as goal

pub block_fault-loop-statement-preserved : goal.block_fault-loop-statement-preserved
block_fault-loop-statement-preserved t c =
    reported_more token_of rank_of (spec.block_faults (scope_at c.args.scope.now))
    (spec.statement_faults (scope_at c.args.scope.now)) (λ x xs. refl) c.args.body.now
    c.loop-statement.statement-index c.statement-item.result c.loop-statement.found c.statement_fault-fault.result _ _
    c.loop-statement-test.true c.statement-item.is c.statement_fault-fault.ensures c.earlier-found.ensures c.loop-statement.invariant
