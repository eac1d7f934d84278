use Rattle.std.proofs.Common.{Some, refl}
use Rattle.qc_names.specs.Law.Reported.{reported_more}
use Rattle.qc_cmmtype.specs.Faults.{token_of, rank_of}
use Rattle.qc_cmmtype.specs.Statements as spec
use Rattle.qc_cmmtype.specs.Expressions.{expression_faults}
use Rattle.qc_cmmtype.specs.Tables.{scope_at}
use Rattle.qc_cmmtype.proofs.statements.word_fault.Goals as goal

pub loop-value-preserved : goal.loop-value-preserved
loop-value-preserved c =
    reported_more token_of rank_of (spec.word_faults (scope_at c.args.scope.now))
    (expression_faults (scope_at c.args.scope.now) (Some c.args.scope.now.globals.now.word)) (λ x xs. refl) c.args.values.now
    c.loop-value.value-index c.value-item.result c.loop-value.found c.expression_fault-fault.result _ _
    c.loop-value-test.true c.value-item.is c.expression_fault-fault.ensures c.earlier-found.ensures c.loop-value.invariant
