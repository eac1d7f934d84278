use Rattle.std.proofs.Common.{refl}
use Rattle.qc_names.specs.Law.Reported.{reported_more}
use Rattle.qc_cmmtype.specs.Faults.{token_of, rank_of}
use Rattle.qc_cmmtype.specs.Statements as spec
use Rattle.qc_cmmtype.specs.Tables.{scope_at}
use Rattle.qc_cmmtype.proofs.statements.body_fault.Goals as goal

pub loop-item-preserved : goal.loop-item-preserved
loop-item-preserved c =
    reported_more token_of rank_of (spec.body_faults (scope_at c.args.scope.now))
    (spec.item_faults (scope_at c.args.scope.now)) (λ x xs. refl) c.args.body.now
    c.loop-item.item-index c.item-item.result c.loop-item.found c.item_fault-fault.result _ _
    c.loop-item-test.true c.item-item.is c.item_fault-fault.ensures c.earlier-found.ensures c.loop-item.invariant
