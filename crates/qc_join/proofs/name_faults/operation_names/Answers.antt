use Rattle.qc_names.specs.Law.Tables.{entered_more}
use Rattle.qc_join.proofs.name_faults.operation_names.Goals as goal

pub loop-operation-preserved : goal.loop-operation-preserved
loop-operation-preserved c =
    entered_more (λ o. o.name) c.loop-operation.names c.enter.new.self c.args.operations.now
    c.loop-operation.operation-index c.operation-item.result c.bytes.result.now c.loop-operation-test.true
    c.operation-item.is c.bytes.ensures c.in_ok-enter.ensures.after c.loop-operation.invariant
