use Rattle.std.proofs.Common.{ap, ◌∙◌}
use Rattle.qc_cmmtype.specs.Faults.{reported}
use Rattle.qc_cmmtype.specs.Expressions.{expression_faults}
use Rattle.qc_cmmtype.specs.Tables.{scope_at}
use Rattle.qc_cmmtype.proofs.ArgumentLists.{arguments_more}
use Rattle.qc_cmmtype.proofs.statements.argument_fault.Goals as goal

pub loop-number-preserved : goal.loop-number-preserved
loop-number-preserved c =
    arguments_more (scope_at c.args.scope.now) c.args.params.now c.args.args.now c.loop-number.number
    c.index-args-number.result c.loop-number.found c.expression_fault-fault.result _ _ c.loop-number-test.true
    c.index-args-number.is
    (c.expression_fault-fault.ensures
    ∙ ap (λ w. reported (expression_faults (scope_at c.args.scope.now) w c.index-args-number.result))
    (c.copied.ensures ∙ c.at.ensures))
    c.earlier-found.ensures c.loop-number.invariant
