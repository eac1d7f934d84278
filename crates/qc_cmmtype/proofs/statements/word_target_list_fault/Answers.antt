use Rattle.std.proofs.Common.{refl}
use Rattle.std.specs.List.{flat_map}
use Rattle.qc_names.specs.Law.Reported.{reported_more}
use Rattle.qc_cmmtype.specs.Faults.{token_of, rank_of}
use Rattle.qc_cmmtype.specs.Statements.{word_target_faults}
use Rattle.qc_cmmtype.specs.Tables.{scope_at}
use Rattle.qc_cmmtype.proofs.statements.word_target_list_fault.Goals as goal

pub loop-target-preserved : goal.loop-target-preserved
loop-target-preserved c =
    reported_more token_of rank_of (flat_map (word_target_faults (scope_at c.args.scope.now)))
    (word_target_faults (scope_at c.args.scope.now)) (λ x xs. refl) c.args.targets.now
    c.loop-target.target-index c.target-item.result c.loop-target.found c.word_target_fault.result _ _
    c.loop-target-test.true c.target-item.is c.word_target_fault.ensures c.earlier-found.ensures c.loop-target.invariant
