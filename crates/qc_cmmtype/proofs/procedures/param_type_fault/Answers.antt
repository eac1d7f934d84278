use Rattle.std.proofs.Common.{refl}
use Rattle.std.specs.List.{flat_map}
use Rattle.qc_names.specs.Law.Reported.{reported_more}
use Rattle.qc_cmmtype.specs.Faults.{token_of, rank_of}
use Rattle.qc_cmmtype.specs.Types.{type_faults}
use Rattle.qc_cmmtype.proofs.procedures.param_type_fault.Goals as goal

pub loop-param-preserved : goal.loop-param-preserved
loop-param-preserved c =
    reported_more token_of rank_of (flat_map (λ q. type_faults c.args.word q.type_of))
    (λ q. type_faults c.args.word q.type_of) (λ x xs. refl) c.args.params.now
    c.loop-param.param-index c.param-item.result c.loop-param.found c.type_fault-fault.result _ _
    c.loop-param-test.true c.param-item.is c.type_fault-fault.ensures c.earlier-found.ensures c.loop-param.invariant
