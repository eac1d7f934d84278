use Rattle.std.proofs.Common.{refl}
use Rattle.std.specs.List.{flat_map}
use Rattle.qc_names.specs.Law.Reported.{reported_more}
use Rattle.qc_cmmtype.specs.Faults.{token_of, rank_of}
use Rattle.qc_cmmtype.specs.Types.{type_faults}
use Rattle.qc_cmmtype.proofs.procedures.variable_type_fault.Goals as goal

pub loop-declaration-preserved : goal.loop-declaration-preserved
loop-declaration-preserved c =
    reported_more token_of rank_of (flat_map (λ q. type_faults c.args.word q.type_of))
    (λ q. type_faults c.args.word q.type_of) (λ x xs. refl) c.args.declarations.now
    c.loop-declaration.declaration-index c.declaration-item.result c.loop-declaration.found c.type_fault-fault.result _ _
    c.loop-declaration-test.true c.declaration-item.is c.type_fault-fault.ensures c.earlier-found.ensures c.loop-declaration.invariant
