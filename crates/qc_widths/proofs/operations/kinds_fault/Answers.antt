use Rattle.std.specs.List.{flat_map}
use Rattle.std.proofs.Common.{refl, arith}
use Rattle.qc_facts.specs.Facts.{kind_faults}
use Rattle.qc_facts.specs.Faults.{token_of, rank_of}
use Rattle.qc_names.specs.Law.Reported.{reported_more}
use Rattle.qc_widths.proofs.operations.kinds_fault.Goals as goal

pub loop-operand-preserved : goal.loop-operand-preserved
loop-operand-preserved c =
    reported_more token_of rank_of (flat_map (λ o. kind_faults c.args.facts.now o.kind)) (λ o. kind_faults c.args.facts.now o.kind)
    (λ x xs. refl) c.args.operands.now c.loop-operand.operand-index c.operand-item.result c.loop-operand.fault
    c.kind_fault.result c.earlier-fault.result _ (omega arith) c.operand-item.is c.kind_fault.ensures
    c.earlier-fault.ensures
    c.loop-operand.invariant
