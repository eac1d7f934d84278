use Rattle.qc_names.specs.Tables.{names_in}
use Rattle.qc_join.proofs.SameFaults.{items_more}
use Rattle.qc_join.proofs.name_faults.items_fault.Goals as goal

pub loop-item-preserved : goal.loop-item-preserved
loop-item-preserved c =
    items_more (names_in c.args.operations.now) (names_in c.args.fields.now) (names_in c.loop-item.patterns)
    (names_in c.enter_pattern.new.patterns) c.args.items.now c.loop-item.item-index c.item-item.result
    c.loop-item.found _ c.earlier-found.result _ c.loop-item-test.true c.item-item.is c.in_ok-enter_pattern.ensures
    c.in_ok-item_fault.ensures c.earlier-found.ensures c.loop-item.invariant
