use Rattle.std.proofs.Common.{subst, take}
use Rattle.qc_names.specs.ValueTables.{IsTableOf}
use Rattle.qc_join.specs.Expansion.{fields_from}
use Rattle.qc_join.proofs.ItemFields.{items_more}
use Rattle.qc_join.proofs.fields.fields.Goals as goal

pub loop-number-preserved : goal.loop-number-preserved
loop-number-preserved c =
    let items = c.args.items.now in
    let at = c.loop-number.number in
    let table = c.declare_fields_of.new.table in
    subst (λ ps. IsTableOf ps table.values table.numbers)
    (items_more items at c.index-items-number.result c.loop-number-test.true c.index-items-number.is)
    (c.in_ok-declare_fields_of.ensures (fields_from 0 (take at items)) c.loop-number.invariant)
