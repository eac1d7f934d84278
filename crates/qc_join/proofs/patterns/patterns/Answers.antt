use Rattle.std.proofs.Common.{subst, take, []}
use Rattle.qc_names.specs.ValueTables.{IsTableOf}
use Rattle.qc_join.specs.Expansion.{fields_of, patterns_after}
use Rattle.qc_join.proofs.Parts.{patterns_more}
use Rattle.qc_join.proofs.patterns.patterns.Goals as goal

pub loop-item-preserved : goal.loop-item-preserved
loop-item-preserved c =
    let items = c.args.items.now in
    let at = c.loop-item.item-index in
    let table = c.declare_pattern.new.table in
    subst (λ ps. IsTableOf ps table.values table.numbers)
    (patterns_more (fields_of items) items at c.item-item.result c.loop-item-test.true c.item-item.is)
    (c.in_ok-declare_pattern.ensures (fields_of items) (patterns_after (fields_of items) [] (take at items))
    c.requires c.loop-item.invariant)
