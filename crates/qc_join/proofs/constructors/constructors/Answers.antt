use Rattle.std.proofs.Common.{subst, take}
use Rattle.qc_join.specs.Inner.Constructors.{constructor_places}
use Rattle.qc_names.specs.ValueTables.{IsTableOf}
use Rattle.qc_join.proofs.Places.{places_more}
use Rattle.qc_join.proofs.constructors.constructors.Goals as goal

pub loop-number-preserved : goal.loop-number-preserved
loop-number-preserved c =
    let items = c.args.items.now in
    let at = c.loop-number.number in
    let table = c.declare_constructor.new.table in
    subst (λ ps. IsTableOf ps table.values table.numbers)
    (places_more items at c.index-items-number.result c.loop-number-test.true c.index-items-number.is)
    (c.in_ok-declare_constructor.ensures (constructor_places 0 (take at items)) c.loop-number.invariant)
