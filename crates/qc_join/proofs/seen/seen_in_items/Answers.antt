use Rattle.qc_join.specs.Faults.{token_of, rank_of}
use Rattle.qc_join.specs.declared.faults.NameFault.TheVariants.{Twice}
use Rattle.qc_join.specs.Inner.KeptNames.{names_of}
use Rattle.qc_names.specs.Law.Seen.{noted_more}
use Rattle.qc_join.proofs.seen.seen_in_items.Goals as goal

pub loop-item-preserved : goal.loop-item-preserved
loop-item-preserved c =
    noted_more token_of rank_of Twice (names_of c.args.kind) c.loop-item.seen c.see_item.new.seen _ c.args.items.now c.loop-item.item-index
    c.item-item.result c.loop-item-test.true c.item-item.is c.in_ok-see_item.ensures c.loop-item.invariant
