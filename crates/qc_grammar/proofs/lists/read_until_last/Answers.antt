use Rattle.std.proofs.Common.{Ok, ap, sym, ◌∙◌, arith}
use Rattle.qc_grammar.specs.Lists.{items_then_last_reading}
use Rattle.qc_grammar.specs.Law.UntilLast.{after_list, after_no_list, item_goes_on, last_ends, until_error}
use Rattle.qc_grammar.proofs.lists.read_until_last.Goals as goal

pub loop-item-init : goal.loop-item-init
loop-item-init g c = record {
  read = ap (λ items. after_list items (items_then_last_reading g.T.UntilLast.reading c.args.cursor.now))
      c.new-items.ensures
      ∙ after_no_list (items_then_last_reading g.T.UntilLast.reading c.args.cursor.now);
  shorter = omega arith;
}

pub loop-item-smaller : goal.loop-item-smaller
loop-item-smaller g c = g.met.T.UntilLast.shortens c.loop-item.cursor c.read.new.cursor c.in-Ok-Item.item
    (c.in-Ok-Item.ensures.0 ∙ ap (λ next. Ok (next, c.read.new.cursor)) c.in-Ok-Item.field-0-is)

pub loop-item-preserved : goal.loop-item-preserved
loop-item-preserved g c = record {
  read =
      ap (λ items. after_list items (items_then_last_reading g.T.UntilLast.reading c.read.new.cursor))
      c.in_ok-push-in-Ok-Item.ensures.ok
      ∙ sym (item_goes_on g.T.UntilLast.reading g.met.T.UntilLast.shortens c.loop-item.items c.in-Ok-Item.item
      c.loop-item.cursor c.read.new.cursor
      (c.in-Ok-Item.ensures.0 ∙ ap (λ next. Ok (next, c.read.new.cursor)) c.in-Ok-Item.field-0-is))
      ∙ c.loop-item.invariant.read;
  shorter = omega (arith, c.in-Ok-Item.ensures.1);
}

pub returns-in-Ok-Last : goal.returns-in-Ok-Last
returns-in-Ok-Last g c = (
  sym c.loop-item.invariant.read ∙ last_ends g.T.UntilLast.reading g.met.T.UntilLast.shortens
      c.loop-item.items c.in-Ok-Last.last c.loop-item.cursor c.read.new.cursor
      (c.in-Ok-Last.ensures.0 ∙ ap (λ next. Ok (next, c.read.new.cursor)) c.in-Ok-Last.field-0-is),
  omega (arith, c.in-Ok-Last.ensures.1, c.loop-item.invariant.shorter),
)

pub returns-in-Err : goal.returns-in-Err
returns-in-Err g c =
    until_error g.T.UntilLast.reading g.met.T.UntilLast.shortens c.loop-item.items c.loop-item.cursor
    c.in-Err.stop c.read.new.cursor c.in-Err.ensures c.args.cursor.now
    (items_then_last_reading g.T.UntilLast.reading) c.loop-item.invariant.read
