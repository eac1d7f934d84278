use Rattle.std.proofs.Common.{ap, sym, ◌∙◌, arith, [], ◌∷◌, ◌++◌}
use Rattle.qc_grammar.specs.Grammar.{repetition}
use Rattle.qc_grammar.specs.Reading.{reads, first}
use Rattle.qc_grammar.specs.Law.Lists.{goes_on, ends, error, all_after, none_after}
use Rattle.qc_grammar.specs.Law.Loops.{after_items}
use Rattle.qc_cmm.specs.Cmm.{cmm, body_item, body_item_shortens}
use Rattle.qc_cmm.proofs.procedures.read_items_after.Goals as goal

pub loop-alloc-init : goal.loop-alloc-init
loop-alloc-init c = record {
  read = ap (λ items. after_items items (reads cmm (repetition body_item) c.args.cursor.now))
      (c.in_ok-push.ensures.ok ∙ ap (λ items. items ++ c.args.first ∷ []) c.new-items.ensures);
  shorter = omega arith;
}

pub loop-alloc-smaller : goal.loop-alloc-smaller
loop-alloc-smaller c =
    body_item_shortens c.loop-alloc.cursor (c.in-Ok.item, c.read_body_item.new.cursor) c.in-Ok.ensures.0

pub loop-alloc-preserved : goal.loop-alloc-preserved
loop-alloc-preserved c = record {
  read =
      ap (λ items. after_items items (reads cmm (repetition body_item) c.read_body_item.new.cursor))
      c.in_ok-push-in-Ok.ensures.ok
      ∙ sym (goes_on (reads cmm body_item) (first cmm body_item) body_item_shortens c.loop-alloc.items c.in-Ok.item
      c.loop-alloc.cursor c.read_body_item.new.cursor (sym c.begins_body_item.ensures ∙ c.loop-alloc-test.true)
      c.in-Ok.ensures.0)
      ∙ c.loop-alloc.invariant.read;
  shorter = omega (arith, c.in-Ok.ensures.1);
}

pub returns-in-Err : goal.returns-in-Err
returns-in-Err c =
    none_after (reads cmm body_item) (first cmm body_item) body_item_shortens c.args.first c.args.cursor.now
    c.in-Err.stop c.read_body_item.new.cursor
    (error (reads cmm body_item) (first cmm body_item) body_item_shortens c.loop-alloc.items c.loop-alloc.cursor
    (sym c.begins_body_item.ensures ∙ c.loop-alloc-test.true) c.in-Err.stop c.read_body_item.new.cursor
    c.in-Err.ensures c.args.cursor.now
    (λ tokens. after_items (c.args.first ∷ []) (reads cmm (repetition body_item) tokens))
    c.loop-alloc.invariant.read)

pub returns : goal.returns
returns c =
    let found = all_after (reads cmm body_item) (first cmm body_item) body_item_shortens c.args.first
    c.loop-alloc.items c.args.cursor.now c.loop-alloc.cursor
    (sym c.loop-alloc.invariant.read
    ∙ ends (reads cmm body_item) (first cmm body_item) body_item_shortens c.loop-alloc.items c.loop-alloc.cursor
    (sym c.begins_body_item.ensures ∙ c.loop-alloc-test.false)) in (
      found.0,
      found.1,
      (found.2, c.loop-alloc.invariant.shorter),
    )
