use Rattle.std.proofs.Common.{ap, sym, ◌∙◌, arith}
use Rattle.qc_grammar.specs.Lists.{many}
use Rattle.qc_grammar.specs.Law.Lists.{goes_on, ends, error}
use Rattle.qc_grammar.specs.Law.Loops.{after_items, after_none}
use Rattle.qc_grammar.proofs.lists.read_many_by.Goals as goal

pub loop-cursor-init : goal.loop-cursor-init
loop-cursor-init g c = record {
  read = λ reading classes shortens reads begins.
      ap (λ items. after_items items (many reading classes c.args.cursor.now)) c.new-items.ensures
      ∙ after_none (many reading classes c.args.cursor.now);
  shorter = omega arith;
}

pub loop-cursor-preserved : goal.loop-cursor-preserved
loop-cursor-preserved g c = record {
  read = λ reading classes shortens reads begins.
      ap (λ items. after_items items (many reading classes c.read_one_by.new.cursor)) c.in_ok-push-in-Ok.ensures.ok
      ∙ sym (goes_on reading classes shortens c.loop-cursor.items c.in-Ok.item c.loop-cursor.cursor c.read_one_by.new.cursor
      (sym (begins _ _ c.begins.ensures) ∙ c.loop-cursor-test.true) (c.in-Ok.ensures.gives reading reads).0)
      ∙ c.loop-cursor.invariant.read reading classes shortens reads begins;
  shorter = omega (arith, c.in-Ok.ensures.shorter, c.loop-cursor.invariant.shorter);
}

pub returns-in-Err : goal.returns-in-Err
returns-in-Err g c = λ reading classes shortens reads begins.
    error reading classes shortens c.loop-cursor.items c.loop-cursor.cursor
    (sym (begins _ _ c.begins.ensures) ∙ c.loop-cursor-test.true) c.in-Err.stop c.read_one_by.new.cursor
    (c.in-Err.ensures.gives reading reads) c.args.cursor.now (many reading classes)
    (c.loop-cursor.invariant.read reading classes shortens reads begins)

pub returns : goal.returns
returns g c = λ reading classes shortens reads begins. (
  sym (c.loop-cursor.invariant.read reading classes shortens reads begins) ∙ ends reading classes shortens
      c.loop-cursor.items c.loop-cursor.cursor (sym (begins _ _ c.begins.ensures) ∙ c.loop-cursor-test.false),
  c.loop-cursor.invariant.shorter,
)
