use Rattle.std.proofs.Common.{ap, sym, ◌∙◌, arith, [], ◌∷◌}
use Rattle.qc_grammar.specs.Lexeme.{Word}
use Rattle.qc_grammar.specs.Lists.{many, next_reading}
use Rattle.qc_grammar.specs.Law.Lists.{goes_on, ends, error, next_shortens, all_after, none_after}
use Rattle.qc_grammar.specs.Law.Loops.{after_items}
use Rattle.qc_grammar.proofs.lists.read_others_by.Goals as goal

pub loop-cursor-preserved : goal.loop-cursor-preserved
loop-cursor-preserved g c =
    let separator = c.args.separator.now in
    record {
      read = λ reading shortens reads.
          let read = (c.in-Ok.ensures.gives reading reads).0 in
          ap (λ items. after_items items (many (next_reading reading separator) (Word separator ∷ [])
          c.read_next_by.new.cursor)) c.in_ok-push-in-Ok.ensures.ok
          ∙ sym (goes_on (next_reading reading separator) (Word separator ∷ [])
          (next_shortens reading separator shortens) c.loop-cursor.items c.in-Ok.item c.loop-cursor.cursor
          c.read_next_by.new.cursor (sym c.is_word.ensures ∙ c.loop-cursor-test.true) read)
          ∙ c.loop-cursor.invariant.read reading shortens reads;
      shorter = omega (arith, c.in-Ok.ensures.shorter);
    }

pub returns-in-Err : goal.returns-in-Err
returns-in-Err g c = λ reading shortens reads.
    let separator = c.args.separator.now in
    let next = next_reading reading separator in
    let next_shorter = next_shortens reading separator shortens in
    none_after next (Word separator ∷ []) next_shorter c.args.first c.args.cursor.now c.in-Err.stop
    c.read_next_by.new.cursor
    (error next (Word separator ∷ []) next_shorter c.loop-cursor.items c.loop-cursor.cursor
    (sym c.is_word.ensures ∙ c.loop-cursor-test.true) c.in-Err.stop c.read_next_by.new.cursor
    (c.in-Err.ensures.gives reading reads) c.args.cursor.now
    (λ tokens. after_items (c.args.first ∷ []) (many next (Word separator ∷ []) tokens))
    (c.loop-cursor.invariant.read reading shortens reads))

pub returns : goal.returns
returns g c = λ reading shortens reads.
    let separator = c.args.separator.now in
    let next = next_reading reading separator in
    let next_shorter = next_shortens reading separator shortens in
    let found = all_after next (Word separator ∷ []) next_shorter c.args.first c.loop-cursor.items
    c.args.cursor.now c.loop-cursor.cursor
    (sym (c.loop-cursor.invariant.read reading shortens reads) ∙ ends next (Word separator ∷ []) next_shorter
    c.loop-cursor.items c.loop-cursor.cursor (sym c.is_word.ensures ∙ c.loop-cursor-test.false)) in (
      found.0,
      found.1,
      (found.2, c.loop-cursor.invariant.shorter),
    )
