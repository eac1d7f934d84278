use Rattle.std.proofs.Common.{◌∙◌, ◌++◌, ap, arith, take}
use Rattle.qc_text.specs.PrintedWords.{words_in}
use Rattle.qc_grammar.specs.Lexeme.{classed}
use Rattle.qc_grammar.proofs.Scanned.{one_more, no_more}
use Rattle.qc_grammar.proofs.classes.classify.Goals as goal

pub loop-at-init : goal.loop-at-init
loop-at-init g c = record {
  found = ap (λ xs. xs ++ classed g.V.Vocabulary.vocabulary c.args.source.now c.args.tokens.now) c.new-found.ensures.items;
  within = omega arith;
}

pub loop-at-preserved : goal.loop-at-preserved
loop-at-preserved g c = record {
  found = one_more g.V.Vocabulary.vocabulary c.args.source.now c.args.tokens.now c.loop-at.at _ c.loop-at.found.items
      c.push.new.self.items c.is_word-is_word.result c.loop-at-test.true
      (c.is_word-is_word.ensures
      ∙ ap (g.V.Vocabulary.vocabulary (words_in c.args.source.now (take c.loop-at.at c.args.tokens.now)) _)
      c.text_of-text.ensures)
      c.in_ok-push.ensures.items c.loop-at.invariant.found;
  within = omega arith;
}

pub returns : goal.returns
returns g c = no_more g.V.Vocabulary.vocabulary c.args.source.now c.args.tokens.now c.loop-at.at c.loop-at.found.items
    c.loop-at-test.false c.loop-at.invariant.found
