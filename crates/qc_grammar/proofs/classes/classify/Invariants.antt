use Rattle.std.proofs.Common.{length, ◌-◌, ◌≡◌, ◌≤◌, ◌++◌, take, drop}
use Rattle.qc_text.specs.PrintedWords.{words_in}
use Rattle.qc_grammar.specs.Lexeme.{classed_from, classed}
use Rattle.qc_grammar.proofs.classes.classify.Given as goal

-- the tokens so far, and those that are left with their classes
abbrev pub invariant-loop-at : goal.invariant-loop-at
invariant-loop-at g l = record {
  found : l.found.items
      ++ classed_from g.V.Vocabulary.vocabulary l.source (words_in l.source (take l.at l.tokens)) (drop l.at l.tokens)
      ≡ classed g.V.Vocabulary.vocabulary l.source l.tokens;
  within : l.at ≤ length l.tokens;
}

abbrev pub decreases-loop-at : goal.decreases-loop-at
decreases-loop-at g l = length l.tokens - l.at
