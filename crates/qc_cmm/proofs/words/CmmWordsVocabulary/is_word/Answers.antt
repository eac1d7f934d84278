use Rattle.std.proofs.Common.{◌∙◌, ap, sym, ◌||◌}
use Rattle.qc_text.specs.PrintedWords.{words_in}
use Rattle.qc_grammar.specs.Lexeme.{reserving}
use Rattle.qc_cmm.specs.Vocabulary.{reserved}
use Rattle.qc_cmm.proofs.words.CmmWordsVocabulary.is_word.Goals as goal

pub returns-else-is_reserved_prim : goal.returns-else-is_reserved_prim
returns-else-is_reserved_prim c =
    let before = words_in c.args._source.now c.args._before.now in
    c.is_reserved.ensures before
    ∙ sym (ap (λ b. b || reserving reserved before c.args.kind c.args.text.now)
    (sym c.is_reserved_prim.ensures ∙ c.if-is_reserved_prim.false))
