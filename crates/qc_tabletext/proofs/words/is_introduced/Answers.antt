use Rattle.std.proofs.Common.{◌≡◌, ◌∙◌, ◌-◌, ℕ, List, ap, drop, length, sym, take}
use Rattle.std.proofs.lemmas.List.{drop-map, length-map, take_rest}
use Rattle.qc_text.specs.declared.token.Token.{Token}
use Rattle.qc_text.specs.Tokens.{token_text}
use Rattle.qc_text.specs.PrintedWords.{words_in}
use Rattle.qc_tabletext.specs.Vocabulary.{is_introduced, last_two}
use Rattle.qc_tabletext.proofs.words.is_introduced.Goals as goal

-- the words of the last two tokens are the last two words
last_words : (source : List ℕ) (before : List Token) (n : ℕ) → n ≡ length before - 2
    → words_in source (take (length before - n) (drop n before)) ≡ last_two (words_in source before)
last_words source before n e =
    ap (words_in source) (take_rest before n)
    ∙ sym (drop-map (λ token. (token.kind, token_text source token)) n before)
    ∙ ap (λ m. drop m (words_in source before))
    (e ∙ ap (λ l. l - 2) (sym (length-map before (λ token. (token.kind, token_text source token)))))

pub returns : goal.returns
returns c =
    c.is_introduced_by.ensures
    ∙ ap is_introduced
    (last_words c.args.source.now c.args.before.now c.saturating_sub.result c.saturating_sub.ensures)
