-- Tokens with their classes lie inside their file, and end it, by what is known of each token.
use Rattle.std.proofs.Common.{ℕ, suc, ◌≡◌, ◌≤◌, ◌<◌, ◌+◌, ◌∙◌, Some, Bool, List, [], ◌∷◌, ◌++◌, refl, subst, sym, ap, length, take, drop, get_or, slice_get, append_assoc}
use Rattle.std.proofs.Math.ListN.{drop_of_length-le}
use Rattle.std.proofs.lemmas.List.{append-nil, drop_more, map-append, take_more}
use Rattle.qc_text.specs.declared.token.Kind.{Kind}
use Rattle.qc_text.specs.declared.token.Kind.TheVariants.{End}
use Rattle.qc_text.specs.declared.token.Token.{Token}
use Rattle.qc_text.specs.PrintedWords.{words_in}
use Rattle.qc_text.specs.Tokens.{token_text}
use Rattle.qc_grammar.specs.declared.classes.ClassedToken.{ClassedToken}
use Rattle.qc_grammar.specs.Lexeme.{Vocabulary, classed_from, classed}
use Rattle.qc_grammar.specs.TokenSpans.{InSource, IsEnded}
use Rattle.qc_grammar.specs.Law.Ended.{classed_ended}

pub all_inside : (vocabulary : Vocabulary) (source : List ℕ) (before : List (Kind × List ℕ)) (length : ℕ)
    (tokens : List Token) → ((i : ℕ) (token : Token) → slice_get tokens i ≡ Some token
    → (token.start ≤ token.end) × (token.end ≤ length)) → InSource length (classed_from vocabulary source before tokens)
all_inside vocabulary source before length [] each = tt
all_inside vocabulary source before length (token ∷ tokens) each =
    let here : (token.start ≤ token.end) × (token.end ≤ length) = each 0 token refl in (
      here.0,
      here.1,
      all_inside vocabulary source (before ++ (token.kind, token_text source token) ∷ []) length tokens
          (λ i other e. each (suc i) other e),
    )

pub ends : (vocabulary : Vocabulary) (source : List ℕ) (tokens front : List Token) (last : Token) → last.kind ≡ End
    → tokens ≡ front ++ last ∷ [] → IsEnded (classed vocabulary source tokens)
ends vocabulary source tokens front last e split =
    subst (λ ts. IsEnded (classed vocabulary source ts)) (sym split)
    (classed_ended vocabulary source [] front last e)

-- the first of the tokens that are left, with its class
pub next_classed : (vocabulary : Vocabulary) (source : List ℕ) (tokens : List Token) (at : ℕ) (d : Token)
    → at < length tokens
    → classed_from vocabulary source (words_in source (take at tokens)) (drop at tokens)
    ≡ record {
      token = get_or tokens at d;
      is_word = vocabulary (words_in source (take at tokens)) (get_or tokens at d).kind
          (token_text source (get_or tokens at d));
    } ∷ classed_from vocabulary source (words_in source (take (at + 1) tokens)) (drop (at + 1) tokens)
next_classed vocabulary source tokens at d within =
    let token : Token = get_or tokens at d in
    let before : List (Kind × List ℕ) = words_in source (take at tokens) in
    let one : ClassedToken =
    record { token = token; is_word = vocabulary before token.kind (token_text source token) } in
    let behind : words_in source (take (at + 1) tokens) ≡ before ++ (token.kind, token_text source token) ∷ [] =
    ap (words_in source) (take_more tokens at d within)
    ∙ map-append (λ t. (t.kind, token_text source t)) (take at tokens) (token ∷ []) in
    ap (classed_from vocabulary source before) (drop_more tokens at d within)
    ∙ ap (λ words. one ∷ classed_from vocabulary source words (drop (at + 1) tokens)) (sym behind)

-- one token more
pub one_more : (vocabulary : Vocabulary) (source : List ℕ) (tokens : List Token) (at : ℕ) (d : Token)
    (found new : List ClassedToken) (is_word : Bool) → at < length tokens
    → is_word ≡ vocabulary (words_in source (take at tokens)) (get_or tokens at d).kind
    (token_text source (get_or tokens at d))
    → new ≡ found ++ record { token = get_or tokens at d; is_word = is_word } ∷ []
    → found ++ classed_from vocabulary source (words_in source (take at tokens)) (drop at tokens)
    ≡ classed vocabulary source tokens
    → new ++ classed_from vocabulary source (words_in source (take (at + 1) tokens)) (drop (at + 1) tokens)
    ≡ classed vocabulary source tokens
one_more vocabulary source tokens at d found new is_word within same pushed before =
    let rest : List ClassedToken =
    classed_from vocabulary source (words_in source (take (at + 1) tokens)) (drop (at + 1) tokens) in
    ap (λ xs. xs ++ rest) pushed
    ∙ append_assoc found (record { token = get_or tokens at d; is_word = is_word } ∷ []) rest
    ∙ ap (λ b. found ++ record { token = get_or tokens at d; is_word = b } ∷ rest) same
    ∙ ap (λ xs. found ++ xs) (sym (next_classed vocabulary source tokens at d within))
    ∙ before

-- no token more
pub no_more : (vocabulary : Vocabulary) (source : List ℕ) (tokens : List Token) (at : ℕ) (found : List ClassedToken)
    → length tokens ≤ at → found ++ classed_from vocabulary source (words_in source (take at tokens)) (drop at tokens)
    ≡ classed vocabulary source tokens → found ≡ classed vocabulary source tokens
no_more vocabulary source tokens at found over before =
    sym (append-nil found)
    ∙ ap (λ ts. found ++ classed_from vocabulary source (words_in source (take at tokens)) ts) (sym (drop_of_length-le tokens over))
    ∙ before
