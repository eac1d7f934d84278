-- The lexemes of tokens that end a text.
use Rattle.std.specs.Prelude.{ℕ, suc, ◌≡◌, Bool, true, false, List, [], ◌∷◌, ◌++◌, slice_range}
use Rattle.std.proofs.Common.{refl, ap, ◌∙◌}
use Rattle.qc_text.specs.declared.token.Kind.{Kind}
use Rattle.qc_text.specs.declared.token.Kind.TheVariants.{End}
use Rattle.qc_text.specs.declared.token.Token.{Token}
use Rattle.qc_text.specs.Tokens.{token_text}
use Rattle.qc_grammar.specs.declared.classes.ClassedToken.{ClassedToken}
use Rattle.qc_grammar.specs.Lexeme.{Any, Vocabulary, class_of, classed_from, lexeme_of, lexemes_from, lexemes}
use Rattle.qc_grammar.specs.TokenSpans.{IsEnded}
use Rattle.qc_grammar.specs.Answer.{EndsText}

-- the end of a text is no word of a grammar
pub end_class : (is_word : Bool) (text : List ℕ) → class_of is_word End text ≡ Any End
end_class true text = refl
end_class false text = refl

ended_from : (source : List ℕ) (number : ℕ) (tokens : List ClassedToken) → IsEnded tokens
    → EndsText (lexemes_from source number tokens)
ended_from source number [] e = absurd e
ended_from source number (last ∷ []) e =
    record {
      front = [];
      last = lexeme_of source number last;
      split = refl;
      end = ap (λ k. class_of last.is_word k (slice_range source last.token.start last.token.end)) e
          ∙ end_class last.is_word (slice_range source last.token.start last.token.end);
    }
ended_from source number (token ∷ next ∷ tokens) e =
    let rest : EndsText (lexemes_from source (suc number) (next ∷ tokens)) =
    ended_from source (suc number) (next ∷ tokens) e in
    record {
      front = lexeme_of source number token ∷ rest.front;
      last = rest.last;
      split = ap (λ ts. lexeme_of source number token ∷ ts) rest.split;
      end = rest.end;
    }

pub ended : (source : List ℕ) (tokens : List ClassedToken) → IsEnded tokens → EndsText (lexemes_from source 0 tokens)
ended source tokens e = ended_from source 0 tokens e

-- tokens of which the last is the end, with their classes
pub classed_ended : (vocabulary : Vocabulary) (source : List ℕ) (before : List (Kind × List ℕ)) (front : List Token)
    (last : Token) → last.kind ≡ End → IsEnded (classed_from vocabulary source before (front ++ last ∷ []))
classed_ended vocabulary source before [] last e = e
classed_ended vocabulary source before (token ∷ []) last e = e
classed_ended vocabulary source before (token ∷ next ∷ front) last e =
    classed_ended vocabulary source (before ++ (token.kind, token_text source token) ∷ []) (next ∷ front) last e

-- a file's tokens, of which the last is its end
pub file_ended : (vocabulary : Vocabulary) (source : List ℕ) (front : List Token) (last : Token) → last.kind ≡ End
    → EndsText (lexemes vocabulary source (front ++ last ∷ []))
file_ended vocabulary source front last e = ended source _ (classed_ended vocabulary source [] front last e)
