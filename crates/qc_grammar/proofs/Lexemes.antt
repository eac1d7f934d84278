-- The lexemes of tokens.
use Rattle.std.proofs.Common.{ℕ, zero, suc, ◌≡◌, ◌<◌, take, sym, subst, IfSome, refl, List, [], ◌∷◌, length, ap}
use Rattle.std.specs.Prelude.{Option, Some, None}
use Rattle.qc_grammar.specs.declared.classes.ClassedToken.{ClassedToken}
use Rattle.qc_grammar.specs.Lexeme.{lexeme_of, lexemes_from}
use Rattle.qc_grammar.specs.TokenSpans.{InSource}
use Rattle.qc_grammar.specs.Answer.{cut}
use Rattle.qc_grammar.specs.Brackets.{first_too_deep}
use Rattle.qc_grammar.specs.Law.Fronts.{some_too_deep}

pub length-lexemes : (source : List ℕ) (number : ℕ) (tokens : List ClassedToken)
    → length (lexemes_from source number tokens) ≡ length tokens
length-lexemes source number [] = refl
length-lexemes source number (token ∷ tokens) = ap suc (length-lexemes source (suc number) tokens)

pub lexemes-take : (source : List ℕ) (number k : ℕ) (tokens : List ClassedToken)
    → lexemes_from source number (take k tokens) ≡ take k (lexemes_from source number tokens)
lexemes-take source number zero tokens = refl
lexemes-take source number (suc k) [] = refl
lexemes-take source number (suc k) (token ∷ tokens) =
    ap (λ ts. lexeme_of source number token ∷ ts) (lexemes-take source (suc number) k tokens)

pub lexemes-cut : (source : List ℕ) (deep : Option ℕ) (tokens : List ClassedToken)
    → lexemes_from source 0 (cut deep tokens) ≡ cut deep (lexemes_from source 0 tokens)
lexemes-cut source None tokens = refl
lexemes-cut source (Some k) tokens = lexemes-take source 0 (suc k) tokens

in_source_take : (n k : ℕ) (tokens : List ClassedToken) → InSource n tokens → InSource n (take k tokens)
in_source_take n zero tokens p = tt
in_source_take n (suc k) [] p = tt
in_source_take n (suc k) (token ∷ tokens) p = (p.0, p.1, in_source_take n k tokens p.2)

pub in_source_cut : (n : ℕ) (deep : Option ℕ) (tokens : List ClassedToken) → InSource n tokens → InSource n (cut deep tokens)
in_source_cut n None tokens p = p
in_source_cut n (Some k) tokens p = in_source_take n (suc k) tokens p

-- the first bracket that is too deep is one of the tokens
pub deep_within : (source : List ℕ) (deep : Option ℕ) (tokens : List ClassedToken)
    → deep ≡ first_too_deep 0 (lexemes_from source 0 tokens) → IfSome deep (λ k. k < length tokens)
deep_within source None tokens e = tt
deep_within source (Some k) tokens e =
    subst (λ n. k < n) (length-lexemes source 0 tokens)
    (some_too_deep 0 (lexemes_from source 0 tokens) k (sym e)).within
