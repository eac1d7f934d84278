-- Tokens that lie inside a source, and end it.
use Rattle.std.specs.Prelude.{ℕ, ◌≡◌, ◌≤◌, List, [], ◌∷◌}
use Rattle.qc_text.specs.declared.token.Kind.TheVariants.{End}
use Rattle.qc_grammar.specs.declared.classes.ClassedToken.{ClassedToken}

-- each token is a span of a source of this length
abbrev pub InSource : ℕ → List ClassedToken → Type 0
InSource length [] = Unit {0}
InSource length (classed ∷ tokens) =
    (classed.token.start ≤ classed.token.end) × (classed.token.end ≤ length) × InSource length tokens

-- the last token is the end of a text
abbrev pub IsEnded : List ClassedToken → Type 0
IsEnded [] = ⊥
IsEnded (last ∷ []) = last.token.kind ≡ End
IsEnded (classed ∷ next ∷ tokens) = IsEnded (next ∷ tokens)
