-- The places of a term.
use Rattle.std.specs.Prelude.{ℕ, List, [], ◌∷◌, ◌++◌}
use Rattle.qc_terms.specs.Tree.{Tree, Binary, Load, Unary}

-- The places of the term, each behind the way to the term: the root first, then those in its parts.
abbrev pub places_from : List ℕ → Tree → List (List ℕ)
places_from way (Unary op arg) = way ∷ places_from (way ++ 0 ∷ []) arg
places_from way (Binary op left right) = way ∷ (places_from (way ++ 0 ∷ []) left ++ places_from (way ++ 1 ∷ []) right)
places_from way (Load width address) = way ∷ places_from (way ++ 0 ∷ []) address
places_from way _ = way ∷ []
