-- The pieces that an output was given, where they are known.
use Rattle.std.specs.Prelude.{ℕ, ◌≡◌, List, [], ◌∷◌, ◌++◌, Option, ◌⊎◌}
use Rattle.std.specs.Option.{option_map}

-- the piece was added as a whole, after the pieces before
abbrev pub AddsPiece : List ℕ → Option (List (List ℕ)) → Option (List (List ℕ)) → Type 0
AddsPiece piece old new = new ≡ option_map (λ pieces. pieces ++ piece ∷ []) old

-- nothing was added, or a front of the piece as a last piece
abbrev pub AddsPart : List ℕ → Option (List (List ℕ)) → Option (List (List ℕ)) → Type 0
AddsPart piece old new =
    (new ≡ old) ⊎ ((part more : List ℕ) × (piece ≡ part ++ more) × AddsPiece part old new)
