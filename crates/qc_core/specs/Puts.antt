-- What putting lines leaves of an output. Each line is one piece. The bytes of an output are those of its pieces.
use Rattle.std.specs.Prelude.{ℕ, ◌≡◌, ◌⊎◌, List, [], ◌∷◌, ◌++◌, Option}
use Rattle.std.specs.Option.{option_map}
use Rattle.qc_outside.specs.FaultCounts.{Rose}

-- the pieces that an output was given, where they are known, and its count of faults
pub record Output : Type 0 where
  pub pieces : Option (List (List ℕ))
  pub faults : ℕ

abbrev pub output_of : Option (List (List ℕ)) → ℕ → Output
output_of pieces faults = record { pieces = pieces; faults = faults }

-- nothing was put
abbrev pub IsQuiet : Output → Output → Type 0
IsQuiet old new = new.pieces ≡ old.pieces

-- these pieces were put
abbrev pub ArePut : List (List ℕ) → Output → Output → Type 0
ArePut pieces old new = new.pieces ≡ option_map (λ before. before ++ pieces) old.pieces

-- A put failed: the lines before that one were put, and of that one nothing or a front, as a piece.
pub record FailsToPut (lines : List (List ℕ)) (old new : Output) : Type 0 where
  pub rose : Rose old.faults new.faults
  pub before : List (List ℕ)
  pub front : List ℕ
  pub rest : List ℕ
  pub after : List (List ℕ)
  pub lines_are : lines ≡ before ++ ((front ++ rest) ∷ after)
  pub put : ArePut before old new ⊎ ArePut (before ++ front ∷ []) old new

-- Memory was wanting for a line: those before it were put.
pub record StopsPutting (lines : List (List ℕ)) (old new : Output) : Type 0 where
  pub before : List (List ℕ)
  pub line : List ℕ
  pub after : List (List ℕ)
  pub lines_are : lines ≡ before ++ (line ∷ after)
  pub put : ArePut before old new
