-- A write to a cell leaves the number of cells of each space as it is.
use Rattle.std.proofs.Common.{◌≡◌, ℕ, zero, suc, List, [], ◌∷◌, length, map, ap, refl}
use Rattle.std.proofs.lemmas.List.{length-set}
use Rattle.qc_terms.specs.Cells.{with_cell}

pub lengths-with_cell : (cells : List (List ℕ)) (space index word : ℕ) → map length (with_cell cells space index word) ≡ map length cells
lengths-with_cell [] space index word = refl
lengths-with_cell (row ∷ rows) zero index word = ap (λ n. n ∷ map length rows) (length-set row index word)
lengths-with_cell (row ∷ rows) (suc space) index word = ap (λ ns. length row ∷ ns) (lengths-with_cell rows space index word)
