-- The cells of a machine's spaces: a list of rows of words.
use Rattle.std.specs.Prelude.{ℕ, ◌<◌, List, [], length, slice_index, slice_set}
use Rattle.std.specs.List.{slice_index_or}

-- the cells of a space; a space that isn't there has none
abbrev pub row_of : List (List ℕ) → ℕ → List ℕ
row_of cells space = slice_index_or cells space []

-- there is such a cell
abbrev pub HasCell : List (List ℕ) → ℕ → ℕ → Type 0
HasCell cells space index = (space < length cells) × (index < length (row_of cells space))

-- the word in a cell
abbrev pub cell_of : List (List ℕ) → ℕ → ℕ → ℕ
cell_of cells space index = slice_index (row_of cells space) index

-- the cells with another word in one of them
abbrev pub with_cell : List (List ℕ) → ℕ → ℕ → ℕ → List (List ℕ)
with_cell cells space index word = slice_set cells space (slice_set (row_of cells space) index word)
