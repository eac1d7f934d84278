-- The files of a shelf: a finite map from names to contents.
use Rattle.std.specs.Prelude.{ℕ, ◌≡◌, ◌≢◌, ◌-◌, List, [], Option, is_some, IfSome, unwrap_or}
use Rattle.std.specs.List.{slice_index_or}
use Rattle.std.specs.Ordering.{nat_cmp}
use Rattle.std.specs.Cmp.Lexicographic.{slice_cmp}
use Rattle.std.specs.FinMap.{FinMap, get}

abbrev pub Files : Type 0
Files = FinMap (slice_cmp nat_cmp) (List ℕ)

-- the content of a file; one that isn't there has no byte
abbrev pub content_of : Files → List ℕ → List ℕ
content_of files name = unwrap_or (get files name) []

-- the name of the file of this number, counted from 1
abbrev pub name_of : List (List ℕ) → ℕ → List ℕ
name_of names file = slice_index_or names (file - 1) []

-- the content of the file of this number
abbrev pub input_of : Files → List (List ℕ) → ℕ → List ℕ
input_of files names file = content_of files (name_of names file)

-- the most bytes that a file may have
unfoldable pub file_limit : ℕ
file_limit = 4194304

-- every file but the named one is as before
abbrev pub OthersStay : List ℕ → Files → Files → Type 0
OthersStay name old new = (other : List ℕ) → other ≢ name → get new other ≡ get old other

-- where the files are known, they are known afterwards, and every file but the named one is as before
abbrev pub OthersStayKnown : List ℕ → Option Files → Option Files → Type 0
OthersStayKnown name old new =
    (is_some new ≡ is_some old) × IfSome old (λ o. IfSome new (λ n. OthersStay name o n))
