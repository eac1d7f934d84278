-- Lists of terms that were found, with the set of their numbers.
use Rattle.std.specs.Prelude.{ℕ, ◌≡◌, ◌++◌, Bool, true, false, List, [], ◌∷◌, map, slice_get, slice_index_or, Some, ◌⊎◌}
use Rattle.qc_terms.specs.Tree.{Tree}
use Rattle.qc_laws.specs.declared.step.Step.{Step}
use Rattle.qc_rewrite.specs.Closure.{Trace, traces_of}
use Rattle.qc_rewrite.specs.declared.table.Table.{Table}
use Rattle.qc_rewrite.specs.Closure.{AreThere}

-- a new number stands last, and any other stands there and changes nothing
abbrev pub IsNoted : List ℕ → List ℕ → ℕ → Bool → Type 0
IsNoted old new number true = ((i : ℕ) → slice_get old i ≡ Some number → ⊥) × (new ≡ old ++ number ∷ [])
IsNoted old new number false = ((i : ℕ) × (slice_get old i ≡ Some number)) × (new ≡ old)

-- the numbers are those of the terms
abbrev pub AreMatched : List ℕ → List (ℕ × List Step) → Type 0
AreMatched seen found = seen ≡ map (λ f. f.0) found

-- the term's id and the path at an index
abbrev pub found_at : List (ℕ × List Step) → ℕ → ℕ × List Step
found_at found at = slice_index_or found at (0, [])

-- a term that is there changes nothing, and any other is put last, with the path
abbrev pub IsFound : List (ℕ × List Step) → List (ℕ × List Step) → ℕ → List Step → Type 0
IsFound old new id path =
    ((i : ℕ) × (f : ℕ × List Step) × (slice_get old i ≡ Some f) × (f.0 ≡ id) × (new ≡ old))
    ⊎ (((i : ℕ) (f : ℕ × List Step) → slice_get old i ≡ Some f → f.0 ≡ id → ⊥) × (new ≡ old ++ (id, path) ∷ []))

-- the traces of a table
abbrev pub traces_in : List Tree → Table → List Trace
traces_in terms table = traces_of terms table.found.items

-- each id is one of a term, and the numbers are those of the terms
pub record IsTable (terms : List Tree) (table : Table) : Type 0 where
  pub there : AreThere terms table.found.items
  pub matched : AreMatched table.seen.keys table.found.items
