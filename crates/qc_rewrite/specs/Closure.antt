-- All terms that a term leads to by laws, each with a shortest way.
use Rattle.std.specs.Prelude.{ℕ, ◌≡◌, ◌<◌, ◌≤◌, List, [], ◌∷◌, length, map, slice_get, Some}
use Rattle.qc_terms.specs.Tree.{Tree}
use Rattle.qc_equations.specs.declared.names.Law.{Law}
use Rattle.qc_equations.specs.Steps.{after_steps}
use Rattle.qc_laws.specs.declared.step.Step.{Step}
use Rattle.qc_pool.specs.Nodes.{term_at}

-- A term, and the steps that lead to it, each a law and a place.
pub record Trace : Type 0 where
  pub term : Tree
  pub path : List (Law × List ℕ)

-- the term is that of a trace with at most so many steps
abbrev pub IsListedBy : ℕ → List Trace → Tree → Type 0
IsListedBy steps traces u = (i : ℕ) × (r : Trace) × (slice_get traces i ≡ Some r) × (r.term ≡ u) × (length r.path ≤ steps)

-- Each term of the list is what its path makes of the first one. Each term that a path of at most so many steps makes of it
-- is in the list, by a path that is no longer; it is there once. A later path is never shorter than an earlier one.
pub record IsClosure (t : Tree) (steps : ℕ) (traces : List Trace) : Type 0 where
  pub led : (i : ℕ) (r : Trace) → slice_get traces i ≡ Some r → (after_steps r.path t ≡ Some r.term) × (length r.path ≤ steps)
  pub all : (path : List (Law × List ℕ)) (u : Tree) → length path ≤ steps → after_steps path t ≡ Some u →
      IsListedBy (length path) traces u
  pub once : (i j : ℕ) (r s : Trace) → slice_get traces i ≡ Some r → slice_get traces j ≡ Some s → r.term ≡ s.term → i ≡ j
  pub rising : (i j : ℕ) (r s : Trace) → slice_get traces i ≡ Some r → slice_get traces j ≡ Some s → i ≤ j →
      length r.path ≤ length s.path

-- ---- lists of a program

abbrev pub step_of : Step → Law × List ℕ
step_of step = (step.law, step.place)

-- a term's id and a path, as a trace
abbrev pub trace_of : List Tree → ℕ × List Step → Trace
trace_of terms found = record { term = term_at terms found.0; path = map step_of found.1 }

-- the traces of ids and paths
abbrev pub traces_of : List Tree → List (ℕ × List Step) → List Trace
traces_of terms found = map (trace_of terms) found

-- each id is one of a term
abbrev pub AreThere : List Tree → List (ℕ × List Step) → Type 0
AreThere terms [] = Unit {0}
AreThere terms (found ∷ more) = (found.0 < length terms) × AreThere terms more
