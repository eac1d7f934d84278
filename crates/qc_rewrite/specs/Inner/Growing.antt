-- How a list of traces grows while terms are looked for.
use Rattle.std.specs.Prelude.{ℕ, ◌≡◌, ◌<◌, ◌≤◌, ◌++◌, List, [], ◌∷◌, length, slice_get, slice_index_or, Some, suc}
use Rattle.qc_terms.specs.Tree.{Tree, Number}
use Rattle.qc_equations.specs.declared.names.Law.{Law}
use Rattle.qc_equations.specs.Steps.{after_steps, rewritten}
use Rattle.qc_rewrite.specs.Closure.{IsListedBy, Trace}

-- the trace at an index
abbrev pub trace_at : List Trace → ℕ → Trace
trace_at traces i = slice_index_or traces i (record { term = Number 0 1; path = [] })

-- the term is that of a trace
abbrev pub IsListed : List Trace → Tree → Type 0
IsListed traces u = (i : ℕ) × (r : Trace) × (slice_get traces i ≡ Some r) × (r.term ≡ u)

-- one more step leads from the first trace to the second one
abbrev pub IsNext : Trace → Trace → Type 0
IsNext from r =
    (law : Law) × (place : List ℕ) × (rewritten law place from.term ≡ Some r.term) × (r.path ≡ from.path ++ (law, place) ∷ [])

-- what the law makes of the trace's term at the place is listed
abbrev pub Covers : List Trace → Trace → Law → List ℕ → Type 0
Covers traces from law place = (u : Tree) → rewritten law place from.term ≡ Some u → IsListed traces u

-- no term is that of two traces
abbrev pub IsOnce : List Trace → Type 0
IsOnce traces = (i j : ℕ) (r s : Trace) → slice_get traces i ≡ Some r → slice_get traces j ≡ Some s → r.term ≡ s.term → i ≡ j

-- the list grew by traces one step on from this one, none for a term that was listed
pub record Grows (from : Trace) (old new : List Trace) : Type 0 where
  pub more : List Trace
  pub same : new ≡ old ++ more
  pub next : (i : ℕ) (r : Trace) → slice_get more i ≡ Some r → IsNext from r
  pub once : IsOnce old → IsOnce new

-- Paths of so many steps, and one more, lead to the traces: up to the first mark with all that one step more leads to, up to
-- the second one paths of at most so many steps, and of just so many from the first mark on.
pub record IsSearch (t : Tree) (round next edge : ℕ) (traces : List Trace) : Type 0 where
  pub root : (0 < length traces) × (trace_at traces 0 ≡ record { term = t; path = [] })
  pub led : (i : ℕ) (r : Trace) → slice_get traces i ≡ Some r → after_steps r.path t ≡ Some r.term
  pub once : IsOnce traces
  pub rising : (i j : ℕ) (r s : Trace) → slice_get traces i ≡ Some r → slice_get traces j ≡ Some s → i ≤ j →
      length r.path ≤ length s.path
  pub early : (i : ℕ) (r : Trace) → slice_get traces i ≡ Some r → i < edge → length r.path ≤ round
  pub late : (i : ℕ) (r : Trace) → slice_get traces i ≡ Some r → edge ≤ i → length r.path ≡ suc round
  pub last : (i : ℕ) (r : Trace) → slice_get traces i ≡ Some r → next ≤ i → i < edge → length r.path ≡ round
  pub closed : (i : ℕ) (r : Trace) → slice_get traces i ≡ Some r → i < next → (law : Law) (place : List ℕ) (u : Tree) →
      rewritten law place r.term ≡ Some u → IsListedBy (suc (length r.path)) traces u
