-- Terms of a pool keep their ids while others come.
use Rattle.std.proofs.Common.{rules, arith, ◌≡◌, ◌∙◌, sym, ap, subst, ℕ, ◌<◌, List, [], ◌∷◌, ◌++◌, length, append_assoc, length-append, Some, slice_get, inl, inr}
use Rattle.std.proofs.lemmas.List.{get_or_append_left}
use Rattle.std.proofs.lemmas.Option.{slice_get-get_or, slice_get_within, get_or_from_slice_get}
use Rattle.qc_terms.specs.Tree.{Tree, Number}
use Rattle.qc_pool.specs.Nodes.{term_at}
use Rattle.qc_pool.specs.Regions.{IsAdded, IsThere, Keeps}

-- a term with an id is at it
pub at_id : (terms : List Tree) (id : ℕ) (t : Tree) → slice_get terms id ≡ Some t → (id < length terms) × (term_at terms id ≡ t)
at_id terms id t at = (slice_get_within terms id t at, get_or_from_slice_get terms id t (Number 0 1) at)

-- it keeps the id while terms come
pub still_at : (old new : List Tree) (id : ℕ) (t : Tree) → slice_get old id ≡ Some t → Keeps old new → slice_get new id ≡ Some t
still_at old new id t at kept =
    let here = at_id old id t at in
    let P : List Tree → Type 0 = λ ts. slice_get ts id ≡ Some t in
    let longer : id < length (old ++ kept.0) = omega (arith, length-append old kept.0, here.0) in
    subst P (sym kept.1) (slice_get-get_or (old ++ kept.0) id (Number 0 1) longer
    ∙ ap (λ u. Some u) (get_or_append_left old kept.0 (Number 0 1) id here.0 ∙ here.1))

-- a term that is there stays
pub there_on : (old new : List Tree) (t : Tree) → IsThere old t → Keeps old new → IsThere new t
there_on old new t there kept = (there.0, still_at old new there.0 t there.1 kept)

-- an id stands for the same term
pub kept_id : (old new : List Tree) (id : ℕ) → id < length old → Keeps old new → (id < length new) × (term_at new id ≡ term_at old id)
kept_id old new id below kept =
    let P : List Tree → Type 0 = λ ts. (id < length ts) × (term_at ts id ≡ term_at old id) in
    subst P (sym kept.1) (omega (arith, length-append old kept.0), get_or_append_left old kept.0 (Number 0 1) id below)

pub kept_on : (old mid new : List Tree) → Keeps old mid → Keeps mid new → Keeps old new
kept_on old mid new first second =
    (first.0 ++ second.0, second.1 ∙ ap (λ ts. ts ++ second.0) first.1 ∙ append_assoc old first.0 second.0)

-- what an added term leaves, and where it stands
pub added_keeps : (old new : List Tree) (t : Tree) (id : ℕ) → IsAdded old new t id → Keeps old new
added_keeps old new t id added =
    elim added.change [ inl same ↦ ([], same.1 ∙ search rules) | inr last ↦ (t ∷ [], last.1) ]

pub added_at : (old new : List Tree) (t : Tree) (id : ℕ) → IsAdded old new t id → (id < length new) × (term_at new id ≡ t)
added_at old new t id added = at_id new id t added.at
