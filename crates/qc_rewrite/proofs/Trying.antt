-- What is found where a law is tried at a place.
use Rattle.std.proofs.Common.{arith, ◌≡◌, ◌<◌, ◌+◌, ◌-◌, ◌≤◌, ◌∙◌, ℕ, suc, zero, List, [], ◌∷◌, ◌++◌, map, length, length-append, Option, None, Some, refl, ap, sym, subst, inl, inr, slice_get}
use Rattle.std.specs.Option.{option_map}
use Rattle.std.proofs.lemmas.List.{map-append, length-map}
use Rattle.std.proofs.lemmas.Option.{slice_get-get_or, slice_get-map, slice_get_within, get_or_from_slice_get}
use Rattle.qc_lists.specs.Law.Lists.{slice_get-append_right}
use Rattle.qc_terms.specs.Tree.{Tree, Number}
use Rattle.qc_equations.specs.declared.names.Law.{Law}
use Rattle.qc_equations.specs.Steps.{rewritten}
use Rattle.qc_laws.specs.declared.step.Step.{Step}
use Rattle.qc_laws.specs.Given.{IsGiven}
use Rattle.qc_pool.specs.Law.Kept.{kept_id}
use Rattle.qc_pool.specs.Nodes.{term_at}
use Rattle.qc_pool.specs.Regions.{IsRegion, Keeps}
use Rattle.qc_rewrite.specs.Closure.{Trace, step_of, trace_of, traces_of}
use Rattle.qc_rewrite.specs.Inner.Growing.{Covers, Grows, IsOnce, trace_at}
use Rattle.qc_rewrite.specs.Closure.{AreThere}
use Rattle.qc_rewrite.specs.Inner.Tables.{IsFound, found_at}
use Rattle.qc_rewrite.proofs.Searching.{covers_on, either_part, grown-trace_at, grows_not, grows_on}

-- what is there stays, as the traces do
pub there_on : (old new : List Tree) (found : List (ℕ × List Step)) → Keeps old new → AreThere old found → AreThere new found
there_on old new [] kept there = tt
there_on old new (f ∷ found) kept there = ((kept_id old new f.0 there.0 kept).0, there_on old new found kept there.1)

pub kept-traces : (old new : List Tree) (found : List (ℕ × List Step)) → Keeps old new → AreThere old found →
    traces_of new found ≡ traces_of old found
kept-traces old new [] kept there = refl
kept-traces old new (f ∷ found) kept there =
    ap (λ t. record { term = t; path = map step_of f.1 } ∷ traces_of new found) (kept_id old new f.0 there.0 kept).1
    ∙ ap (λ ts. trace_of old f ∷ ts) (kept-traces old new found kept there.1)

pub there_at : (terms : List Tree) (found : List (ℕ × List Step)) (i : ℕ) (f : ℕ × List Step) → AreThere terms found →
    slice_get found i ≡ Some f → f.0 < length terms
there_at terms [] i f there at = cc
there_at terms (x ∷ found) zero f there at = let e : x ≡ f = cc in subst (λ (p : ℕ × List Step). p.0 < length terms) e there.0
there_at terms (x ∷ found) (suc i) f there at = there_at terms found i f there.1 at

pub there_more : (terms : List Tree) (found : List (ℕ × List Step)) (f : ℕ × List Step) → AreThere terms found → f.0 < length terms →
    AreThere terms (found ++ f ∷ [])
there_more terms [] f there here = (here, tt)
there_more terms (x ∷ found) f there here = (there.0, there_more terms found f there.1 here)

-- the trace at an index
pub trace_is : (terms : List Tree) (found : List (ℕ × List Step)) (at : ℕ) → at < length found →
    trace_at (traces_of terms found) at ≡ trace_of terms (found_at found at)
trace_is terms found at within =
    get_or_from_slice_get (traces_of terms found) at (trace_of terms (found_at found at)) (record { term = Number 0 1; path = [] })
    (slice_get-map (trace_of terms) found at ∙ ap (option_map (trace_of terms)) (slice_get-get_or found at (0, []) within))

at_end : (traces : List Trace) (last : Trace) → slice_get (traces ++ last ∷ []) (length traces) ≡ Some last
at_end traces last =
    let e : length traces + 0 ≡ length traces = omega arith in
    ap (slice_get (traces ++ last ∷ [])) (sym e) ∙ slice_get-append_right traces (last ∷ []) 0

only : (last r : Trace) (i : ℕ) → slice_get (last ∷ []) i ≡ Some r → last ≡ r
only last r zero is = cc
only last r (suc i) is = cc

-- a trace of another term
once_more : (traces : List Trace) (last : Trace) → IsOnce traces →
    ((i : ℕ) (r : Trace) → slice_get traces i ≡ Some r → r.term ≡ last.term → ⊥) → IsOnce (traces ++ last ∷ [])
once_more traces last once apart i j r s at_i at_j same =
    elim (either_part traces (last ∷ []) i r at_i) [
      | inl one ↦
          elim (either_part traces (last ∷ []) j s at_j) [
            | inl two ↦ once i j r s one.1 two.1 same
            | inr two ↦
                absurd (apart i r one.1 (same ∙ ap (λ (x : Trace). x.term) (sym (only last s (j - length traces) two.1))))
          ]
      | inr one ↦
          elim (either_part traces (last ∷ []) j s at_j) [
            | inl two ↦
                absurd (apart j s two.1 (sym same ∙ ap (λ (x : Trace). x.term) (sym (only last r (i - length traces) one.1))))
            | inr two ↦
                let h = slice_get_within (last ∷ []) (i - length traces) r one.1 in
                let k = slice_get_within (last ∷ []) (j - length traces) s two.1 in
                omega arith
          ]
    ]

from_map : (terms : List Tree) (f : Option (ℕ × List Step)) (r : Trace) → option_map (trace_of terms) f ≡ Some r →
    (g : ℕ × List Step) × (f ≡ Some g) × (trace_of terms g ≡ r)
from_map terms None r is = absurd (cc is)
from_map terms (Some g) r is = (g, refl, cc is)

module _ (old new : List Tree) (found : List (ℕ × List Step)) (at : ℕ) (law : Law) (place : List ℕ) (within : at < length found)
    (there : AreThere old found) (kept : Keeps old new) where
  same : traces_of new found ≡ traces_of old found
  same = kept-traces old new found kept there

  here : (trace_at (traces_of old found) at).term ≡ term_at old (found_at found at).0
  here = ap (λ (r : Trace). r.term) (trace_is old found at within)

  pub tried_none : IsGiven new None (rewritten law place (term_at old (found_at found at).0)) →
      Grows (trace_at (traces_of old found) at) (traces_of old found) (traces_of new found)
      × Covers (traces_of new found) (trace_at (traces_of old found) at) law place
  tried_none given = (
    subst (Grows (trace_at (traces_of old found) at) (traces_of old found)) (sym same)
        (grows_not (trace_at (traces_of old found) at) (traces_of old found)),
    λ u is. let clash = given.term ∙ ap (rewritten law place) (sym here) ∙ is in absurd (cc clash),
  )

  module _ (id : ℕ) (region : IsRegion new) (given : IsGiven new (Some id) (rewritten law place (term_at old (found_at found at).0))) where
    made : (u : Tree) → rewritten law place (trace_at (traces_of old found) at).term ≡ Some u → term_at new id ≡ u
    made u is = let e = given.term ∙ ap (rewritten law place) (sym here) ∙ is in cc

    pub tried_known : (i : ℕ) (f : ℕ × List Step) → slice_get found i ≡ Some f → f.0 ≡ id →
        Grows (trace_at (traces_of old found) at) (traces_of old found) (traces_of new found)
        × Covers (traces_of new found) (trace_at (traces_of old found) at) law place
    tried_known i f is same_id = (
      subst (Grows (trace_at (traces_of old found) at) (traces_of old found)) (sym same)
          (grows_not (trace_at (traces_of old found) at) (traces_of old found)),
      λ u turned. (
        i,
        trace_of new f,
        slice_get-map (trace_of new) found i ∙ ap (option_map (trace_of new)) is,
        ap (term_at new) same_id ∙ made u turned,
      ),
    )

    -- a term with another id isn't the new one
    apart : (i : ℕ) (r : Trace) → ((i : ℕ) (f : ℕ × List Step) → slice_get found i ≡ Some f → f.0 ≡ id → ⊥) →
        slice_get (traces_of new found) i ≡ Some r → r.term ≡ term_at new id → ⊥
    apart i r absent is same_term =
        let it = from_map new (slice_get found i) r (sym (slice_get-map (trace_of new) found i) ∙ is) in
        let below = there_at new found i it.0 (there_on old new found kept there) it.1 in
        absent i it.0 it.1
        (region.distinct it.0.0 id below given.there (ap (λ (x : Trace). x.term) it.2 ∙ same_term))

    tried_new : ((i : ℕ) (f : ℕ × List Step) → slice_get found i ≡ Some f → f.0 ≡ id → ⊥) → (path : List Step) →
        path ≡ (found_at found at).1 ++ record { law = law; place = place } ∷ [] →
        Grows (trace_at (traces_of old found) at) (traces_of old found) (traces_of new (found ++ (id, path) ∷ []))
        × Covers (traces_of new (found ++ (id, path) ∷ [])) (trace_at (traces_of old found) at) law place
    tried_new absent path longer =
        let last : Trace = trace_of new (id, path) in
        let grown : traces_of new (found ++ (id, path) ∷ []) ≡ traces_of new found ++ last ∷ [] =
        map-append (trace_of new) found ((id, path) ∷ []) in
        let end : slice_get (traces_of new found ++ last ∷ []) (length (traces_of new found)) ≡ Some last =
        at_end (traces_of new found) last in (
          record {
            more = last ∷ [];
            same = grown ∙ ap (λ ts. ts ++ last ∷ []) same;
            next = λ i r is.
                let e : last ≡ r = only last r i is in (
                  law,
                  place,
                  ap (rewritten law place) here ∙ sym given.term ∙ ap (λ (x : Trace). Some x.term) e,
                  ap (λ (x : Trace). x.path) (sym e) ∙ ap (map step_of) longer
                      ∙ map-append step_of (found_at found at).1 (record { law = law; place = place } ∷ [])
                      ∙ ap (λ (x : Trace). x.path ++ (law, place) ∷ []) (sym (trace_is old found at within)),
                );
            once = λ once.
                subst IsOnce (sym grown)
                (once_more (traces_of new found) last (subst IsOnce (sym same) once) (λ i r. apart i r absent));
          },
          λ u turned. (
            length (traces_of new found),
            last,
            ap (λ (ts : List Trace). slice_get ts (length (traces_of new found))) grown ∙ end,
            made u turned,
          ),
        )

    -- what is found, whether it was there or not
    pub tried_some : (more : List (ℕ × List Step)) (path : List Step) →
        path ≡ (found_at found at).1 ++ record { law = law; place = place } ∷ [] → IsFound found more id path →
        AreThere new more × Grows (trace_at (traces_of old found) at) (traces_of old found) (traces_of new more)
        × Covers (traces_of new more) (trace_at (traces_of old found) at) law place
    tried_some more path longer (inl known) =
        let it = tried_known known.0 known.1 known.2 known.3 in
        let Facts : List (ℕ × List Step) → Type 0 = λ fs. AreThere new fs
        × Grows (trace_at (traces_of old found) at) (traces_of old found) (traces_of new fs)
        × Covers (traces_of new fs) (trace_at (traces_of old found) at) law place in
        subst Facts (sym known.4) (there_on old new found kept there, it.0, it.1)
    tried_some more path longer (inr fresh) =
        let it = tried_new fresh.0 path longer in
        let Facts : List (ℕ × List Step) → Type 0 = λ fs. AreThere new fs
        × Grows (trace_at (traces_of old found) at) (traces_of old found) (traces_of new fs)
        × Covers (traces_of new fs) (trace_at (traces_of old found) at) law place in
        subst Facts (sym fresh.1) (there_more new found (id, path) (there_on old new found kept there) given.there, it.0, it.1)

-- ---- many at one trace

pub length-traces : (terms : List Tree) (found : List (ℕ × List Step)) → length (traces_of terms found) ≡ length found
length-traces terms found = length-map found (trace_of terms)

module _ (first mid last : List Trace) (at : ℕ) (within : at < length first) (before : Grows (trace_at first at) first mid)
    (step : Grows (trace_at mid at) mid last) where
  pub same_trace : trace_at mid at ≡ trace_at first at
  same_trace = (grown-trace_at (trace_at first at) first mid at before within).1

  step_from : Grows (trace_at first at) mid last
  step_from = subst (λ (r : Trace). Grows r mid last) same_trace step

  pub grown_more : Grows (trace_at first at) first last
  grown_more = grows_on (trace_at first at) first mid last before step_from

  pub still_covered : (law : Law) (place : List ℕ) → Covers mid (trace_at first at) law place → Covers last (trace_at first at) law place
  still_covered law place = covers_on (trace_at first at) (trace_at first at) mid last law place step_from

  pub just_covered : (law : Law) (place : List ℕ) → Covers last (trace_at mid at) law place → Covers last (trace_at first at) law place
  just_covered law place = subst (λ (r : Trace). Covers last r law place) same_trace

pub grown-length : (from : Trace) (old new : List Trace) → Grows from old new → length old ≤ length new
grown-length from old new grows = omega (arith, ap length grows.same, length-append old grows.more)
