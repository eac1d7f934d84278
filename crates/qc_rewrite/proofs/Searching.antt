-- Lists of traces that grow by steps on come to all terms that steps lead to.
use Rattle.std.proofs.Common.{arith, ◌≡◌, ◌<◌, ◌≤◌, ◌+◌, ◌-◌, ◌∙◌, ℕ, suc, List, [], ◌∷◌, ◌++◌, length, Some, refl, ap, sym, subst, inl, inr, ◌⊎◌, append-nil, append_assoc, length-append, slice_get, option_and_then}
use Rattle.std.proofs.lemmas.Bool.{cases_lt}
use Rattle.std.proofs.lemmas.List.{get_or_append_left}
use Rattle.std.proofs.lemmas.Option.{slice_get-get_or, slice_get_within, get_or_from_slice_get, option_and_then_some}
use Rattle.qc_lists.specs.Law.Lists.{slice_get-append_left, slice_get-append_right}
use Rattle.qc_terms.specs.Tree.{Tree, Number}
use Rattle.qc_equations.specs.declared.names.Law.{Law}
use Rattle.qc_equations.specs.Steps.{after_steps, rewritten}
use Rattle.qc_rewrite.specs.Closure.{IsClosure, IsListedBy, Trace}
use Rattle.qc_rewrite.specs.Inner.Growing.{Covers, Grows, IsListed, IsNext, IsOnce, IsSearch, trace_at}

-- ---- lists that grow

-- what stands in one list behind another stands in one of them
pub either_part : {X : Type 0} (xs ys : List X) (i : ℕ) (x : X) → slice_get (xs ++ ys) i ≡ Some x →
    ((i < length xs) × (slice_get xs i ≡ Some x)) ⊎ ((length xs ≤ i) × (slice_get ys (i - length xs) ≡ Some x))
either_part xs ys i x at =
    elim (cases_lt i (length xs)) [
      | inl before ↦ inl (before, sym (slice_get-append_left xs ys i before) ∙ at)
      | inr behind ↦
          let e : length xs + (i - length xs) ≡ i = omega arith in
          inr (omega arith, sym (slice_get-append_right xs ys (i - length xs)) ∙ ap (slice_get (xs ++ ys)) e ∙ at)
    ]

pub still_there : {X : Type 0} (xs ys : List X) (i : ℕ) (x : X) → slice_get xs i ≡ Some x → slice_get (xs ++ ys) i ≡ Some x
still_there xs ys i x at = slice_get-append_left xs ys i (slice_get_within xs i x at) ∙ at

pub still_listed : (old more : List Trace) (u : Tree) → IsListed old u → IsListed (old ++ more) u
still_listed old more u listed = (listed.0, listed.1, still_there old more listed.0 listed.1 listed.2, listed.3)

pub listed_on : (from : Trace) (old new : List Trace) → Grows from old new → (u : Tree) → IsListed old u → IsListed new u
listed_on from old new grows u listed = subst (λ (ts : List Trace). IsListed ts u) (sym grows.same) (still_listed old grows.more u listed)

pub covers_on : (from r : Trace) (old new : List Trace) (law : Law) (place : List ℕ) → Grows from old new → Covers old r law place →
    Covers new r law place
covers_on from r old new law place grows covers u is = listed_on from old new grows u (covers u is)

pub grows_not : (from : Trace) (traces : List Trace) → Grows from traces traces
grows_not from traces = record { more = []; same = sym (append-nil traces); next = λ i r at. cc; once = λ once. once }

pub grows_on : (from : Trace) (old mid new : List Trace) → Grows from old mid → Grows from mid new → Grows from old new
grows_on from old mid new first second = record {
  more = first.more ++ second.more;
  same = second.same ∙ ap (λ ts. ts ++ second.more) first.same ∙ append_assoc old first.more second.more;
  next = λ i r at.
      elim (either_part first.more second.more i r at) [ inl one ↦ first.next i r one.1 | inr two ↦ second.next (i - length first.more) r two.1 ];
  once = λ once. second.once (first.once once);
}

-- a trace keeps its index
pub grown-trace_at : (from : Trace) (old new : List Trace) (i : ℕ) → Grows from old new → i < length old →
    (i < length new) × (trace_at new i ≡ trace_at old i)
grown-trace_at from old new i grows below =
    let P : List Trace → Type 0 = λ ts. (i < length ts) × (trace_at ts i ≡ trace_at old i) in
    subst P (sym grows.same)
    (omega (arith, length-append old grows.more), get_or_append_left old grows.more (record { term = Number 0 1; path = [] }) i below)

-- ---- paths

-- one more step after some
pub after_one_more : (path : List (Law × List ℕ)) (law : Law) (place : List ℕ) (t u v : Tree) → after_steps path t ≡ Some u →
    rewritten law place u ≡ Some v → after_steps (path ++ (law, place) ∷ []) t ≡ Some v
after_one_more [] law place t u v is next =
    let e : t ≡ u = cc in ap (option_and_then (after_steps [])) (ap (rewritten law place) e ∙ next)
after_one_more (step ∷ path) law place t u v is next =
    option_and_then_some (after_steps path) (rewritten step.0 step.1 t) u is
    (λ w here rest. ap (option_and_then (after_steps (path ++ (law, place) ∷ []))) here ∙ after_one_more path law place w u v rest next)

length-one_more : (path : List (Law × List ℕ)) (step : Law × List ℕ) → length (path ++ step ∷ []) ≡ suc (length path)
length-one_more path step = omega (arith, length-append path (step ∷ []))

-- ---- one trace more with all that follows it

module _ (t : Tree) (round next edge : ℕ) (old more : List Trace) (search : IsSearch t round next edge old)
    (below : next < edge) (within : edge ≤ length old) (steps : (i : ℕ) (r : Trace) → slice_get more i ≡ Some r → IsNext (trace_at old next) r)
    (once : IsOnce (old ++ more)) (covered : (law : Law) (place : List ℕ) → Covers (old ++ more) (trace_at old next) law place) where
  from_there : slice_get old next ≡ Some (trace_at old next)
  from_there = slice_get-get_or old next (record { term = Number 0 1; path = [] }) (omega arith)

  new_length : (i : ℕ) (r : Trace) → slice_get more i ≡ Some r → length r.path ≡ suc round
  new_length i r at =
      let step = steps i r at in
      ap length step.3 ∙ length-one_more (trace_at old next).path (step.0, step.1)
      ∙ ap suc (search.last next (trace_at old next) from_there (omega arith) below)

  all_lengths : (i : ℕ) (r : Trace) → slice_get old i ≡ Some r → length r.path ≤ suc round
  all_lengths i r at =
      elim (cases_lt i edge) [
        | inl early ↦ let h = search.early i r at early in omega arith
        | inr late ↦ let h = search.late i r at (omega arith) in omega arith
      ]

  short : (i : ℕ) (r : Trace) → slice_get (old ++ more) i ≡ Some r → length r.path ≤ suc (length (trace_at old next).path)
  short i r at =
      let h = search.last next (trace_at old next) from_there (omega arith) below in
      elim (either_part old more i r at) [
        | inl one ↦ let k = all_lengths i r one.1 in omega arith
        | inr two ↦ let k = new_length (i - length old) r two.1 in omega arith
      ]

  pub searched : IsSearch t round (suc next) edge (old ++ more)
  searched = record {
    root = (
      omega (arith, length-append old more, search.root.0),
      get_or_append_left old more (record { term = Number 0 1; path = [] }) 0 search.root.0 ∙ search.root.1,
    );
    led = λ i r at.
        elim (either_part old more i r at) [
          | inl one ↦ search.led i r one.1
          | inr two ↦
              let step = steps (i - length old) r two.1 in
              ap (λ p. after_steps p t) step.3
              ∙ after_one_more (trace_at old next).path step.0 step.1 t (trace_at old next).term r.term
              (search.led next (trace_at old next) from_there) step.2
        ];
    once = once;
    rising = λ i j r s at_i at_j order.
        elim (either_part old more i r at_i) [
          | inl one ↦
              elim (either_part old more j s at_j) [
                | inl two ↦ search.rising i j r s one.1 two.1 order
                | inr two ↦ let h = all_lengths i r one.1 in let k = new_length (j - length old) s two.1 in omega arith
              ]
          | inr one ↦
              elim (either_part old more j s at_j) [
                | inl two ↦ absurd (omega arith)
                | inr two ↦
                    let h = new_length (i - length old) r one.1 in let k = new_length (j - length old) s two.1 in omega arith
              ]
        ];
    early = λ i r at before.
        elim (either_part old more i r at) [ inl one ↦ search.early i r one.1 before | inr two ↦ absurd (omega arith) ];
    late = λ i r at behind.
        elim (either_part old more i r at) [ inl one ↦ search.late i r one.1 behind | inr two ↦ new_length (i - length old) r two.1 ];
    last = λ i r at after before.
        elim (either_part old more i r at) [
          | inl one ↦ search.last i r one.1 (omega arith) before
          | inr two ↦ absurd (omega arith)
        ];
    closed = λ i r at before law place.
        elim (either_part old more i r at) [
          | inl one ↦
              elim (cases_lt i next) [
                | inl earlier ↦ λ u is.
                    let listed = search.closed i r one.1 earlier law place u is in
                    (listed.0, listed.1, still_there old more listed.0 listed.1 listed.2, listed.3, listed.4)
                | inr here ↦
                    let e : next ≡ i = omega arith in
                    let same : trace_at old next ≡ r =
                    ap (λ n. trace_at old n) e ∙ get_or_from_slice_get old i r (record { term = Number 0 1; path = [] }) one.1 in
                    subst (λ (x : Trace). (u : Tree) → rewritten law place x.term ≡ Some u → IsListedBy (suc (length x.path)) (old ++ more) u) same
                    (λ u is. let listed = covered law place u is in
                    (listed.0, listed.1, listed.2, listed.3, short listed.0 listed.1 listed.2))
              ]
          | inr two ↦ absurd (omega arith)
        ];
  }

pub one_more : (t : Tree) (round next edge : ℕ) (old new : List Trace) → next < edge → edge ≤ length old →
    Grows (trace_at old next) old new → ((law : Law) (place : List ℕ) → Covers new (trace_at old next) law place) →
    IsSearch t round next edge old → IsSearch t round (suc next) edge new
one_more t round next edge old new below within grows covered search =
    let P : List Trace → Type 0 = λ ts. IsOnce ts × ((law : Law) (place : List ℕ) → Covers ts (trace_at old next) law place) in
    let facts = subst P grows.same (grows.once search.once, covered) in
    subst (IsSearch t round (suc next) edge) (sym grows.same)
    (searched t round next edge old grows.more search below within grows.next facts.0 facts.1)

-- ---- a round more

pub next_round : (t : Tree) (round edge : ℕ) (traces : List Trace) → edge ≤ length traces → IsSearch t round edge edge traces →
    IsSearch t (suc round) edge (length traces) traces
next_round t round edge traces within search = record {
  root = search.root;
  led = search.led;
  once = search.once;
  rising = search.rising;
  early = λ i r at before.
      elim (cases_lt i edge) [
        | inl early ↦ let h = search.early i r at early in omega arith
        | inr late ↦ let h = search.late i r at (omega arith) in omega arith
      ];
  late = λ i r at behind. let h = slice_get_within traces i r at in absurd (omega arith);
  last = λ i r at after before. search.late i r at after;
  closed = search.closed;
}

pub first_round : (t : Tree) → IsSearch t 0 0 1 (record { term = t; path = [] } ∷ [])
first_round t =
    let root : List Trace = record { term = t; path = [] } ∷ [] in
    let alone : (i : ℕ) (r : Trace) → slice_get root i ≡ Some r → (i ≡ 0) × (r ≡ record { term = t; path = [] }) = λ i r at.
    let h = slice_get_within root i r at in
    let e : i ≡ 0 = omega arith in (e, let k = ap (slice_get root) (sym e) ∙ at in cc) in
    record {
      root = (omega arith, refl);
      led = λ i r at. let only = alone i r at in ap (λ (x : Trace). after_steps x.path t) only.1 ∙ ap (λ (x : Trace). Some x.term) (sym only.1);
      once = λ i j r s at_i at_j same. (alone i r at_i).0 ∙ sym (alone j s at_j).0;
      rising = λ i j r s at_i at_j order.
          let h = ap (λ (x : Trace). length x.path) (alone i r at_i).1 in omega (arith, h);
      early = λ i r at before. let h = ap (λ (x : Trace). length x.path) (alone i r at).1 in omega (arith, h);
      late = λ i r at behind. let h = (alone i r at).0 in absurd (omega arith);
      last = λ i r at after before. ap (λ (x : Trace). length x.path) (alone i r at).1;
      closed = λ i r at before. absurd (omega arith);
    }

-- ---- in the end all are there

module _ (t : Tree) (round next : ℕ) (traces : List Trace) (search : IsSearch t round next (length traces) traces) where
  -- from each trace on
  from_trace : (path : List (Law × List ℕ)) (i : ℕ) (r : Trace) (u : Tree) → slice_get traces i ≡ Some r →
      length r.path + length path ≤ round → after_steps path r.term ≡ Some u →
      (j : ℕ) × (s : Trace) × (slice_get traces j ≡ Some s) × (s.term ≡ u) × (length s.path ≤ length r.path + length path)
  from_trace [] i r u at small is = let e : r.term ≡ u = cc in (i, r, at, e, omega arith)
  from_trace (step ∷ path) i r u at small is =
      option_and_then_some (after_steps path) (rewritten step.0 step.1 r.term) u is
      (λ v here rest.
      let within = slice_get_within traces i r at in
      let before : i < next =
      elim (cases_lt i next) [
        | inl earlier ↦ earlier
        | inr later ↦ let h = search.last i r at (omega arith) within in absurd (omega arith)
      ] in
      let listed = search.closed i r at before step.0 step.1 v here in
      let end = from_trace path listed.0 listed.1 u listed.2 (omega arith) (ap (after_steps path) listed.3 ∙ rest) in
      (end.0, end.1, end.2, end.3, omega arith))

pub search_ends : (t : Tree) (round next : ℕ) (traces : List Trace) → IsSearch t round next (length traces) traces →
    IsClosure t round traces
search_ends t round next traces search = record {
  led = λ i r at. (search.led i r at, search.early i r at (slice_get_within traces i r at));
  all = λ path u small is.
      let root : Trace = record { term = t; path = [] } in
      let at : slice_get traces 0 ≡ Some root = slice_get-get_or traces 0 (record { term = Number 0 1; path = [] }) search.root.0
      ∙ ap (λ (r : Trace). Some r) search.root.1 in
      let found = from_trace t round next traces search path 0 root u at (omega arith) is in
      (found.0, found.1, found.2, found.3, omega arith);
  once = search.once;
  rising = search.rising;
}
