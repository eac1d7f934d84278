-- Where words lead: to a line between which and the one that has the address there are only labels.
use Rattle.std.proofs.Common.{◌≡◌, ◌≢◌, ◌∙◌, ◌<◌, ◌≤◌, ◌&&◌, ◌||◌, ℕ, zero, suc, length, Bool, true, false, not, Option, None, Some, slice_get, nat_eq, nat_lt, if◌then◌else◌, inl, inr, refl, ap, sym, subst, arith, is_some}
use Rattle.std.proofs.lemmas.Bool.{and_parts, cases_lt, eq-eqb, eqb-true, ltb-false, ltb-true}
use Rattle.qc_terms.specs.declared.state.Event.{Event}
use Rattle.qc_descr.specs.declared.description.Description.{Description}
use Rattle.qc_runs.specs.LineMachine.{arrival}
use Rattle.qc_runs.specs.Placing.{AreLines, Lands, Leads, OnlyLabels}
use Rattle.qc_runs.specs.Law.Placed.{leads_back, only_labels_itself}
use Rattle.qc_meaning.specs.Aimed.{IsAimed}
use Rattle.qc_meaning.specs.Code.{Flat, after_call, aim_at, first_at, solid_at}
use Rattle.qc_meaning.specs.Landing.{IsPlacingOf, begins_at, first_where, has_address, landing, last_where, lines_of, or_first}
use Rattle.qc_meaning.specs.Runs.{aimed_place, goes_by_aim, goes_by_word, jump_of, lines_by_aim}

clash : true ≡ false → ⊥
clash e = cc

-- ---- the last and the first number that passes a test

abbrev LastOf : (ℕ → Bool) → ℕ → Option ℕ → Type 0
LastOf test n None = (j : ℕ) → j < n → test j ≡ false
LastOf test n (Some l) = (l < n) × (test l ≡ true) × ((j : ℕ) → l < j → j < n → test j ≡ false)

last_is : (test : ℕ → Bool) (n : ℕ) → LastOf test n (last_where test n)
last_is test zero = λ j less. absurd (omega (arith, less))
last_is test (suc n) = go (test n) refl (last_where test n) (last_is test n)
  where
    none : (below : (j : ℕ) → j < n → test j ≡ false) → test n ≡ false → (j : ℕ) → j < suc n → test j ≡ false
    none below here j less = elim (cases_lt j n) [
      | inl before ↦ below j before
      | inr same ↦ subst (λ i. test i ≡ false) (omega (arith, same, less)) here
    ]

    go : (b : Bool) → test n ≡ b → (rest : Option ℕ) → LastOf test n rest → LastOf test (suc n) (if b then Some n else rest)
    go true here rest below = (omega arith, here, λ j after less. absurd (omega (arith, after, less)))
    go false here None below = none below here
    go false here (Some l) below = (
      omega (arith, below.0),
      below.1,
      λ j after less. elim (cases_lt j n) [
        | inl before ↦ below.2 j after before
        | inr same ↦ subst (λ i. test i ≡ false) (omega (arith, same, less)) here
      ],
    )

record FirstOf (test : ℕ → Bool) (n m : ℕ) : Type 0 where
  most : m ≤ n
  before : (j : ℕ) → j < m → test j ≡ false
  here : m < n → test m ≡ true

first_is : (test : ℕ → Bool) (n : ℕ) → FirstOf test n (first_where test n)
first_is test zero = record {
  most = omega arith;
  before = λ j less. absurd (omega (arith, less));
  here = λ less. absurd (omega (arith, less));
}
first_is test (suc n) = go (first_where test n) (first_is test n) (nat_lt (first_where test n) n) refl (test n) refl
  where
    go : (m : ℕ) → FirstOf test n m → (found : Bool) → nat_lt m n ≡ found → (b : Bool) → test n ≡ b →
        FirstOf test (suc n) (if found then m else (if b then n else suc n))
    go m first true found b here = record {
      most = omega (arith, first.most);
      before = first.before;
      here = λ less. first.here (ltb-true m n found);
    }
    go m first false none true here = record {
      most = omega arith;
      before = λ j less. first.before j (omega (arith, less, first.most, ltb-false m n none));
      here = λ less. here;
    }
    go m first false none false here = record {
      most = omega arith;
      before = λ j less. elim (cases_lt j n) [
        | inl before ↦ first.before j (omega (arith, before, first.most, ltb-false m n none))
        | inr same ↦ subst (λ i. test i ≡ false) (omega (arith, same, less)) here
      ];
      here = λ less. absurd (omega (arith, less));
    }

-- ---- landing

-- no procedure begins at the address
no_begin : (x : Flat) (at : ℕ → ℕ) (word j : ℕ) → begins_at x at word j ≡ false → first_at x j ≡ true → at j ≢ word
no_begin x at word j none first same =
    let equal : nat_eq (at j) word ≡ true = eq-eqb (at j) word same in
    let both : true ≡ false = sym (ap (λ b. b && nat_eq (at j) word) first ∙ equal) ∙ none in
    clash both

leads_to : (d : Description) (x : Flat) (at : ℕ → ℕ) (place : ℕ) → place < length x.lines →
    (last : Option ℕ) → LastOf (begins_at x at (at place)) (length x.lines) last →
    (first : ℕ) → FirstOf (has_address at (at place)) (length x.lines) first →
    Leads (lines_of d x) at (at place) (or_first first last)
leads_to d x at place known None none first is =
    let below : first < length x.lines = elim (cases_lt first (length x.lines)) [
      | inl less ↦ less
      | inr all ↦ absurd (clash (sym (eq-eqb (at place) (at place) refl) ∙ is.before place (omega (arith, known, all))))
    ] in
    record {
      known = below;
      is = eqb-true (at first) (at place) (is.here below);
      chosen = inr (
        λ j less begins. no_begin x at (at place) j (none j less) begins,
        λ j less same. clash (sym (eq-eqb (at j) (at place) same) ∙ is.before j less),
      );
    }
leads_to d x at place known (Some l) last first is =
    let both = and_parts (first_at x l) (nat_eq (at l) (at place)) last.1 in
    record {
      known = last.0;
      is = eqb-true (at l) (at place) both.1;
      chosen = inl (both.0, λ j after less begins. no_begin x at (at place) j (last.2 j after less) begins);
    }

-- where some line has the address, the word leads to the line where it lands
landing_leads : (d : Description) (x : Flat) (at : ℕ → ℕ) (place : ℕ) → place < length x.lines →
    Leads (lines_of d x) at (at place) (landing x at (at place))
landing_leads d x at place known =
    leads_to d x at place known
    (last_where (begins_at x at (at place)) (length x.lines)) (last_is (begins_at x at (at place)) (length x.lines))
    (first_where (has_address at (at place)) (length x.lines)) (first_is (has_address at (at place)) (length x.lines))

-- ---- jumps

are_lines : (d : Description) (x : Flat) → AreLines (lines_of d x)
are_lines d x = record { first = λ j first. go (not (solid_at x j)) (first_at x j) (after_call d.link x j) first }
  where
    go : (label first call : Bool) → first ≡ true → (label || (first || call)) ≡ true
    go true first call is = refl
    go false first call is = ap (λ b. b || call) is

pub no_ending : (e : Option Event) → is_some e ≡ false → e ≡ None
no_ending None on = refl
no_ending (Some event) on = absurd (clash on)

-- where words are the addresses of the places to which lines jump by their text, they lead there, but for labels
pub words_land : (d : Description) (x : Flat) (at : ℕ → ℕ) → IsPlacingOf d x at →
    Lands (lines_by_aim d x at) (λ k r. goes_by_word x at (jump_of d x at k (slice_get x.lines k) r)) (λ s. s.1.machine.ending ≡ None → IsAimed d x at s)
words_land d x at placing k r aimed running = go (jump_of d x at k (slice_get x.lines k) r) refl
  where
    go : (jump : Option ℕ) → jump_of d x at k (slice_get x.lines k) r ≡ jump →
        OnlyLabels (solid_at x) (arrival k (goes_by_word x at jump)) (arrival k (goes_by_aim x k r.calls jump))
    go None is = only_labels_itself (solid_at x) (suc k)
    go (Some word) is =
        let jump = aimed (no_ending r.machine.ending running) word is in
        let place = aimed_place x (aim_at x k) r.calls in
        subst (λ w. OnlyLabels (solid_at x) (landing x at w) place) (sym jump.address)
        (leads_back (lines_of d x) at (are_lines d x) placing.placing place (landing x at (at place)) jump.known jump.entry
        (landing_leads d x at place jump.known))
