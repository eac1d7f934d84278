-- A run in which jumps land at addresses follows the one in which each arrives at its own line.
use Rattle.std.proofs.Common.{◌≡◌, ◌∙◌, ◌+◌, ◌-◌, ◌<◌, ◌≤◌, ◌⊎◌, ◌&&◌, ℕ, zero, suc, Bool, true, false, not, inl, inr, refl, ap, sym, subst, arith, nat_le}
use Rattle.std.proofs.lemmas.Bool.{cases_Bool, cases_lt, le-leb, lt-leb, or_parts}
use Rattle.qc_runs.specs.Automaton.{as_number}
use Rattle.qc_runs.specs.LineMachine.{Going, IsLineMachine, LineMachine, arrival, is_done, run_of}
use Rattle.qc_runs.specs.Placing.{AreGroups, AreLines, AtSame, IsPlacing, Lands, Leads, Lines, OnlyLabels}
use Rattle.qc_runs.specs.Simulation.{Follows, Path, Quietly, Turning}
use Rattle.qc_runs.specs.Law.Followed.{no_path, one_step, path-more}
use Rattle.qc_runs.specs.Law.Lines.{onward_is_none, step_of_running, turning_runs}

clash : true ≡ false → ⊥
clash e = cc

pub only_labels_itself : (solid : ℕ → Bool) (k : ℕ) → OnlyLabels solid k k
only_labels_itself solid k = record {
  up = λ i least less. absurd (omega (arith, least, less));
  down = λ i least less. absurd (omega (arith, least, less));
}

-- ---- words

-- where the address of an entry leads, there are only labels from there to the entry
pub leads_back : (x : Lines) (at : ℕ → ℕ) → AreLines x → IsPlacing x at → (j l : ℕ) → j < x.count → x.entry j ≡ true →
    Leads x at (at j) l → OnlyLabels x.solid l j
leads_back x at are placing j l known entry leads = record {
  up = λ i least less. elim (cases_Bool (x.solid i)) [
    | inl solid ↦ absurd (omega (
      arith,
      placing.above i j less known entry solid,
      leads.is,
      placing.rises l i least (omega (arith, less, known)),
    ))
    | inr label ↦ label
  ];
  down = λ i least less. elim leads.chosen [
    | inl first ↦ elim (cases_Bool (x.solid i)) [
      | inl solid ↦ absurd (omega (
        arith,
        placing.above i l less leads.known (are.first l first.0) solid,
        leads.is,
        placing.rises j i least (omega (arith, less, leads.known)),
      ))
      | inr label ↦ label
    ]
    | inr earliest ↦ absurd (earliest.1 j (omega (arith, least, less)) refl)
  ];
}

-- a line that is no label stands before both places or after both
turn_same : (solid : ℕ → Bool) (l j k : ℕ) → OnlyLabels solid l j → solid k ≡ true → nat_le l k ≡ nat_le j k
turn_same solid l j k only is_solid = go (cases_lt k j) (cases_lt k l)
  where
    go : (k < j) ⊎ (j ≤ k) → (k < l) ⊎ (l ≤ k) → nat_le l k ≡ nat_le j k
    go (inl j_after) (inl l_after) = lt-leb l k l_after ∙ sym (lt-leb j k j_after)
    go (inl j_after) (inr l_before) = absurd (clash (sym is_solid ∙ only.up k l_before j_after))
    go (inr j_before) (inl l_after) = absurd (clash (sym is_solid ∙ only.down k j_before l_after))
    go (inr j_before) (inr l_before) = le-leb l k l_before ∙ sym (le-leb j k j_before)

-- a run at a place before a line that is no label, from which there are only labels to it
stands_before : (solid : ℕ → Bool) (l k : ℕ) → OnlyLabels solid l k → solid k ≡ true → l ≤ k
stands_before solid l k only is_solid = elim (cases_lt k l) [
  | inl after ↦ absurd (clash (sym is_solid ∙ only.down k (omega arith) after))
  | inr before ↦ before
]

-- ---- steps over labels

over_label : {D : Type 0} (m : LineMachine D) → IsLineMachine m → (k : ℕ) (d : D) → m.solid k ≡ false →
    is_done m d ≡ false → (run_of m).next (k, d) ≡ (suc k, d)
over_label m is k d label running =
    step_of_running m k d running
    ∙ ap (λ going. (arrival k going, m.act k d)) (is.labels k d label).1
    ∙ ap (λ e. (suc k, e)) (is.labels k d label).0

label_is_none : {D : Type 0} (m : LineMachine D) → IsLineMachine m → (k : ℕ) (d : D) → m.solid k ≡ false →
    (run_of m).turns (k, d) ≡ false
label_is_none m is k d label = elim (cases_Bool ((run_of m).turns (k, d))) [
  | inl turns ↦ absurd (onward_is_none k (m.goes k d) (is_done m d) (is_done m (m.act k d)) (is.labels k d label).1 turns)
  | inr quiet ↦ quiet
]

abbrev Any : {S : Type 0} → S → Type 0
Any s = Unit {0}

-- over so many labels
walk : {D : Type 0} (m : LineMachine D) → IsLineMachine m → (d : D) → is_done m d ≡ false → (l n : ℕ) →
    ((i : ℕ) → l ≤ i → i < n + l → m.solid i ≡ false) → Path (run_of m) Any (l, d) (n + l, d) 0
walk m is d running l zero labels =
    subst (λ place. Path (run_of m) Any (l, d) (place, d) 0) (sum l) (no_path (run_of m) Any (l, d))
  where
    sum : (l : ℕ) → l ≡ 0 + l
    sum l = omega arith
walk m is d running l (suc n) labels =
    let here : ℕ × _ = (n + l, d) in
    let label : m.solid (n + l) ≡ false = labels (n + l) (least n l) (less n l) in
    let step : Path (run_of m) Any here (suc n + l, d) 0 =
    subst (λ to. Path (run_of m) Any here to 0) (over_label m is (n + l) d label running ∙ ap (λ p. (p, d)) (sum n l))
    (subst (λ b. Path (run_of m) Any here ((run_of m).next here) (as_number b)) (label_is_none m is (n + l) d label)
    (one_step (run_of m) Any here tt)) in
    path-more (run_of m) Any (l, d) here (suc n + l, d) 0 0
    (walk m is d running l n (λ i low high. labels i low (further n l i high))) step
  where
    sum : (n l : ℕ) → suc (n + l) ≡ suc n + l
    sum n l = omega arith

    least : (n l : ℕ) → l ≤ n + l
    least n l = omega arith

    less : (n l : ℕ) → n + l < suc n + l
    less n l = omega arith

    further : (n l i : ℕ) → i < n + l → i < suc n + l
    further n l i high = omega (arith, high)

-- over the labels from one place to another
over_labels : {D : Type 0} (m : LineMachine D) → IsLineMachine m → (d : D) → is_done m d ≡ false → (l k : ℕ) → l ≤ k →
    OnlyLabels m.solid l k → Path (run_of m) Any (l, d) (k, d) 0
over_labels m is d running l k before only =
    subst (λ place. Path (run_of m) Any (l, d) (place, d) 0) (sum l k before)
    (walk m is d running l (k - l) (λ i low high. only.up i low (omega (arith, high, sum l k before))))
  where
    sum : (l k : ℕ) → l ≤ k → (k - l) + l ≡ k
    sum l k before = omega (arith, before)

-- ---- two ways of going on

-- lines that go on in another way
abbrev pub with_goes : {D : Type 0} → LineMachine D → (ℕ → D → Going) → LineMachine D
with_goes m goes = record { shown = m.shown; solid = m.solid; act = m.act; goes = goes }

label_passed : (solid : ℕ → Bool) (l k : ℕ) → OnlyLabels solid l k → solid k ≡ false → OnlyLabels solid l (suc k)
label_passed solid l k only label = record {
  up = λ i least less. elim (cases_lt i k) [
    | inl before ↦ only.up i least before
    | inr after ↦ subst (λ j. solid j ≡ false) (omega (arith, after, less)) label
  ];
  down = λ i least less. only.down i (omega (arith, least)) less;
}

-- What the laws below are about: a machine of lines, with another way of going on that lands where the first one goes.
record Landing {D : Type 0} (m : LineMachine D) (goes : ℕ → D → Going) (Fine : ℕ × D → Type 0) : Type 0 where
  one : IsLineMachine m
  other : IsLineMachine (with_goes m goes)
  lands : Lands m goes Fine

steps_land : {D : Type 0} (m : LineMachine D) (goes : ℕ → D → Going) (Fine : ℕ × D → Type 0) → Landing m goes Fine → (k : ℕ) (d : D) →
    Fine (k, d) → is_done m d ≡ false → AtSame m ((run_of m).next (k, d)) ((run_of (with_goes m goes)).next (k, d))
steps_land m goes Fine landing k d fine running =
    subst (λ s. AtSame m s ((run_of (with_goes m goes)).next (k, d))) (sym (step_of_running m k d running))
    (subst (AtSame m (arrival k (m.goes k d), m.act k d)) (sym (step_of_running (with_goes m goes) k d running))
    (record { equal = refl; place = λ on. landing.lands k d fine running }))

turns_land : {D : Type 0} (m : LineMachine D) (goes : ℕ → D → Going) (Fine : ℕ × D → Type 0) → Landing m goes Fine → (k : ℕ) (d : D) →
    Fine (k, d) → is_done m d ≡ false → m.solid k ≡ true → (run_of (with_goes m goes)).turns (k, d) ≡ (run_of m).turns (k, d)
turns_land m goes Fine landing k d fine running is_solid =
    ap (λ b. not (is_done m d) && (not (is_done m (m.act k d)) && b))
    (turn_same m.solid (arrival k (goes k d)) (arrival k (m.goes k d)) k (landing.lands k d fine running) is_solid)

at_label : {D : Type 0} (m : LineMachine D) (goes : ℕ → D → Going) → IsLineMachine m → (k l : ℕ) (d : D) → is_done m d ≡ false →
    OnlyLabels m.solid l k → m.solid k ≡ false → Quietly (run_of m) (run_of (with_goes m goes)) Any (AtSame m) (k, d) (l, d)
at_label m goes is k l d running only label = record {
  to = (l, d);
  quiet = no_path (run_of (with_goes m goes)) Any (l, d);
  related = subst (λ s. AtSame m s (l, d)) (sym (over_label m is k d label running))
      (record { equal = refl; place = λ on. label_passed m.solid l k only label });
}

at_solid : {D : Type 0} (m : LineMachine D) (goes : ℕ → D → Going) (Fine : ℕ × D → Type 0) → Landing m goes Fine → (k l : ℕ) (d : D) →
    Fine (k, d) → is_done m d ≡ false → OnlyLabels m.solid l k → m.solid k ≡ true → (run_of m).turns (k, d) ≡ false →
    Quietly (run_of m) (run_of (with_goes m goes)) Any (AtSame m) (k, d) (l, d)
at_solid m goes Fine landing k l d fine running only is_solid quiet =
    let n = with_goes m goes in
    let to = (run_of n).next (k, d) in
    record {
      to = to;
      quiet = path-more (run_of n) Any (l, d) (k, d) to 0 0
          (over_labels n landing.other d running l k (stands_before m.solid l k only is_solid) only)
          (subst (λ b. Path (run_of n) Any (k, d) to (as_number b)) (turns_land m goes Fine landing k d fine running is_solid ∙ quiet)
          (one_step (run_of n) Any (k, d) tt));
      related = steps_land m goes Fine landing k d fine running;
    }

turns_at : {D : Type 0} (m : LineMachine D) (goes : ℕ → D → Going) (Fine : ℕ × D → Type 0) → Landing m goes Fine → (k l : ℕ) (d : D) →
    Fine (k, d) → is_done m d ≡ false → OnlyLabels m.solid l k → m.solid k ≡ true → (run_of m).turns (k, d) ≡ true →
    Turning (run_of m) (run_of (with_goes m goes)) Any (AtSame m) (k, d) (l, d)
turns_at m goes Fine landing k l d fine running only is_solid turns =
    let n = with_goes m goes in
    let to = (run_of n).next (k, d) in
    record {
      at = (k, d);
      comes = over_labels n landing.other d running l k (stands_before m.solid l k only is_solid) only;
      shows = refl;
      turns = turns_land m goes Fine landing k d fine running is_solid ∙ turns;
      nice = tt;
      to = to;
      goes = no_path (run_of n) Any to;
      related = steps_land m goes Fine landing k d fine running;
    }

-- a label is answered by no step, and another line by steps over labels and its own
quietly_at : {D : Type 0} (m : LineMachine D) (goes : ℕ → D → Going) (Fine : ℕ × D → Type 0) → Landing m goes Fine → (k l : ℕ) (d : D) →
    Fine (k, d) → is_done m d ≡ false → OnlyLabels m.solid l k → (run_of m).turns (k, d) ≡ false →
    Quietly (run_of m) (run_of (with_goes m goes)) Any (AtSame m) (k, d) (l, d)
quietly_at m goes Fine landing k l d fine running only quiet = elim (cases_Bool (m.solid k)) [
  | inl is_solid ↦ at_solid m goes Fine landing k l d fine running only is_solid quiet
  | inr label ↦ at_label m goes landing.one k l d running only label
]

-- what turns is no label
turning_is_solid : {D : Type 0} (m : LineMachine D) → IsLineMachine m → (k : ℕ) (d : D) → (run_of m).turns (k, d) ≡ true → m.solid k ≡ true
turning_is_solid m is k d turns = elim (cases_Bool (m.solid k)) [
  | inl is_solid ↦ is_solid
  | inr label ↦ absurd (clash (sym turns ∙ label_is_none m is k d label))
]

-- a run that goes on in the other way follows the first one
pub placed_follows : {D : Type 0} (m : LineMachine D) (goes : ℕ → D → Going) (Fine : ℕ × D → Type 0) → IsLineMachine m →
    IsLineMachine (with_goes m goes) → Lands m goes Fine → Follows (run_of m) (run_of (with_goes m goes)) Fine Any (AtSame m)
placed_follows m goes Fine one other lands =
    let landing : Landing m goes Fine = record { one = one; other = other; lands = lands } in
    let n = with_goes m goes in
    record {
      shows = λ s u at. ap m.shown at.equal;
      quietly = λ s u at fine on.
          let parts = or_parts (is_done m s.1) ((run_of m).turns s) on in
          subst (λ d. Quietly (run_of m) (run_of n) Any (AtSame m) s (u.0, d)) (sym at.equal)
          (quietly_at m goes Fine landing s.0 u.0 s.1 fine parts.0 (at.place parts.0) parts.1);
      turning = λ s u at fine turns.
          let running = turning_runs (is_done m s.1) (is_done m (m.act s.0 s.1)) (nat_le (arrival s.0 (m.goes s.0 s.1)) s.0) turns in
          subst (λ d. Turning (run_of m) (run_of n) Any (AtSame m) s (u.0, d)) (sym at.equal)
          (turns_at m goes Fine landing s.0 u.0 s.1 fine running (at.place running) (turning_is_solid m one s.0 s.1 turns) turns);
      ended = λ s u at fine done. tt;
    }

-- ---- placings of code that groups other code

-- Addresses of the groups' lines give addresses to the lines that they are groups of.
pub pulled_back : (x y : Lines) (start at : ℕ → ℕ) → AreGroups x y start → IsPlacing y at → IsPlacing x (λ i. at (start i))
pulled_back x y start at groups placing = record {
  rises = λ i j least known. placing.rises (start i) (start j) (groups.rises i j least) (groups.known j known);
  above = λ i j less known entry solid.
      let between = groups.solids i j less known entry solid in
      let in_range = groups.known j known in
      let first : at (start i) ≤ at between.0 =
      placing.rises (start i) between.0 between.1 (omega (arith, between.2, in_range)) in
      let second : at between.0 < at (start j) =
      placing.above between.0 (start j) between.2 in_range (groups.entries j known entry) between.3 in
      omega (arith, first, second);
}
