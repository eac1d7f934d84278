-- How runs add up, and what is shown before each turn.
use Rattle.std.proofs.Common.{◌≡◌, ◌∙◌, ◌+◌, ◌*◌, ◌-◌, ◌<◌, ◌≤◌, ◌⊎◌, ◌||◌, ℕ, zero, suc, Bool, true, false, inl, inr, refl, ap, sym, subst, arith, if◌then◌else◌}
use Rattle.std.proofs.Math.Nat.{add-mul, mul-le-mul_right}
use Rattle.std.proofs.lemmas.Bool.{cases_lt, or_cases, or_parts}
use Rattle.qc_terms.specs.Observation.{Below}
use Rattle.qc_terms.specs.Law.Runs.{below_itself, below_trans}
use Rattle.qc_runs.specs.Automaton.{Automaton, IsAutomaton, IsBefore, Rises, after, as_number, before, has_ended, is_over, settled, turns_in}

-- ---- steps and turns add up

plus-zero : (m : ℕ) → m + 0 ≡ m
plus-zero m = omega arith

plus-suc : (m n : ℕ) → m + suc n ≡ suc (m + n)
plus-suc m n = omega arith

pub after-more : {S : Type 0} (p : Automaton S) (m n : ℕ) (s : S) → after p (m + n) s ≡ after p n (after p m s)
after-more p m zero s = ap (λ k. after p k s) (plus-zero m)
after-more p m (suc n) s = ap (λ k. after p k s) (plus-suc m n) ∙ ap p.next (after-more p m n s)

pub turns-more : {S : Type 0} (p : Automaton S) (m n : ℕ) (s : S) →
    turns_in p (m + n) s ≡ turns_in p m s + turns_in p n (after p m s)
turns-more p m zero s = ap (λ k. turns_in p k s) (plus-zero m) ∙ sym (plus-zero (turns_in p m s))
turns-more p m (suc n) s =
    let step : turns_in p (m + suc n) s ≡ turns_in p (m + n) s + as_number (p.turns (after p (m + n) s)) =
    ap (λ k. turns_in p k s) (plus-suc m n) in
    let last : as_number (p.turns (after p (m + n) s)) ≡ as_number (p.turns (after p n (after p m s))) =
    ap (λ u. as_number (p.turns u)) (after-more p m n s) in
    omega (arith, step, last, turns-more p m n s)

-- one step, and then n others
pub after-next : {S : Type 0} (p : Automaton S) (n : ℕ) (s : S) → after p n (p.next s) ≡ after p (suc n) s
after-next p zero s = refl
after-next p (suc n) s = ap p.next (after-next p n s)

pub turns-next : {S : Type 0} (p : Automaton S) (n : ℕ) (s : S) →
    turns_in p (suc n) s ≡ as_number (p.turns s) + turns_in p n (p.next s)
turns-next p zero s = omega arith
turns-next p (suc n) s =
    let last : as_number (p.turns (after p n (p.next s))) ≡ as_number (p.turns (after p (suc n) s)) =
    ap (λ u. as_number (p.turns u)) (after-next p n s) in
    omega (arith, last, turns-next p n s)

-- a longer run is a run, and then the rest of the steps
pub after-longer : {S : Type 0} (p : Automaton S) (m n : ℕ) (s : S) → m ≤ n → after p n s ≡ after p (n - m) (after p m s)
after-longer p m n s most =
    ap (λ k. after p k s) (the_sum m n most) ∙ after-more p m (n - m) s
  where
    the_sum : (m n : ℕ) → m ≤ n → n ≡ m + (n - m)
    the_sum m n most = omega (arith, most)

pub turns-longer : {S : Type 0} (p : Automaton S) (m n : ℕ) (s : S) → m ≤ n → turns_in p m s ≤ turns_in p n s
turns-longer p m n s most = omega (arith, ap (λ k. turns_in p k s) (the_sum m n most), turns-more p m (n - m) s)
  where
    the_sum : (m n : ℕ) → m ≤ n → n ≡ m + (n - m)
    the_sum m n most = omega (arith, most)

-- ---- ends and turns

not_ended : {S : Type 0} (p : Automaton S) (s : S) → is_over p s ≡ false → has_ended p s ≡ false
not_ended p s none = (or_parts (has_ended p s) (p.turns s) none).0

-- a state that has ended stays
pub stays_after : {S : Type 0} (p : Automaton S) → IsAutomaton p → (n : ℕ) (s : S) → has_ended p s ≡ true → after p n s ≡ s
stays_after p is zero s ended = refl
stays_after p is (suc n) s ended = ap p.next (stays_after p is n s ended) ∙ is.stays s ended

-- a longer run shows more
pub shows_after : {S : Type 0} (p : Automaton S) → IsAutomaton p → (n : ℕ) (s : S) → Below (p.shown s) (p.shown (after p n s))
shows_after p is zero s = below_itself (p.shown s)
shows_after p is (suc n) s =
    below_trans (p.shown s) (p.shown (after p n s)) (p.shown (after p (suc n) s)) (shows_after p is n s) (is.grows (after p n s))

pub later_shows : {S : Type 0} (p : Automaton S) → IsAutomaton p → (m n : ℕ) (s : S) → m ≤ n →
    Below (p.shown (after p m s)) (p.shown (after p n s))
later_shows p is m n s most =
    subst (λ u. Below (p.shown (after p m s)) (p.shown u)) (sym (after-longer p m n s most))
    (shows_after p is (n - m) (after p m s))

-- a state that has ended is the last one of each longer run
pub last_of : {S : Type 0} (p : Automaton S) → IsAutomaton p → (m n : ℕ) (s : S) → m ≤ n → has_ended p (after p m s) ≡ true →
    after p n s ≡ after p m s
last_of p is m n s most ended = after-longer p m n s most ∙ stays_after p is (n - m) (after p m s) ended

-- after a state that turns, a longer run has a turn more
turns_beyond : {S : Type 0} (p : Automaton S) (m n : ℕ) (s : S) → m < n → p.turns (after p m s) ≡ true →
    suc (turns_in p m s) ≤ turns_in p n s
turns_beyond p m n s less turns =
    let one : as_number (p.turns (after p m s)) ≡ 1 = ap as_number turns in
    omega (arith, one, turns-longer p (suc m) n s less)

-- ---- turns come in time

-- the numbers of one step more: at a turn the rank falls by less than the bound, and else it rises
turns_once : (n turns most rank next : ℕ) → n ≤ turns * most + rank → rank < most → suc n ≤ (turns + 1) * most + next
turns_once n turns most rank next few bound = omega (arith, few, bound, add-mul turns 1 most)

goes_on : (n turns most rank next : ℕ) → n ≤ turns * most + rank → rank < next → suc n ≤ (turns + 0) * most + next
goes_on n turns most rank next few rises = omega (arith, few, rises, add-mul turns 0 most)

-- one step more of a run that is at a state
one_more : {S : Type 0} (p : Automaton S) (most : ℕ) (rank : S → ℕ) → IsAutomaton p → Rises p most rank → (n t : ℕ) (u : S)
    (ended turns : Bool) → has_ended p u ≡ ended → p.turns u ≡ turns → n ≤ t * most + rank u →
    (has_ended p (p.next u) ≡ true) ⊎ (suc n ≤ (t + as_number turns) * most + rank (p.next u))
one_more p most rank is rises n t u true turns ended turned few = inl (ap (has_ended p) (is.stays u ended) ∙ ended)
one_more p most rank is rises n t u false true running turned few =
    inr (turns_once n t most (rank u) (rank (p.next u)) few (rises.bound u))
one_more p most rank is rises n t u false false running turned few =
    elim (rises.rises u (ap (λ b. b || p.turns u) running ∙ turned)) [
      | inl ended ↦ inl ended
      | inr higher ↦ inr (goes_on n t most (rank u) (rank (p.next u)) few higher)
    ]

-- the one fact behind all bounds: a run that hasn't ended has at most so many steps
pub potential : {S : Type 0} (p : Automaton S) (most : ℕ) (rank : S → ℕ) → IsAutomaton p → Rises p most rank → (n : ℕ) (s : S) →
    (has_ended p (after p n s) ≡ true) ⊎ (n ≤ turns_in p n s * most + rank (after p n s))
potential p most rank is rises zero s = inr (omega arith)
potential p most rank is rises (suc n) s = elim (potential p most rank is rises n s) [
  | inl ended ↦ inl (ap (has_ended p) (is.stays (after p n s) ended) ∙ ended)
  | inr few ↦ one_more p most rank is rises n (turns_in p n s) (after p n s) (has_ended p (after p n s)) (p.turns (after p n s)) refl refl few
]

-- ---- the state before a turn

-- a state that is over, so many steps on and with no turn on the way
record Settles {S : Type 0} (p : Automaton S) (s u : S) : Type 0 where
  steps : ℕ
  is : u ≡ after p steps s
  none : turns_in p steps s ≡ 0
  over : (has_ended p u ≡ true) ⊎ (p.turns u ≡ true)

at_once : {S : Type 0} (p : Automaton S) (s : S) → is_over p s ≡ true → Settles p s s
at_once p s over =
    record { steps = 0; is = refl; none = refl; over = or_cases (has_ended p s) (p.turns s) over }

one_step_on : {S : Type 0} (p : Automaton S) (s u : S) → is_over p s ≡ false → Settles p (p.next s) u → Settles p s u
one_step_on p s u on rest = record {
  steps = suc rest.steps;
  is = rest.is ∙ after-next p rest.steps s;
  none =
      let quiet : as_number (p.turns s) ≡ 0 = ap as_number (or_parts (has_ended p s) (p.turns s) on).1 in
      omega (arith, quiet, rest.none, turns-next p rest.steps s);
  over = rest.over;
}

-- what is left of the bound, after a step that is neither a turn nor an end
left_after : {S : Type 0} (p : Automaton S) (most : ℕ) (rank : S → ℕ) → Rises p most rank → (n : ℕ) (s : S) → is_over p s ≡ false →
    (has_ended p s ≡ true) ⊎ (most ≤ suc n + rank s) → (has_ended p (p.next s) ≡ true) ⊎ (most ≤ n + rank (p.next s))
left_after p most rank rises n s on (inl ended) = absurd (clash (sym ended ∙ not_ended p s on))
  where
    clash : true ≡ false → ⊥
    clash e = cc
left_after p most rank rises n s on (inr enough) = elim (rises.rises s on) [
  | inl ended ↦ inl ended
  | inr higher ↦ inr (omega (arith, enough, higher))
]

settles : {S : Type 0} (p : Automaton S) (most : ℕ) (rank : S → ℕ) → Rises p most rank → (n : ℕ) (s : S) →
    (has_ended p s ≡ true) ⊎ (most ≤ n + rank s) → Settles p s (settled p n s)
settles p most rank rises zero s (inl ended) = at_once p s (ap (λ b. b || p.turns s) ended)
settles p most rank rises zero s (inr enough) = absurd (omega (arith, enough, rises.bound s))
settles p most rank rises (suc n) s enough = go (is_over p s) refl (settles p most rank rises n (p.next s))
  where
    go : (over : Bool) → is_over p s ≡ over →
        ((has_ended p (p.next s) ≡ true) ⊎ (most ≤ n + rank (p.next s)) → Settles p (p.next s) (settled p n (p.next s))) →
        Settles p s (if over then s else settled p n (p.next s))
    go true over later = at_once p s over
    go false on later = one_step_on p s (settled p n (p.next s)) on (later (left_after p most rank rises n s on enough))

-- the first state, and then the one after each turn
first_before : {S : Type 0} (p : Automaton S) (s u : S) → Settles p s u → IsBefore p s 0 u
first_before p s u settles = record {
  steps = settles.steps;
  is = settles.is;
  few = omega (arith, settles.none);
  over = elim settles.over [ inl ended ↦ inl ended | inr turns ↦ inr (turns, settles.none) ];
}

after_the_end : {S : Type 0} (p : Automaton S) → IsAutomaton p → (s : S) (t : ℕ) (u v : S) → IsBefore p s t u → Settles p (p.next u) v →
    has_ended p u ≡ true → IsBefore p s (suc t) v
after_the_end p is s t u v before settles ended =
    let same : v ≡ u = settles.is ∙ ap (after p settles.steps) (is.stays u ended) ∙ stays_after p is settles.steps u ended in
    record {
      steps = before.steps;
      is = same ∙ before.is;
      few = omega (arith, before.few);
      over = inl (ap (has_ended p) same ∙ ended);
    }

after_a_turn : {S : Type 0} (p : Automaton S) (s : S) (t : ℕ) (u v : S) (before : IsBefore p s t u) → Settles p (p.next u) v →
    p.turns u ≡ true → turns_in p before.steps s ≡ t → IsBefore p s (suc t) v
after_a_turn p s t u v before settles turned count =
    let n = before.steps in
    let there : p.next u ≡ after p (suc n) s = ap p.next before.is in
    let one : as_number (p.turns (after p n s)) ≡ 1 = ap as_number (sym (ap p.turns before.is) ∙ turned) in
    let quiet : turns_in p settles.steps (after p (suc n) s) ≡ 0 =
    sym (ap (turns_in p settles.steps) there) ∙ settles.none in
    let turns : turns_in p (suc n + settles.steps) s ≡ suc t =
    omega (arith, count, one, quiet, turns-more p (suc n) settles.steps s) in
    record {
      steps = suc n + settles.steps;
      is = settles.is ∙ ap (after p settles.steps) there ∙ sym (after-more p (suc n) settles.steps s);
      few = omega (arith, turns);
      over = elim settles.over [ inl ended ↦ inl ended | inr turns_next ↦ inr (turns_next, turns) ];
    }

next_before : {S : Type 0} (p : Automaton S) → IsAutomaton p → (s : S) (t : ℕ) (u v : S) → IsBefore p s t u → Settles p (p.next u) v →
    IsBefore p s (suc t) v
next_before p is s t u v before settles = elim before.over [
  | inl ended ↦ after_the_end p is s t u v before settles ended
  | inr turned ↦ after_a_turn p s t u v before settles turned.0 turned.1
]

pub before_is : {S : Type 0} (p : Automaton S) (most : ℕ) (rank : S → ℕ) → IsAutomaton p → Rises p most rank → (s : S) (t : ℕ) →
    IsBefore p s t (before p most s t)
before_is p most rank is rises s zero = first_before p s (settled p most s) (settles p most rank rises most s (inr (omega arith)))
before_is p most rank is rises s (suc t) =
    let u = before p most s t in
    next_before p is s t u (settled p most (p.next u)) (before_is p most rank is rises s t)
    (settles p most rank rises most (p.next u) (inr (omega arith)))

-- A longer run beside the state before a turn: it is that state where the run has ended there, and else it has turned more.
beyond : {S : Type 0} (p : Automaton S) → IsAutomaton p → (s : S) (t : ℕ) (u : S) (before : IsBefore p s t u) (n : ℕ) → before.steps < n →
    (after p n s ≡ u) ⊎ (t < turns_in p n s)
beyond p is s t u before n more = elim before.over [
  | inl ended ↦ inl (
      last_of p is before.steps n s (omega (arith, more)) (sym (ap (has_ended p) before.is) ∙ ended) ∙ sym before.is
      )
  | inr turned ↦ inr (omega (
    arith,
    turned.1,
    turns_beyond p before.steps n s more (sym (ap p.turns before.is) ∙ turned.0),
  ))
]

-- two states before one turn, of which the second is further on
same_before : {S : Type 0} (p : Automaton S) → IsAutomaton p → (s : S) (t : ℕ) (u v : S) (first : IsBefore p s t u)
    (second : IsBefore p s t v) → first.steps < second.steps → u ≡ v
same_before p is s t u v first second less = elim (beyond p is s t u first second.steps less) [
  | inl same ↦ sym (second.is ∙ same)
  | inr many ↦ absurd (omega (arith, many, second.few))
]

-- there is one state before a turn
pub one_before : {S : Type 0} (p : Automaton S) → IsAutomaton p → (s : S) (t : ℕ) (u v : S) → IsBefore p s t u → IsBefore p s t v → u ≡ v
one_before p is s t u v first second = elim (cases_lt first.steps second.steps) [
  | inl less ↦ same_before p is s t u v first second less
  | inr least ↦ elim (cases_lt second.steps first.steps) [
    | inl less ↦ sym (same_before p is s t v u second first less)
    | inr most ↦ first.is ∙ ap (λ n. after p n s) (omega (arith, least, most)) ∙ sym second.is
  ]
]

-- after at most t turns no more is shown than before turn t + 1
pub no_later : {S : Type 0} (p : Automaton S) → IsAutomaton p → (s : S) (t : ℕ) (u : S) → IsBefore p s t u → (n : ℕ) →
    turns_in p n s ≤ t → Below (p.shown (after p n s)) (p.shown u)
no_later p is s t u before n few = elim (cases_lt before.steps n) [
  | inl less ↦ elim (beyond p is s t u before n less) [
    | inl same ↦ subst (λ v. Below (p.shown (after p n s)) (p.shown v)) same (below_itself (p.shown (after p n s)))
    | inr many ↦ absurd (omega (arith, many, few))
  ]
  | inr most ↦ subst (λ v. Below (p.shown (after p n s)) (p.shown v)) (sym before.is) (later_shows p is n before.steps s most)
]

-- after more turns no less is shown
pub later : {S : Type 0} (p : Automaton S) → IsAutomaton p → (s : S) (t : ℕ) (u : S) → IsBefore p s t u → (n : ℕ) →
    t < turns_in p n s → Below (p.shown u) (p.shown (after p n s))
later p is s t u before n many = elim (cases_lt n before.steps) [
  | inl less ↦ absurd (omega (arith, many, before.few, turns-longer p n before.steps s (omega (arith, less))))
  | inr most ↦ subst (λ v. Below (p.shown v) (p.shown (after p n s))) (sym before.is) (later_shows p is before.steps n s most)
]

-- what is shown is below what a run that has ended shows
pub all_below_end : {S : Type 0} (p : Automaton S) → IsAutomaton p → (s : S) (m n : ℕ) → has_ended p (after p n s) ≡ true →
    Below (p.shown (after p m s)) (p.shown (after p n s))
all_below_end p is s m n ended = elim (cases_lt n m) [
  | inl less ↦ subst (λ v. Below (p.shown v) (p.shown (after p n s))) (sym (last_of p is n m s (omega (arith, less)) ended))
      (below_itself (p.shown (after p n s)))
  | inr most ↦ later_shows p is m n s most
]

-- the numbers of a run that hasn't ended and has turned at most t times
within : (n turns t most rank : ℕ) → n ≤ turns * most + rank → rank < most → turns ≤ t → n < suc t * most
within n turns t most rank few bound least =
    omega (arith, few, bound, mul-le-mul_right most least, add-mul 1 t most)

-- the state before turn t + 1 is reached within (t + 1) times the bound
pub reached_within : {S : Type 0} (p : Automaton S) (most : ℕ) (rank : S → ℕ) → IsAutomaton p → Rises p most rank → (s : S) (t : ℕ) (u : S) →
    IsBefore p s t u → (n : ℕ) × (n ≤ suc t * most) × (u ≡ after p n s)
reached_within p most rank is rises s t u before = elim (cases_lt (suc t * most) before.steps) [
  | inl more ↦ elim (potential p most rank is rises (suc t * most) s) [
    | inl ended ↦ (suc t * most, omega arith, before.is ∙ last_of p is (suc t * most) before.steps s (omega (arith, more)) ended)
    | inr few ↦ absurd (omega (
      arith,
      within (suc t * most) (turns_in p (suc t * most) s) t most
          (rank (after p (suc t * most) s)) few (rises.bound (after p (suc t * most) s))
          (omega (arith, before.few, turns-longer p (suc t * most) before.steps s (omega (arith, more)))),
    ))
  ]
  | inr most_steps ↦ (before.steps, most_steps, before.is)
]
