-- An automaton that follows another shows the same before each turn, and all states of its run are nice.
use Rattle.std.proofs.Common.{◌≡◌, ◌∙◌, ◌+◌, ◌*◌, ◌-◌, ◌<◌, ◌≤◌, ◌||◌, ℕ, zero, suc, Bool, true, false, inl, inr, refl, ap, sym, subst, arith, is_some}
use Rattle.std.proofs.Math.Nat.{add-mul, mul-le-mul_right}
use Rattle.std.proofs.lemmas.Bool.{cases_lt}
use Rattle.qc_runs.specs.Automaton.{Automaton, IsAutomaton, IsBefore, Rises, Same, after, as_number, before, has_ended, turns_in}
use Rattle.qc_runs.specs.Simulation.{Follows, Path}
use Rattle.qc_runs.specs.Law.Runs.{after-longer, after-more, before_is, last_of, one_before, potential, turns-more}

-- ---- paths

pub no_path : {S : Type 0} (p : Automaton S) (Nice : S → Type 0) (s : S) → Path p Nice s s 0
no_path p Nice s = record { steps = 0; is = refl; counted = refl; nice = λ k less. absurd (omega (arith, less)) }

pub one_step : {S : Type 0} (p : Automaton S) (Nice : S → Type 0) (s : S) → Nice s → Path p Nice s (p.next s) (as_number (p.turns s))
one_step p Nice s nice = record {
  steps = 1;
  is = refl;
  counted = omega arith;
  nice = λ k less. subst (λ n. Nice (after p n s)) (only k less) nice;
}
  where
    only : (k : ℕ) → k < 1 → 0 ≡ k
    only k less = omega (arith, less)

pub path-more : {S : Type 0} (p : Automaton S) (Nice : S → Type 0) (s u v : S) (m n : ℕ) → Path p Nice s u m → Path p Nice u v n →
    Path p Nice s v (m + n)
path-more p Nice s u v m n first second =
    let k = first.steps in
    record {
      steps = k + second.steps;
      is = second.is ∙ ap (after p second.steps) first.is ∙ sym (after-more p k second.steps s);
      counted =
          let rest : turns_in p second.steps (after p k s) ≡ n = sym (ap (turns_in p second.steps) first.is) ∙ second.counted in
          omega (arith, first.counted, rest, turns-more p k second.steps s);
      nice = λ j less. elim (cases_lt j k) [
        | inl early ↦ first.nice j early
        | inr late ↦ subst Nice (ap (after p (j - k)) first.is ∙ sym (after-longer p k j s late))
            (second.nice (j - k) (omega (arith, less, late)))
      ];
    }

-- ---- the target beside its source

-- After n steps of the source the target has turned as often, through nice states, and stands at a related state.
record Beside {S U : Type 0} (p : Automaton S) (q : Automaton U) (Nice : U → Type 0) (Related : S → U → Type 0) (s : S) (u : U) (n : ℕ) : Type 0 where
  to : U
  path : Path q Nice u to (turns_in p n s)
  related : Related (after p n s) to

one_on : {S U : Type 0} (p : Automaton S) (q : Automaton U) (Fine : S → Type 0) (Nice : U → Type 0) (Related : S → U → Type 0) →
    IsAutomaton p → Follows p q Fine Nice Related → (s : S) (u : U) (n : ℕ) → Fine (after p n s) → Beside p q Nice Related s u n →
    (ended turns : Bool) → has_ended p (after p n s) ≡ ended → p.turns (after p n s) ≡ turns → Beside p q Nice Related s u (suc n)
one_on p q Fine Nice Related is follows s u n fine beside true turns ended turned =
    let x = after p n s in
    let none : as_number (p.turns x) ≡ 0 = ap as_number (is.ends x ended) in
    record {
      to = beside.to;
      path = subst (Path q Nice u beside.to) (omega (arith, none)) beside.path;
      related = subst (λ y. Related y beside.to) (sym (is.stays x ended)) beside.related;
    }
one_on p q Fine Nice Related is follows s u n fine beside false false running turned =
    let x = after p n s in
    let answer = follows.quietly x beside.to beside.related fine (ap (λ b. b || p.turns x) running ∙ turned) in
    record {
      to = answer.to;
      path = subst (λ b. Path q Nice u answer.to (turns_in p n s + as_number b)) (sym turned)
          (path-more q Nice u beside.to answer.to (turns_in p n s) 0 beside.path answer.quiet);
      related = answer.related;
    }
one_on p q Fine Nice Related is follows s u n fine beside false true running turned =
    let x = after p n s in
    let answer = follows.turning x beside.to beside.related fine turned in
    let turn : Path q Nice answer.at answer.to 1 = subst (λ b. Path q Nice answer.at answer.to (as_number b + 0)) answer.turns
    (path-more q Nice answer.at (q.next answer.at) answer.to (as_number (q.turns answer.at)) 0
    (one_step q Nice answer.at answer.nice) answer.goes) in
    record {
      to = answer.to;
      path = subst (λ b. Path q Nice u answer.to (turns_in p n s + as_number b)) (sym turned)
          (path-more q Nice u beside.to answer.to (turns_in p n s) 1 beside.path
          (path-more q Nice beside.to answer.at answer.to 0 1 answer.comes turn));
      related = answer.related;
    }

beside_after : {S U : Type 0} (p : Automaton S) (q : Automaton U) (Fine : S → Type 0) (Nice : U → Type 0) (Related : S → U → Type 0) →
    IsAutomaton p → Follows p q Fine Nice Related → (s : S) (u : U) → Related s u → ((n : ℕ) → Fine (after p n s)) → (n : ℕ) →
    Beside p q Nice Related s u n
beside_after p q Fine Nice Related is follows s u related fine zero =
    record { to = u; path = no_path q Nice u; related = related }
beside_after p q Fine Nice Related is follows s u related fine (suc n) =
    one_on p q Fine Nice Related is follows s u n (fine n)
    (beside_after p q Fine Nice Related is follows s u related fine n)
    (has_ended p (after p n s)) (p.turns (after p n s)) refl refl

-- ---- what is shown

-- the target's state before a turn, and that it shows what the source's state shows
record Found {S U : Type 0} (p : Automaton S) (q : Automaton U) (u : U) (t : ℕ) (x : S) : Type 0 where
  state : U
  before : IsBefore q u t state
  shows : q.shown state ≡ p.shown x

found : {S U : Type 0} (p : Automaton S) (q : Automaton U) (Fine : S → Type 0) (Nice : U → Type 0) (Related : S → U → Type 0) →
    Follows p q Fine Nice Related → (s : S) (u : U) (t : ℕ) (x : S) (before : IsBefore p s t x) → Fine x →
    Beside p q Nice Related s u before.steps → Found p q u t x
found p q Fine Nice Related follows s u t x before fine beside =
    let related : Related x beside.to = subst (λ y. Related y beside.to) (sym before.is) beside.related in
    elim before.over [
      | inl ended ↦
          let shows = follows.shows x beside.to related in
          record {
            state = beside.to;
            before = record {
              steps = beside.path.steps;
              is = beside.path.is;
              few = omega (arith, beside.path.counted, before.few);
              over = inl (ap (λ seen. is_some seen.ending) shows ∙ ended);
            };
            shows = shows;
          }
      | inr turned ↦
          let answer = follows.turning x beside.to related fine turned.0 in
          let path = path-more q Nice u beside.to answer.at (turns_in p before.steps s) 0 beside.path answer.comes in
          record {
            state = answer.at;
            before = record {
              steps = path.steps;
              is = path.is;
              few = omega (arith, path.counted, before.few);
              over = inr (answer.turns, omega (arith, path.counted, turned.1));
            };
            shows = answer.shows;
          }
    ]

-- what follows shows the same before each turn
pub same_of : {S U : Type 0} (p : Automaton S) (q : Automaton U) (Fine : S → Type 0) (Nice : U → Type 0) (Related : S → U → Type 0)
    (most least : ℕ) (rank : S → ℕ) (rank_q : U → ℕ) → IsAutomaton p → IsAutomaton q → Rises p most rank → Rises q least rank_q →
    Follows p q Fine Nice Related → (s : S) (u : U) → Related s u → ((n : ℕ) → Fine (after p n s)) → Same p most s q least u
same_of p q Fine Nice Related most least rank rank_q is is_q rises rises_q follows s u related fine t =
    let x = before p most s t in
    let x_before : IsBefore p s t x = before_is p most rank is rises s t in
    let it = found p q Fine Nice Related follows s u t x x_before (subst Fine (sym x_before.is) (fine x_before.steps))
    (beside_after p q Fine Nice Related is follows s u related fine x_before.steps) in
    ap q.shown (one_before q is_q u t (before q least u t) it.state (before_is q least rank_q is_q rises_q u t) it.before) ∙ it.shows

-- ---- what is nice

-- the numbers of a source that hasn't ended: after so many steps its turns are more than n
enough_turns : (n turns most rank : ℕ) → suc n * most ≤ turns * most + rank → rank < most → n < turns
enough_turns n turns most rank many bound = elim (cases_lt n turns) [
  | inl less ↦ less
  | inr least ↦ absurd (omega (arith, many, bound, add-mul 1 n most, mul-le-mul_right most least))
]

turns_are_steps : {S : Type 0} (p : Automaton S) (n : ℕ) (s : S) → turns_in p n s ≤ n
turns_are_steps p zero s = omega arith
turns_are_steps p (suc n) s = omega (arith, turns_are_steps p n s, at_most_one (p.turns (after p n s)))
  where
    at_most_one : (b : Bool) → as_number b ≤ 1
    at_most_one true = omega arith
    at_most_one false = omega arith

-- all states of a run that follows are nice
pub nice_of : {S U : Type 0} (p : Automaton S) (q : Automaton U) (Fine : S → Type 0) (Nice : U → Type 0) (Related : S → U → Type 0)
    (most : ℕ) (rank : S → ℕ) → IsAutomaton p → IsAutomaton q → Rises p most rank → Follows p q Fine Nice Related → (s : S) (u : U) →
    Related s u → ((n : ℕ) → Fine (after p n s)) → (n : ℕ) → Nice (after q n u)
nice_of p q Fine Nice Related most rank is is_q rises follows s u related fine n =
    let m = suc n * most in
    let beside = beside_after p q Fine Nice Related is follows s u related fine m in
    let path = beside.path in
    elim (cases_lt n path.steps) [
      | inl less ↦ path.nice n less
      | inr long ↦ elim (potential p most rank is rises m s) [
        | inl ended ↦
            let shown : has_ended q (after q path.steps u) ≡ true =
            sym (ap (has_ended q) path.is) ∙ (ap (λ seen. is_some seen.ending) (follows.shows (after p m s) beside.to beside.related) ∙ ended) in
            subst Nice (path.is ∙ sym (last_of q is_q path.steps n u long shown))
            (follows.ended (after p m s) beside.to beside.related (fine m) ended)
        | inr few ↦ absurd (omega (
          arith,
          long,
          path.counted,
          turns_are_steps q path.steps u,
          enough_turns n (turns_in p m s) most (rank (after p m s)) few (rises.bound (after p m s)),
        ))
      ]
    ]
