-- What a source shows and what an automaton shows that simulates it: each is a front of the other, within a bound.
use Rattle.std.proofs.Common.{◌≡◌, ◌∙◌, ◌+◌, ◌*◌, ◌<◌, ◌≤◌, ◌⊎◌, ℕ, zero, suc, true, inl, inr, ap, sym, subst, arith, is_some}
use Rattle.std.proofs.Math.Nat.{add-mul, mul-le-mul_right}
use Rattle.std.proofs.lemmas.Bool.{cases_Bool, cases_lt}
use Rattle.qc_terms.specs.Observation.{Below}
use Rattle.qc_runs.specs.Automaton.{Automaton, IsAutomaton, IsBefore, after, has_ended, turns_in}
use Rattle.qc_runs.specs.Simulation.{Answers, Simulates, Starts}
use Rattle.qc_runs.specs.Law.Runs.{after-more, all_below_end, later, no_later, turns-more}

-- The target's state after n steps of the source: so many steps on, related, with few turns, and not too early.
record Stands {A S : Type 0} (source : Automaton A) (p : Automaton S) (Related : A → S → Type 0) (most : ℕ) (rank : S → ℕ) (a : A) (s : S) (n : ℕ) : Type 0 where
  steps : ℕ
  related : Related (after source n a) (after p steps s)
  few : turns_in p steps s ≤ suc n
  enough : (has_ended source (after source n a) ≡ true) ⊎ (n ≤ turns_in p steps s * most + rank (after p steps s))

-- the numbers of one step more, with a turn and without
turned : (n turns more most rank next : ℕ) → n ≤ turns * most + rank → rank < most → 0 < more → suc n ≤ (turns + more) * most + next
turned n turns more most rank next few bound some =
    omega (arith, few, bound, add-mul turns more most, mul-le-mul_right most some)

unturned : (n turns more most rank next : ℕ) → n ≤ turns * most + rank → rank < next → suc n ≤ (turns + more) * most + next
unturned n turns more most rank next few higher = omega (arith, few, higher, add-mul turns more most)

begins : {A S : Type 0} (source : Automaton A) (p : Automaton S) (Related : A → S → Type 0) (most : ℕ) (rank : S → ℕ) (a : A) (s : S) →
    Starts p Related a s → Stands source p Related most rank a s 0
begins source p Related most rank a s starts =
    record { steps = starts.steps; related = starts.related; few = starts.one; enough = inr (omega arith) }

stays_there : {A S : Type 0} (source : Automaton A) (p : Automaton S) (Related : A → S → Type 0) (most : ℕ) (rank : S → ℕ) →
    IsAutomaton source → (a : A) (s : S) (n : ℕ) → Stands source p Related most rank a s n → has_ended source (after source n a) ≡ true →
    Stands source p Related most rank a s (suc n)
stays_there source p Related most rank is a s n stands ended =
    let same : after source (suc n) a ≡ after source n a = is.stays (after source n a) ended in
    record {
      steps = stands.steps;
      related = subst (λ b. Related b (after p stands.steps s)) (sym same) stands.related;
      few = omega (arith, stands.few);
      enough = inl (ap (has_ended source) same ∙ ended);
    }

goes_on : {A S : Type 0} (source : Automaton A) (p : Automaton S) (Related : A → S → Type 0) (most : ℕ) (rank : S → ℕ) →
    ((s : S) → rank s < most) → (a : A) (s : S) (n : ℕ) (stands : Stands source p Related most rank a s n) →
    n ≤ turns_in p stands.steps s * most + rank (after p stands.steps s) →
    Answers source p Related rank (after source n a) (after p stands.steps s) → Stands source p Related most rank a s (suc n)
goes_on source p Related most rank bound a s n stands few answers =
    let k = stands.steps in
    let more = turns_in p answers.steps (after p k s) in
    let there : after p (k + answers.steps) s ≡ after p answers.steps (after p k s) = after-more p k answers.steps s in
    let turns : turns_in p (k + answers.steps) s ≡ turns_in p k s + more = turns-more p k answers.steps s in
    record {
      steps = k + answers.steps;
      related = subst (Related (after source (suc n) a)) (sym there) answers.related;
      few = omega (arith, turns, stands.few, answers.one);
      enough =
          subst
          (λ t. (has_ended source (after source (suc n) a) ≡ true) ⊎ (suc n ≤ t * most + rank (after p (k + answers.steps) s)))
          (sym turns)
          (elim (cases_lt 0 more) [
            | inl some ↦ inr (turned n (turns_in p k s) more most (rank (after p k s)) (rank (after p (k + answers.steps) s)) few
                (bound (after p k s)) some)
            | inr none ↦ elim (answers.rises (omega (arith, none))) [
              | inl ended ↦ inl ended
              | inr higher ↦ inr (unturned n (turns_in p k s) more most (rank (after p k s)) (rank (after p (k + answers.steps) s))
                  few (omega (arith, higher, ap rank there)))
            ]
          ]);
    }

-- where the target stands after each number of the source's steps
stands_after : {A S : Type 0} (source : Automaton A) (p : Automaton S) (Related : A → S → Type 0) (most : ℕ) (rank : S → ℕ) →
    IsAutomaton source → Simulates source p Related most rank → (a : A) (s : S) → Starts p Related a s → (n : ℕ) →
    Stands source p Related most rank a s n
stands_after source p Related most rank is simulates a s starts zero = begins source p Related most rank a s starts
stands_after source p Related most rank is simulates a s starts (suc n) =
    let stands = stands_after source p Related most rank is simulates a s starts n in
    elim (cases_Bool (has_ended source (after source n a))) [
      | inl ended ↦ stays_there source p Related most rank is a s n stands ended
      | inr running ↦ elim stands.enough [
        | inl ended ↦ stays_there source p Related most rank is a s n stands ended
        | inr few ↦ goes_on source p Related most rank simulates.bound a s n stands few
            (simulates.answers (after source n a) (after p stands.steps s) stands.related running)
      ]
    ]

-- what a source has shown after n steps, its simulation has shown before turn n + 2
pub source_below : {A S : Type 0} (source : Automaton A) (p : Automaton S) (Related : A → S → Type 0) (most : ℕ) (rank : S → ℕ) →
    IsAutomaton source → IsAutomaton p → Simulates source p Related most rank → (a : A) (s : S) → Starts p Related a s → (n : ℕ) (u : S) →
    IsBefore p s (n + 1) u → Below (source.shown (after source n a)) (p.shown u)
source_below source p Related most rank is is_p simulates a s starts n u before =
    let stands = stands_after source p Related most rank is simulates a s starts n in
    subst (λ shown. Below shown (p.shown u)) (simulates.shows (after source n a) (after p stands.steps s) stands.related)
    (no_later p is_p s (n + 1) u before stands.steps (omega (arith, stands.few)))

-- the numbers of a source that hasn't ended after so many steps: the simulation has turned more often
more_turns : (t turns most rank : ℕ) → suc t * most ≤ turns * most + rank → rank < most → t < turns
more_turns t turns most rank many bound = elim (cases_lt t turns) [
  | inl less ↦ less
  | inr least ↦ absurd (omega (arith, many, bound, add-mul 1 t most, mul-le-mul_right most least))
]

-- what a simulation has shown before turn t + 1, its source has shown after (t + 1) times the bound
pub code_below : {A S : Type 0} (source : Automaton A) (p : Automaton S) (Related : A → S → Type 0) (most : ℕ) (rank : S → ℕ) →
    IsAutomaton source → IsAutomaton p → Simulates source p Related most rank → (a : A) (s : S) → Starts p Related a s → (t : ℕ) (u : S) →
    IsBefore p s t u → Below (p.shown u) (source.shown (after source (suc t * most) a))
code_below source p Related most rank is is_p simulates a s starts t u before =
    let n = suc t * most in
    let stands = stands_after source p Related most rank is simulates a s starts n in
    let there = after p stands.steps s in
    let shows : p.shown there ≡ source.shown (after source n a) = simulates.shows (after source n a) there stands.related in
    subst (Below (p.shown u)) shows (elim stands.enough [
      | inl ended ↦ subst (λ v. Below (p.shown v) (p.shown there)) (sym before.is)
          (all_below_end p is_p s before.steps stands.steps (ap (λ seen. is_some seen.ending) shows ∙ ended))
      | inr few ↦ later p is_p s t u before stands.steps
          (more_turns t (turns_in p stands.steps s) most (rank there) few (simulates.bound there))
    ])
