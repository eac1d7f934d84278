-- The described machine turns in time: between two turns it stands at each instruction once at most.
use Rattle.std.proofs.Common.{◌≡◌, ◌∙◌, ◌-◌, ◌+◌, ◌*◌, ◌<◌, ◌≤◌, ◌⊎◌, ◌&&◌, ◌||◌, ℕ, zero, suc, Bool, true, false, not, inl, inr, List, [], ◌∷◌, ◌++◌, length, Option, None, Some, is_some, refl, ap, sym, subst, arith, if◌then◌else◌, nat_le, nat_lt, get_or, Contains}
use Rattle.std.proofs.lemmas.Bool.{cases_Bool, leb-false, lt-ltb, ltb-true, le-ltb, or_parts}
use Rattle.std.proofs.lemmas.List.Elements.{Contains-append_cases}
use Rattle.qc_terms.specs.declared.state.State.{State}
use Rattle.qc_terms.specs.declared.state.Event.{Event}
use Rattle.qc_terms.specs.Observation.{Below, SameEnding}
use Rattle.qc_terms.specs.Law.Runs.{below_itself}
use Rattle.qc_descr.specs.declared.description.Description.{Description}
use Rattle.qc_descr.specs.Step.{Advances, Progress, Steps, observation_of}
use Rattle.qc_runs.specs.Automaton.{IsAutomaton, IsBefore, Rises, after, has_ended, is_over}
use Rattle.qc_runs.specs.Law.Runs.{reached_within, stays_after}
use Rattle.qc_meaning.specs.MachineRuns.{IsRunFrom, StandsAtThese, counter_at, ended_at, machine_run}

clash : true ≡ false → ⊥
clash e = cc

-- ---- the automaton

grows_from : (d : Description) (p q : Progress) (ending : Option Event) → p.state.ending ≡ ending → Advances d p q → is_some ending ≡ false →
    Below (observation_of p) (observation_of q)
grows_from d p q None is on running = record { output = (_, on.output); ending = subst (λ e. SameEnding e (observation_of p) (observation_of q)) (sym is) tt }
grows_from d p q (Some event) is on running = absurd cc

is_machine_automaton : (d : Description) (s : State) (run : ℕ → Progress) → IsRunFrom d s run → IsAutomaton (machine_run run)
is_machine_automaton d s run is = record {
  stays = λ n ended. ap (λ b. if b then n else suc n) ended;
  ends = λ n ended. ap (λ b. not b && (not (ended_at run (suc n)) && nat_le (counter_at run (suc n)) (counter_at run n))) ended;
  grows = λ n. grows (ended_at run n) n refl;
}
  where
    grows : (ended : Bool) (n : ℕ) → ended_at run n ≡ ended → Below (observation_of (run n)) (observation_of (run (if ended then n else suc n)))
    grows true n is_so = below_itself (observation_of (run n))
    grows false n is_so = grows_from d (run n) (run (suc n)) (run n).state.ending refl (is.advances n) is_so

-- ---- the rank of a state: how many instructions stand before the one that it is at

abbrev count : Bool → ℕ → ℕ
count true n = suc n
count false n = n

abbrev starts_before : List ℕ → ℕ → ℕ
starts_before [] at = 0
starts_before (start ∷ starts) at = count (nat_lt start at) (starts_before starts at)

count_most : (b : Bool) (n : ℕ) → count b n ≤ suc n
count_most true n = omega arith
count_most false n = omega arith

before_most : (starts : List ℕ) (at : ℕ) → starts_before starts at ≤ length starts
before_most [] at = omega arith
before_most (start ∷ starts) at = omega (arith, before_most starts at, count_most (nat_lt start at) (starts_before starts at))

-- the one element of a list
only : (start at : ℕ) → Contains (start ∷ []) at → start ≡ at
only start at here = the_first here.0 here.1 here.2
  where
    the_first : (k : ℕ) → k < 1 → get_or (start ∷ []) k at ≡ at → start ≡ at
    the_first zero within found = found
    the_first (suc k) within found = absurd (omega (arith, within))

-- an instruction that is among them stands not before itself
before_less : (starts : List ℕ) (at : ℕ) → Contains starts at → starts_before starts at < length starts
before_less [] at here = absurd (no_element at here)
  where
    no_element : (at : ℕ) → Contains [] at → ⊥
    no_element at here = omega (arith, here.1)
before_less (start ∷ starts) at here = elim (Contains-append_cases (start ∷ []) starts at here) [
  | inl first ↦ omega (arith, before_most starts at, itself (nat_lt start at) (starts_before starts at) (not_before start at (only start at first)))
  | inr rest ↦ omega (arith, before_less starts at rest, count_most (nat_lt start at) (starts_before starts at))
]
  where
    not_before : (start at : ℕ) → start ≡ at → nat_lt start at ≡ false
    not_before start at same = le-ltb start at (omega (arith, same))

    itself : (b : Bool) (n : ℕ) → b ≡ false → count b n ≤ n
    itself true n none = absurd (clash none)
    itself false n none = omega arith

counts_more : (b c : Bool) (m n : ℕ) → (b ≡ true → c ≡ true) → m ≤ n → count b m ≤ count c n
counts_more true true m n goes least = omega (arith, least)
counts_more true false m n goes least = absurd (clash (sym (goes refl)))
counts_more false true m n goes least = omega (arith, least)
counts_more false false m n goes least = omega (arith, least)

before_grows : (starts : List ℕ) (at later : ℕ) → at < later → starts_before starts at ≤ starts_before starts later
before_grows [] at later less = omega arith
before_grows (start ∷ starts) at later less =
    counts_more (nat_lt start at) (nat_lt start later) (starts_before starts at) (starts_before starts later)
    (λ before. lt-ltb start later (omega (arith, less, ltb-true start at before))) (before_grows starts at later less)

-- a later address has more instructions before it than one that stands at an instruction
before_rises : (starts : List ℕ) (at later : ℕ) → Contains starts at → at < later → starts_before starts at < starts_before starts later
before_rises [] at later here less = absurd (omega (arith, before_less [] at here))
before_rises (start ∷ starts) at later here less = elim (Contains-append_cases (start ∷ []) starts at here) [
  | inl first ↦ one_more (nat_lt start at) (nat_lt start later) (starts_before starts at) (starts_before starts later)
      (le-ltb start at (omega (arith, only start at first))) (lt-ltb start later (omega (arith, less, only start at first)))
      (before_grows starts at later less)
  | inr rest ↦ more (nat_lt start at) (nat_lt start later) (starts_before starts at) (starts_before starts later)
      (λ before. lt-ltb start later (omega (arith, less, ltb-true start at before))) (before_rises starts at later rest less)
]
  where
    one_more : (b c : Bool) (m n : ℕ) → b ≡ false → c ≡ true → m ≤ n → count b m < count c n
    one_more true c m n none some least = absurd (clash none)
    one_more false true m n none some least = omega (arith, least)
    one_more false false m n none some least = absurd (clash (sym some))

    more : (b c : Bool) (m n : ℕ) → (b ≡ true → c ≡ true) → m < n → count b m < count c n
    more true true m n goes less = omega (arith, less)
    more true false m n goes less = absurd (clash (sym (goes refl)))
    more false true m n goes less = omega (arith, less)
    more false false m n goes less = omega (arith, less)

-- ---- turns come in time

abbrev if_running : Bool → ℕ → ℕ
if_running true n = 0
if_running false n = n

abbrev machine_rank : (ℕ → Progress) → List ℕ → ℕ → ℕ
machine_rank run starts n = if_running (ended_at run n) (starts_before starts (counter_at run n))

machine_rises : (run : ℕ → Progress) (starts : List ℕ) → StandsAtThese run starts → 0 < length starts →
    Rises (machine_run run) (length starts) (machine_rank run starts)
machine_rises run starts stands some = record {
  bound = λ n. bound (ended_at run n) n refl;
  rises = λ n on. let parts = or_parts (ended_at run n) ((machine_run run).turns n) on in
      rises (ended_at run (suc n)) n parts.0 parts.1 refl;
}
  where
    bound : (ended : Bool) (n : ℕ) → ended_at run n ≡ ended → if_running ended (starts_before starts (counter_at run n)) < length starts
    bound true n is = some
    bound false n is = before_less starts (counter_at run n) (stands n is)

    onward : (ended next back : Bool) → ended ≡ false → next ≡ false → (not ended && (not next && back)) ≡ false → back ≡ false
    onward ended next back on goes none = cc

    step_of : (n : ℕ) → ended_at run n ≡ false → (machine_run run).next n ≡ suc n
    step_of n on = ap (λ b. if b then n else suc n) on

    higher : (n : ℕ) → ended_at run n ≡ false → ended_at run (suc n) ≡ false → (machine_run run).turns n ≡ false →
        machine_rank run starts n < machine_rank run starts (suc n)
    higher n on goes none =
        let further : counter_at run n < counter_at run (suc n) =
        leb-false (counter_at run (suc n)) (counter_at run n)
        (onward (ended_at run n) (ended_at run (suc n)) (nat_le (counter_at run (suc n)) (counter_at run n)) on goes none) in
        let here : machine_rank run starts n ≡ starts_before starts (counter_at run n) =
        ap (λ b. if_running b (starts_before starts (counter_at run n))) on in
        let there : machine_rank run starts (suc n) ≡ starts_before starts (counter_at run (suc n)) =
        ap (λ b. if_running b (starts_before starts (counter_at run (suc n)))) goes in
        omega (arith, here, there, before_rises starts (counter_at run n) (counter_at run (suc n)) (stands n on) further)

    rises : (next : Bool) (n : ℕ) → ended_at run n ≡ false → (machine_run run).turns n ≡ false → ended_at run (suc n) ≡ next →
        (has_ended (machine_run run) ((machine_run run).next n) ≡ true) ⊎ (machine_rank run starts n < machine_rank run starts ((machine_run run).next n))
    rises true n on none ends = inl (ap (ended_at run) (step_of n on) ∙ ends)
    rises false n on none goes =
        inr (subst (λ m. machine_rank run starts n < machine_rank run starts m) (sym (step_of n on)) (higher n on goes none))

steps_after : (run : ℕ → Progress) (n : ℕ) → after (machine_run run) n 0 ≤ n
steps_after run zero = omega arith
steps_after run (suc n) = one_step (ended_at run (after (machine_run run) n 0)) (after (machine_run run) n 0) n (steps_after run n)
  where
    one_step : (ended : Bool) (m n : ℕ) → m ≤ n → (if ended then m else suc m) ≤ suc n
    one_step true m n least = omega (arith, least)
    one_step false m n least = omega (arith, least)

-- the state before turn t + 1 of a machine's run is reached within (t + 1) times the number of its instructions
pub machine_turns_in_time : (d : Description) (s : State) (run : ℕ → Progress) (starts : List ℕ) → IsRunFrom d s run → StandsAtThese run starts →
    (t u : ℕ) → IsBefore (machine_run run) 0 t u → u ≤ suc t * length starts
machine_turns_in_time d s run starts is stands t u before = elim (cases_Bool (ended_at run 0)) [
  | inl ended ↦
      let at_start : u ≡ 0 = before.is ∙ stays_after (machine_run run) automaton before.steps 0 ended in
      omega (arith, at_start)
  | inr on ↦
      let some : 0 < length starts = omega (arith, before_less starts (counter_at run 0) (stands 0 on)) in
      let reached =
      reached_within (machine_run run) (length starts) (machine_rank run starts) automaton (machine_rises run starts stands some) 0 t u before in
      omega (arith, reached.1, reached.2, steps_after run reached.0)
]
  where
    automaton : IsAutomaton (machine_run run)
    automaton = is_machine_automaton d s run is
