-- The runs of a described machine as runs of an automaton, so that turns are said of them as they are of code.
use Rattle.std.specs.Prelude.{ℕ, zero, suc, ◌≡◌, List, [], Bool, false, ◌&&◌, not, if◌then◌else◌, is_some, nat_le, Contains}
use Rattle.qc_terms.specs.declared.state.State.{State}
use Rattle.qc_descr.specs.declared.description.Description.{Description}
use Rattle.qc_descr.specs.Step.{Advances, Progress, observation_of}
use Rattle.qc_runs.specs.Automaton.{Automaton}

-- a run from a state: where the machine is after each number of steps
pub record IsRunFrom (d : Description) (s : State) (run : ℕ → Progress) : Type 0 where
  pub begins : run 0 ≡ record { state = s; output = [] }
  pub advances : (n : ℕ) → Advances d (run n) (run (suc n))

abbrev pub ended_at : (ℕ → Progress) → ℕ → Bool
ended_at run n = is_some (run n).state.ending

abbrev pub counter_at : (ℕ → Progress) → ℕ → ℕ
counter_at run n = (run n).state.pc

-- The states of the automaton are the numbers of steps. A run that has ended goes no further. A step is a turn if the machine
-- goes on, at an address that isn't after the present one.
abbrev pub machine_run : (ℕ → Progress) → Automaton ℕ
machine_run run = record {
  next = λ n. if ended_at run n then n else suc n;
  shown = λ n. observation_of (run n);
  turns = λ n. not (ended_at run n) && (not (ended_at run (suc n)) && nat_le (counter_at run (suc n)) (counter_at run n));
}

-- wherever the machine goes on it stands at one of these addresses
abbrev pub StandsAtThese : (ℕ → Progress) → List ℕ → Type 0
StandsAtThese run starts = (n : ℕ) → ended_at run n ≡ false → Contains starts (counter_at run n)
