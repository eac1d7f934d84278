-- Processes, which go on step by step, each step with an event, and what can be seen of their runs.
use Rattle.std.specs.Prelude.{ℕ, zero, suc, ◌≡◌, List, [], ◌++◌, Option}
use Rattle.qc_terms.specs.declared.state.Event.{Event}
use Rattle.qc_terms.specs.Observation.{Observation, words_of}

pub record Process : Type 1 where
  pub State : Type 0
  -- a step from one state to another, with its event
  pub Step : State → State → Event → Type 0
  -- the event with which a process in this state is over, or none while it goes on
  pub ending : State → Option Event

-- the state to which a run has come, and the words that it has put out
pub record Reached (p : Process) : Type 0 where
  pub state : p.State
  pub output : List ℕ

-- one step more
pub record StepsOn (p : Process) (from to : Reached p) : Type 0 where
  pub event : Event
  pub step : p.Step from.state to.state event
  pub output : to.output ≡ from.output ++ words_of event

-- where a run is after n steps from a state
abbrev pub Reaches : (p : Process) → p.State → ℕ → Reached p → Type 0
Reaches p s zero r = r ≡ record { state = s; output = [] }
Reaches p s (suc n) r = (q : Reached p) × Reaches p s n q × StepsOn p q r

-- what can be seen of a run that has come this far
abbrev pub seen_at : (p : Process) → Reached p → Observation
seen_at p r = record { output = r.output; ending = p.ending r.state }

-- a run from a state shows this in n steps
pub record ShowsIn (p : Process) (s : p.State) (n : ℕ) (seen : Observation) : Type 0 where
  pub reached : Reached p
  pub reaches : Reaches p s n reached
  pub is : seen ≡ seen_at p reached
