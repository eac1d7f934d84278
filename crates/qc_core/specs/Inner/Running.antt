-- What the parts of a run of a process come to, whose lines are put as its events come.
use Rattle.std.specs.Prelude.{ℕ, ◌≡◌, List, [], Option, None, Some}
use Rattle.qc_terms.specs.declared.state.Event.{Event}
use Rattle.qc_terms.specs.Observation.{Observation, words_of}
use Rattle.qc_terms.specs.Process.{Process, Reached, Reaches, ShowsIn}
use Rattle.qc_core.specs.declared.answer.Status.{Status}
use Rattle.qc_core.specs.Inner.Reading.{Puts, StopsToPut}
use Rattle.qc_core.specs.Lines.{run_lines, word_lines}
use Rattle.qc_core.specs.Puts.{ArePut, Output}
use Rattle.qc_core.specs.Runs.{Setting, Shows}

-- the run is over, and puts out nothing more
abbrev pub IsOver : Option Event → Type 0
IsOver None = ⊥
IsOver (Some event) = words_of event ≡ []

-- one step of a process, and the line of what it puts out
pub record PutsStep (p : Process) (s t : p.State) (old new : Output) (Stands : Option Event → Type 0) : Type 0 where
  pub event : Event
  pub step : p.Step s t event
  pub lines : ArePut (word_lines (words_of event)) old new
  pub stands : Stands (p.ending t)

-- a step whose line was not put whole
pub record StopsStep (p : Process) (s t : p.State) (old new : Output) (status : Status) : Type 0 where
  pub event : Event
  pub step : p.Step s t event
  pub stops : StopsToPut (word_lines (words_of event)) old new status

-- a run of so many steps from a state to another, and the lines of what it put out
pub record PutsWords (p : Process) (s t : p.State) (steps : ℕ) (old new : Output) : Type 0 where
  pub output : List ℕ
  pub reaches : Reaches p s steps (record { state = t; output = output })
  pub lines : ArePut (word_lines output) old new

-- a run of so many steps whose lines were not all put
pub record StopsWords (p : Process) (s : p.State) (steps : ℕ) (old new : Output) (status : Status) : Type 0 where
  pub reached : Reached p
  pub reaches : Reaches p s steps reached
  pub stops : StopsToPut (word_lines reached.output) old new status

-- a run of so many steps from a state, and what the putting of its lines comes to
pub record PutsRun (p : Process) (s : p.State) (steps : ℕ) (old new : Output) (status : Status) : Type 0 where
  pub seen : Observation
  pub shows : ShowsIn p s steps seen
  pub puts : Puts (run_lines seen) old new status

-- the run of an image on an input, of so many steps, and what the putting of its lines comes to
pub record PutsSetting (s : Setting) (steps : ℕ) (old new : Output) (status : Status) : Type 0 where
  pub seen : Observation
  pub shows : Shows s steps seen
  pub puts : Puts (run_lines seen) old new status
