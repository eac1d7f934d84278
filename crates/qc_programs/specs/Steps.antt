-- Runs of a program: states, and the step from one to the next.
use Rattle.std.specs.Prelude.{ℕ, zero, suc, ◌+◌, ◌-◌, nat_eq, nat_le, if◌then◌else◌, ◌&&◌, List, [], ◌∷◌, ◌++◌, length, replicate, drop, slice_get, slice_index, slice_set, Option, None, Some}
use Rattle.qc_terms.specs.declared.state.Event.{Event}
use Rattle.qc_terms.specs.declared.state.Event.TheVariants as event
use Rattle.qc_terms.specs.Memory.{store_of}
use Rattle.qc_terms.specs.Observation.{Observation}
use Rattle.qc_cmmtype.specs.declared.scope.Ground.{Ground}
use Rattle.qc_programs.specs.Values.{Expression, Value, Values, Word, Traps, Words, TrapsFirst, value_of, values_of}
use Rattle.qc_programs.specs.Todo.{Action, Todo, Assign, Input, Output, Store, Label, Goto, Call, Return, Nothing, Do, If, then_do, from_label}

-- A procedure by its body and how many parameters and variables it has; a program by its procedures, the place of `main` among
-- them, and the bytes of the data region where a run begins.
pub record Body : Type 0 where
  pub variables : ℕ
  pub todo : Todo

pub record Bodies : Type 0 where
  pub procedures : List Body
  pub main : ℕ
  pub bytes : List ℕ

abbrev pub no_body : Body
no_body = record { variables = 0; todo = Nothing }

abbrev pub body_of : Bodies → ℕ → Body
body_of program procedure = option_or_default (slice_get program.procedures procedure)
  where
    option_or_default : Option Body → Body
    option_or_default None = no_body
    option_or_default (Some body) = body

-- A procedure that was entered and has not returned: what it still has to do, the words of its variables, and the targets of
-- its caller for its results.
pub record Activation : Type 0 where
  pub procedure : ℕ
  pub rest : Todo
  pub variables : List ℕ
  pub targets : List ℕ

-- The activation that runs now, those that wait for it, the last one first, the bytes of the data region, the input with how
-- many of its words were taken, the words that were put out, and the event with which the run ended.
pub record Standing : Type 0 where
  pub now : Activation
  pub waiting : List Activation
  pub bytes : List ℕ
  pub input : List ℕ
  pub taken : ℕ
  pub output : List ℕ
  pub ending : Option Event

-- what can be seen of a run in a state
abbrev pub seen_of : Standing → Observation
seen_of s = record { output = s.output; ending = s.ending }

-- ---- parts of a step

abbrev pub ends_by : Standing → Event → Standing
ends_by s event = record s { ending = Some event }

-- a trap changes nothing but the ending
abbrev pub traps : Standing → ℕ → Standing
traps s code = ends_by s (event.Trapped code)

-- goes on with a word, or traps
abbrev pub with_value : Standing → Value → (ℕ → Standing) → Standing
with_value s (Word word) f = f word
with_value s (Traps code) f = traps s code

abbrev pub with_values : Standing → Values → (List ℕ → Standing) → Standing
with_values s (Words words) f = f words
with_values s (TrapsFirst code) f = traps s code

-- the activation that runs has this left to do
abbrev pub goes_on : Standing → Todo → Standing
goes_on s rest = record s { now = record s.now { rest = rest } }

abbrev pub assigned : List ℕ → (target word : ℕ) → List ℕ
assigned variables target word = slice_set variables target word

-- the results of a call go to the targets from left to right
abbrev pub all_assigned : List ℕ → (targets words : List ℕ) → List ℕ
all_assigned variables [] words = variables
all_assigned variables (target ∷ targets) [] = variables
all_assigned variables (target ∷ targets) (word ∷ words) = all_assigned (assigned variables target word) targets words

abbrev pub sets : Standing → (target word : ℕ) → Todo → Standing
sets s target word rest =
    record s { now = record s.now { variables = assigned s.now.variables target word; rest = rest } }

-- A store changes bytes of the data region alone. It traps unless all its bytes are inside of it.
abbrev pub stores : Ground → Standing → (count address word : ℕ) → Todo → Standing
stores g s count address word rest =
    if nat_le g.data_start address && nat_le (address + count) g.data_end
    then record (goes_on s rest) { bytes = store_of g.order s.bytes count (address - g.data_start) word }
    else traps s 1

-- the next word of the input goes to a variable; at the end of the input the run traps
abbrev pub takes_from : Standing → ℕ → Todo → Option ℕ → Standing
takes_from s target rest None = traps s 5
takes_from s target rest (Some word) = record (sets s target word rest) { taken = suc s.taken }

abbrev pub takes_input : Standing → ℕ → Todo → Standing
takes_input s target rest = takes_from s target rest (slice_get s.input s.taken)

-- A call with as many activations standing as may be traps. Else the callee begins, with its arguments in its parameters and 0
-- in each variable.
abbrev pub entered : Bodies → ℕ → List ℕ → List ℕ → Activation
entered program callee targets words = record {
  procedure = callee;
  rest = (body_of program callee).todo;
  variables = words ++ replicate ((body_of program callee).variables - length words) 0;
  targets = targets;
}

abbrev pub enters : Bodies → (depth : ℕ) → Standing → (targets : List ℕ) → (callee : ℕ) → Todo → (words : List ℕ) → Standing
enters program depth s targets callee rest words =
    if nat_le depth (suc (length s.waiting)) then traps s 3
    else record s { now = entered program callee targets words; waiting = record s.now { rest = rest } ∷ s.waiting }

-- The last activation that waits goes on with the results in its targets. Where none waits the program ends with its word.
abbrev pub returns_to : Standing → (words : List ℕ) → List Activation → Standing
returns_to s words [] = ends_by s (event.Ended (slice_index words 0))
returns_to s words (caller ∷ waiting) =
    record s {
      now = record caller { variables = all_assigned caller.variables s.now.targets words };
      waiting = waiting;
    }

-- ---- the step

abbrev pub value_in : Ground → Standing → Expression → Value
value_in g s e = value_of g s.now.variables s.bytes e

abbrev pub values_in : Ground → Standing → List Expression → Values
values_in g s es = values_of g s.now.variables s.bytes es

-- does an action, after which the rest is to be done
abbrev pub does : Ground → Bodies → (depth : ℕ) → Standing → Action → Todo → Standing
does g program depth s (Assign target value) rest = with_value s (value_in g s value) (λ word. sets s target word rest)
does g program depth s (Input target) rest = takes_input s target rest
does g program depth s (Output value) rest =
    with_value s (value_in g s value) (λ word. record (goes_on s rest) { output = s.output ++ word ∷ [] })
does g program depth s (Store count address value) rest =
    with_value s (value_in g s address) (λ at. with_value s (value_in g s value) (λ word. stores g s count at word rest))
does g program depth s (Label number) rest = goes_on s rest
does g program depth s (Goto label) rest = goes_on s (from_label label (body_of program s.now.procedure).todo)
does g program depth s (Call targets callee args) rest =
    with_values s (values_in g s args) (enters program depth s targets callee rest)
does g program depth s (Return results) rest = with_values s (values_in g s results) (λ words. returns_to s words s.waiting)

-- Takes up the first statement or label of what is to be done. An `if` puts one of its blocks before the rest.
abbrev pub takes_up : Ground → Bodies → (depth : ℕ) → Standing → Todo → Standing
takes_up g program depth s Nothing = s
takes_up g program depth s (Do action rest) = does g program depth s action rest
takes_up g program depth s (If condition block otherwise rest) =
    with_value s (value_in g s condition)
    (λ word. goes_on s (if nat_eq word 0 then then_do otherwise rest else then_do block rest))

-- a state that has ended stays
abbrev pub step_from : Option Event → Ground → Bodies → (depth : ℕ) → Standing → Standing
step_from (Some event) g program depth s = s
step_from None g program depth s = takes_up g program depth s s.now.rest

abbrev pub step : Ground → Bodies → (depth : ℕ) → Standing → Standing
step g program depth s = step_from s.ending g program depth s

-- What a step tells of the state after it: its ending, or the word that was put out.
abbrev pub event_of_words : List ℕ → Event
event_of_words [] = event.Quiet
event_of_words (word ∷ words) = event.Out word

abbrev pub event_by : Option Event → (more : List ℕ) → Event
event_by (Some event) more = event
event_by None more = event_of_words more

abbrev pub event_of : (before after : Standing) → Event
event_of s t = event_by t.ending (drop (length s.output) t.output)

-- ---- runs

-- A run begins in `main`, with the data in the data region.
abbrev pub start : Bodies → (input : List ℕ) → Standing
start program input = record {
  now = entered program program.main [] [];
  waiting = [];
  bytes = program.bytes;
  input = input;
  taken = 0;
  output = [];
  ending = None;
}

-- the state after so many steps
abbrev pub state_after : Ground → Bodies → (depth : ℕ) → (input : List ℕ) → (steps : ℕ) → Standing
state_after g program depth input zero = start program input
state_after g program depth input (suc n) = step g program depth (state_after g program depth input n)

-- what the program shows after so many steps
abbrev pub shown_after : Ground → Bodies → (depth : ℕ) → (input : List ℕ) → (steps : ℕ) → Observation
shown_after g program depth input n = seen_of (state_after g program depth input n)
