-- Runs of code at addresses: the data of a run, what a line does, and where the run goes on.
use Rattle.std.specs.Prelude.{ℕ, suc, ◌-◌, List, [], ◌∷◌, ◌++◌, length, take, drop, map, replicate, slice_get, slice_index, slice_set, Option, None, Some, option_and_then, Bool, ◌&&◌, if◌then◌else◌, nat_eq}
use Rattle.qc_terms.specs.declared.state.State.{State}
use Rattle.qc_terms.specs.declared.state.Event.TheVariants.{Trapped}
use Rattle.qc_terms.specs.Cells.{cell_of, row_of}
use Rattle.qc_terms.specs.Effects.{Outcome, Write, ToCell, ToMemory, ToCounter, ToOutput, ToHalt, ToTrap, outcome_of, writes_of}
use Rattle.qc_terms.specs.Observation.{Observation, words_of}
use Rattle.qc_descr.specs.declared.description.Description.{Description}
use Rattle.qc_descr.specs.Description.{counts_of, widths_of}
use Rattle.qc_runs.specs.Automaton.{Automaton}
use Rattle.qc_runs.specs.LineMachine.{Going, LineMachine, Onward, To, run_of}
use Rattle.qc_meaning.specs.Code.{Does, Flat, Inst, Label, Line, Standing, aim_at, calls_at, or_else, place_of_target, solid_at}
use Rattle.qc_meaning.specs.Landing.{landing}

-- The machine's state; the words of virtual registers, kept by procedure and frame; what was put out; and the places after the
-- call lines from which the run hasn't returned, the last one first.
pub record Data : Type 0 where
  pub machine : State
  pub registers : (procedure frame : ℕ) → List ℕ
  pub output : List ℕ
  pub calls : List ℕ

abbrev pub shown_by : Data → Observation
shown_by r = record { output = r.output; ending = r.machine.ending }

-- ---- virtual registers

-- the word of the frame cell
abbrev pub frame_in : Description → State → ℕ
frame_in d s = cell_of s.cells d.frame.0 d.frame.1

-- how many cells the allocatable space has
abbrev pub own_cells : Description → ℕ
own_cells d = slice_index (counts_of d) d.allocatable

-- The state as a line of a procedure sees it: behind the cells of the allocatable space stand the virtual registers of the
-- procedure and the frame.
abbrev pub seen_by : Description → ℕ → Data → State
seen_by d p r = record r.machine {
  cells = slice_set r.machine.cells d.allocatable
      (row_of r.machine.cells d.allocatable ++ r.registers p (frame_in d r.machine));
}

-- other words for the registers of one procedure and frame
abbrev pub with_row : ((procedure frame : ℕ) → List ℕ) → (p frame : ℕ) → List ℕ → (procedure other : ℕ) → List ℕ
with_row registers p frame row q other = if nat_eq p q && nat_eq frame other then row else registers q other

-- the state without virtual registers
abbrev pub without_registers : Description → State → State
without_registers d s = record s { cells = slice_set s.cells d.allocatable (take (own_cells d) (row_of s.cells d.allocatable)) }

-- ---- what a line does

-- the operands with an address in the place of some of them
abbrev pub with_address : ℕ → List Bool → List ℕ → List ℕ
with_address address [] operands = operands
with_address address (b ∷ bs) [] = []
with_address address (b ∷ bs) (o ∷ os) = (if b then address else o) ∷ with_address address bs os

-- the address of a target's place; that of no target has no meaning
abbrev pub address_of : Flat → (ℕ → ℕ) → Option ℕ → ℕ
address_of x at None = 0
address_of x at (Some target) = at (place_of_target x target)

abbrev pub operands_at : Flat → (ℕ → ℕ) → Inst → List ℕ
operands_at x at inst = with_address (address_of x at inst.target) inst.addressed inst.operands

-- the word that the writes leave in the program counter, if they set it
abbrev pub counter_of : List Write → Option ℕ
counter_of [] = None
counter_of (ToCell space index word ∷ ws) = counter_of ws
counter_of (ToMemory address count word ∷ ws) = counter_of ws
counter_of (ToCounter word ∷ ws) = or_else (counter_of ws) (Some word)
counter_of (ToOutput word ∷ ws) = counter_of ws
counter_of (ToHalt code ∷ ws) = counter_of ws
counter_of (ToTrap code ∷ ws) = counter_of ws

-- the outcome of what the line at a place does
abbrev pub outcome_at : Description → Flat → (ℕ → ℕ) → ℕ → ℕ → Inst → Data → Outcome
outcome_at d x at k p inst r = outcome_of inst.rtl (operands_at x at inst) (at (suc k)) (seen_by d p r)

-- the word to which the line at a place sets the program counter, if it does
abbrev pub jump_at : Description → Flat → (ℕ → ℕ) → ℕ → ℕ → Inst → Data → Option ℕ
jump_at d x at k p inst r =
    option_and_then counter_of (writes_of inst.rtl.effects (operands_at x at inst) (at (suc k)) (seen_by d p r))

-- a line that jumps to no target returns, and takes the last one off
abbrev pub calls_unless : Option ℕ → List ℕ → List ℕ
calls_unless None calls = drop 1 calls
calls_unless (Some target) calls = calls

-- the places after call lines when the line at a place has jumped, or hasn't; a call line adds the one after it
abbrev pub calls_with : Description → Flat → ℕ → Option ℕ → List ℕ → List ℕ
calls_with d x k None calls = calls
calls_with d x k (Some word) calls = if calls_at d.link x k then suc k ∷ calls else calls_unless (aim_at x k) calls

-- the data after an outcome
abbrev pub data_after : Description → ℕ → (calls : List ℕ) → Outcome → Data → Data
data_after d p calls o r = record {
  machine = without_registers d o.state;
  registers = with_row r.registers p (frame_in d r.machine) (drop (own_cells d) (row_of o.state.cells d.allocatable));
  output = r.output ++ words_of o.event;
  calls = calls;
}

abbrev pub trapped_data : ℕ → Data → Data
trapped_data code r = record r { machine = record r.machine { ending = Some (Trapped code) } }

abbrev pub does : Description → Flat → (ℕ → ℕ) → ℕ → ℕ → Line → Data → Data
does d x at k p (Label number) r = r
does d x at k p (Does inst) r =
    data_after d p (calls_with d x k (jump_at d x at k p inst r) r.calls) (outcome_at d x at k p inst r) r

-- what the line at a place does to the data; where there is no line, the run traps with code 4
abbrev pub does_at : Description → Flat → (ℕ → ℕ) → ℕ → Option Standing → Data → Data
does_at d x at k None r = trapped_data 4 r
does_at d x at k (Some s) r = does d x at k s.procedure s.line r

abbrev pub acts : Description → Flat → (ℕ → ℕ) → ℕ → Data → Data
acts d x at k r = does_at d x at k (slice_get x.lines k) r

-- ---- where a run goes on

abbrev pub jump_by : Description → Flat → (ℕ → ℕ) → ℕ → ℕ → Line → Data → Option ℕ
jump_by d x at k p (Label number) r = None
jump_by d x at k p (Does inst) r = jump_at d x at k p inst r

-- the word to which the line at a place sets the program counter, if it does
abbrev pub jump_of : Description → Flat → (ℕ → ℕ) → ℕ → Option Standing → Data → Option ℕ
jump_of d x at k None r = None
jump_of d x at k (Some s) r = jump_by d x at k s.procedure s.line r

-- by the word: to the line to which it leads
abbrev pub goes_by_word : Flat → (ℕ → ℕ) → Option ℕ → Going
goes_by_word x at None = Onward
goes_by_word x at (Some word) = To (landing x at word)

-- the place to which a line jumps by its text: that of its target, or after the last call line
abbrev pub aimed_place : Flat → Option ℕ → List ℕ → ℕ
aimed_place x None [] = length x.lines
aimed_place x None (place ∷ calls) = place
aimed_place x (Some target) calls = place_of_target x target

-- by its text: to its target, or back from a call
abbrev pub goes_by_aim : Flat → ℕ → List ℕ → Option ℕ → Going
goes_by_aim x k calls None = Onward
goes_by_aim x k calls (Some word) = To (aimed_place x (aim_at x k) calls)

-- the lines at addresses, each jump leading where its word does
abbrev pub lines_at : Description → Flat → (ℕ → ℕ) → LineMachine Data
lines_at d x at = record {
  shown = shown_by;
  solid = solid_at x;
  act = acts d x at;
  goes = λ k r. goes_by_word x at (jump_of d x at k (slice_get x.lines k) r);
}

-- the lines at addresses, each jump leading where its text says
abbrev pub lines_by_aim : Description → Flat → (ℕ → ℕ) → LineMachine Data
lines_by_aim d x at = record {
  shown = shown_by;
  solid = solid_at x;
  act = acts d x at;
  goes = λ k r. goes_by_aim x k r.calls (jump_of d x at k (slice_get x.lines k) r);
}

-- ---- runs

-- memory as it is loaded, without bytes of code: zero bytes, but for the data at the front of the data region
abbrev pub data_memory : Description → List ℕ → List ℕ
data_memory d initial = replicate d.code_end 0 ++ (initial ++ replicate (d.memory - d.code_end - length initial) 0)

-- the state in which a run of code begins: all else is as it is when an image is loaded
abbrev pub first_state : Description → (initial input : List ℕ) → State
first_state d initial input = record {
  facts = d.facts;
  widths = widths_of d;
  cells = map (λ count. replicate count 0) (counts_of d);
  memory = data_memory d initial;
  pc = 0;
  input = input;
  taken = 0;
  ending = None;
}

-- the data with which a run begins, where a procedure and frame have so many virtual registers
abbrev pub first_data : Description → (initial input : List ℕ) → (virtual : ℕ) → Data
first_data d initial input virtual = record {
  machine = first_state d initial input;
  registers = λ p frame. replicate virtual 0;
  output = [];
  calls = [];
}

-- a run of code at addresses begins at the first line
abbrev pub code_run : Description → Flat → (ℕ → ℕ) → Automaton (ℕ × Data)
code_run d x at = run_of (lines_at d x at)
