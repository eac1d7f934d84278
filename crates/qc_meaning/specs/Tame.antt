-- Tame code: what its runs do with addresses, memory, frames and registers, so that it means the same wherever its lines stand.
use Rattle.std.specs.Prelude.{ℕ, suc, max, map, ◌≡◌, ◌<◌, ◌≤◌, ◌+◌, ◌^◌, List, [], ◌∷◌, length, slice_get, None, Some, Bool, true, All}
use Rattle.qc_descr.specs.declared.description.Description.{Description}
use Rattle.qc_runs.specs.Automaton.{Same, after}
use Rattle.qc_runs.specs.LineMachine.{run_of}
use Rattle.qc_meaning.specs.Aimed.{IsAimed}
use Rattle.qc_meaning.specs.Code.{Does, Flat, Label, Line, Standing}
use Rattle.qc_meaning.specs.Frames.{Entered, IsFineFrameAt, Phase, framed_lines}
use Rattle.qc_meaning.specs.Landing.{IsPlacingOf}
use Rattle.qc_meaning.specs.Liveness.{IsInner, IsLiveAfter, IsLiveBefore, is_even, names_register, surely_writes, line_writes, writes_frame}
use Rattle.qc_meaning.specs.Marked.{Ghost, IsFineAt, first_ghost, marked_lines}
use Rattle.qc_meaning.specs.Runs.{Data, code_run, first_data}

-- ---- runs

-- What a run is of: the data of an image, and the words of its input.
pub record Start : Type 0 where
  pub initial : List ℕ
  pub input : List ℕ

-- the data fit into memory, and the input has words of the machine
pub record IsStart (d : Description) (s : Start) : Type 0 where
  pub room : d.code_end + length s.initial ≤ d.memory
  pub words : All (λ word. word < 2 ^ d.facts.word) s.input

abbrev pub greatest : List ℕ → ℕ
greatest [] = 0
greatest (n ∷ ns) = max n (greatest ns)

abbrev pub greatest_operand : Line → ℕ
greatest_operand (Label number) = 0
greatest_operand (Does inst) = greatest inst.operands

-- how many virtual registers are enough for the code
abbrev pub virtual_in : Flat → ℕ
virtual_in x = suc (greatest (map (λ s. greatest_operand s.line) x.lines))

-- the data with which a run of the code begins
abbrev pub start_data : Description → Flat → Start → Data
start_data d x s = first_data d s.initial s.input (virtual_in x)

-- the state with marks, and that with phases, in which a run begins
abbrev pub start_marked : Description → Flat → Start → ℕ × (Data × Ghost)
start_marked d x s = (0, (start_data d x s, first_ghost))

abbrev pub start_framed : Description → Flat → Start → ℕ × (Data × List Phase)
start_framed d x s = (0, (start_data d x s, Entered ∷ []))

-- ---- the five parts

-- Lines: a run that goes on stands at a line.
abbrev pub StandsAtLine : Flat → ℕ × (Data × Ghost) → Type 0
StandsAtLine x s = s.1.0.machine.ending ≡ None → s.0 < length x.lines

-- Accesses and marks: lines access data and the slots that they name, and marked words go nowhere but where they may. A line that
-- sets the program counter sets it to the address of its target, or of the line after the last call.
abbrev pub KeepsMarks : Description → Flat → (homes : Bool) → (frame : ℕ) → (ℕ → ℕ) → ℕ × (Data × Ghost) → Type 0
KeepsMarks d x homes frame at s = s.1.0.machine.ending ≡ None → IsFineAt d x homes frame at s.0 (slice_get x.lines s.0) s.1.0 s.1.1

abbrev pub JumpsWhereItSays : Description → Flat → (ℕ → ℕ) → ℕ × (Data × Ghost) → Type 0
JumpsWhereItSays d x at s = s.1.0.machine.ending ≡ None → IsAimed d x at (s.0, s.1.0)

-- Frames: procedures lower and raise the frame cell in turn, and are entered and left by calls and returns.
abbrev pub KeepsFrames : Description → Flat → (frame : ℕ) → (ℕ → ℕ) → ℕ × (Data × List Phase) → Type 0
KeepsFrames d x frame at s =
    s.1.0.machine.ending ≡ None → IsFineFrameAt d x frame at s.0 (slice_get x.lines s.0) s.1.0 s.1.1

-- Registers: none is live where a procedure begins or after a line that moves the frame cell; even ones are named between these
-- lines alone, and surely written where they are written.
pub record KeepsRegisters (d : Description) (x : Flat) : Type 0 where
  pub entered : (k number : ℕ) (s : Standing) → slice_get x.lines k ≡ Some s → s.first ≡ true → IsLiveBefore d x s.procedure number k → ⊥
  pub moved : (k number : ℕ) (s : Standing) → slice_get x.lines k ≡ Some s → writes_frame d s.line ≡ true →
      IsLiveAfter d x s.procedure number k → ⊥
  pub inner : (k number : ℕ) (s : Standing) → slice_get x.lines k ≡ Some s → is_even number ≡ true → names_register d number s.line ≡ true →
      IsInner d x s.procedure k
  pub written : (k number : ℕ) (s : Standing) → slice_get x.lines k ≡ Some s → is_even number ≡ true → line_writes d number s.line ≡ true →
      surely_writes d number s.line ≡ true

-- ---- tame code

-- Code, where each frame has so many bytes and virtual registers have homes or haven't, is tame.
pub record IsTame (d : Description) (x : Flat) (homes : Bool) (frame : ℕ) : Type 0 where
  pub lines : (at : ℕ → ℕ) (s : Start) → IsPlacingOf d x at → IsStart d s → (n : ℕ) →
      StandsAtLine x (after (run_of (marked_lines d x homes at)) n (start_marked d x s))
  pub marks : (at : ℕ → ℕ) (s : Start) → IsPlacingOf d x at → IsStart d s → (n : ℕ) →
      KeepsMarks d x homes frame at (after (run_of (marked_lines d x homes at)) n (start_marked d x s))
  pub jumps : (at : ℕ → ℕ) (s : Start) → IsPlacingOf d x at → IsStart d s → (n : ℕ) →
      JumpsWhereItSays d x at (after (run_of (marked_lines d x homes at)) n (start_marked d x s))
  pub frames : (at : ℕ → ℕ) (s : Start) → IsPlacingOf d x at → IsStart d s → (n : ℕ) →
      KeepsFrames d x frame at (after (run_of (framed_lines d x at)) n (start_framed d x s))
  pub registers : KeepsRegisters d x

-- ---- same meaning

-- the most steps between two turns
abbrev pub most_steps : Flat → ℕ
most_steps x = suc (length x.lines)

-- One code means what another one means: at all placings and for every input, both show the same before each turn.
abbrev pub MeanTheSame : Description → (x y : Flat) → Type 0
MeanTheSame d x y =
    (at by : ℕ → ℕ) (s : Start) → IsPlacingOf d x at → IsPlacingOf d y by → IsStart d s →
    Same (code_run d x at) (most_steps x) (0, start_data d x s) (code_run d y by) (most_steps y) (0, start_data d y s)
