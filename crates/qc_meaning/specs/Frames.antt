-- Frames of a run: which of the standing procedures has lowered the frame cell, and how a line may change that.
use Rattle.std.specs.Prelude.{ℕ, suc, ◌≡◌, ◌+◌, ◌<◌, ◌≤◌, List, [], ◌∷◌, length, drop, slice_get, Option, None, Some, Bool, true, false, ◌&&◌, if◌then◌else◌, nat_eq, is_some}
use Rattle.qc_terms.specs.Effects.{Write, ToCell, ToMemory, ToCounter, ToOutput, ToHalt, ToTrap, writes_of}
use Rattle.qc_descr.specs.declared.description.Description.{Description}
use Rattle.qc_runs.specs.LineMachine.{LineMachine, arrival}
use Rattle.qc_meaning.specs.Code.{Does, Flat, Inst, Label, Line, Standing, aim_at, at_place, calls_at, first_at}
use Rattle.qc_meaning.specs.Runs.{Data, acts, does, frame_in, jump_at, lines_by_aim, operands_at, seen_by, shown_by}

-- A procedure that was entered lowers the frame cell once, and raises it once before it returns.
pub data Phase : Type 0 where
  Entered Lowered Raised : Phase

abbrev pub writes_cell : ℕ × ℕ → List Write → Bool
writes_cell cell [] = false
writes_cell cell (ToCell space index word ∷ ws) =
    if nat_eq space cell.0 && nat_eq index cell.1 then true else writes_cell cell ws
writes_cell cell (ToMemory address count word ∷ ws) = writes_cell cell ws
writes_cell cell (ToCounter word ∷ ws) = writes_cell cell ws
writes_cell cell (ToOutput word ∷ ws) = writes_cell cell ws
writes_cell cell (ToHalt code ∷ ws) = writes_cell cell ws
writes_cell cell (ToTrap code ∷ ws) = writes_cell cell ws

abbrev pub writes_cell_if : ℕ × ℕ → Option (List Write) → Bool
writes_cell_if cell None = false
writes_cell_if cell (Some ws) = writes_cell cell ws

-- the line writes the frame cell
abbrev pub moves_frame : Description → Flat → (ℕ → ℕ) → (k p : ℕ) → Inst → Data → Bool
moves_frame d x at k p inst r =
    writes_cell_if d.frame (writes_of inst.rtl.effects (operands_at x at inst) (at (suc k)) (seen_by d p r))

-- ---- phases of the procedures that stand, the last one entered first

abbrev pub next_phase : Phase → Phase
next_phase Entered = Lowered
next_phase Lowered = Raised
next_phase Raised = Raised

abbrev pub moved : Bool → List Phase → List Phase
moved true (phase ∷ phases) = next_phase phase ∷ phases
moved moves phases = phases

abbrev pub left_unless : Option ℕ → List Phase → List Phase
left_unless None phases = drop 1 phases
left_unless (Some target) phases = phases

abbrev pub jumped : Description → Flat → ℕ → Option ℕ → List Phase → List Phase
jumped d x k None phases = phases
jumped d x k (Some word) phases = if calls_at d.link x k then Entered ∷ phases else left_unless (aim_at x k) phases

abbrev pub phases_of_line : Description → Flat → (ℕ → ℕ) → (k p : ℕ) → Line → Data → List Phase → List Phase
phases_of_line d x at k p (Label number) r phases = phases
phases_of_line d x at k p (Does inst) r phases =
    jumped d x k (jump_at d x at k p inst r) (moved (moves_frame d x at k p inst r) phases)

abbrev pub phases_at : Description → Flat → (ℕ → ℕ) → ℕ → Option Standing → Data → List Phase → List Phase
phases_at d x at k None r phases = phases
phases_at d x at k (Some s) r phases = phases_of_line d x at k s.procedure s.line r phases

-- the lines at addresses, each jump leading where its text says, with the phases of the procedures that stand
abbrev pub framed_lines : Description → Flat → (ℕ → ℕ) → LineMachine (Data × List Phase)
framed_lines d x at = record {
  shown = λ s. shown_by s.0;
  solid = (lines_by_aim d x at).solid;
  act = λ k s. (acts d x at k s.0, phases_at d x at k (slice_get x.lines k) s.0 s.1);
  goes = λ k s. (lines_by_aim d x at).goes k s.0;
}

-- ---- what a line may do

-- The first procedure sets the frame cell, whose frame has so many bytes, to the memory's end less these. Another one lowers it
-- by them, and raises it by them.
abbrev pub IsFrameMove : Description → (frame old new : ℕ) → List Phase → Type 0
IsFrameMove d frame old new (Entered ∷ []) = new + frame ≡ d.memory
IsFrameMove d frame old new (Entered ∷ others) = new + frame ≡ old
IsFrameMove d frame old new (Lowered ∷ []) = ⊥
IsFrameMove d frame old new (Lowered ∷ others) = new ≡ old + frame
IsFrameMove d frame old new _ = ⊥

abbrev pub is_raised : List Phase → Bool
is_raised (Raised ∷ others) = true
is_raised _ = false

abbrev pub procedure_at : Flat → ℕ → ℕ
procedure_at x k = at_place (λ s. s.procedure) 0 (slice_get x.lines k)

-- A call enters another procedure than the first one, at its first line. A return comes after the frame cell was raised, and
-- there is a call to return from. All other lines go on in their procedure.
abbrev pub IsWithin : Description → Flat → (k p place : ℕ) → (jumps call : Bool) → Option ℕ → List Phase → Type 0
IsWithin d x k p place true true aim phases = (first_at x place ≡ true) × (0 < procedure_at x place)
IsWithin d x k p place true false None phases = (is_raised phases ≡ true) × (1 < length phases)
IsWithin d x k p place jumps call aim phases = place < length x.lines → procedure_at x place ≡ p

pub record IsFineFrame (d : Description) (x : Flat) (frame : ℕ) (at : ℕ → ℕ) (k p : ℕ) (inst : Inst) (r : Data) (phases : List Phase) : Type 0 where
  pub move : moves_frame d x at k p inst r ≡ true →
      IsFrameMove d frame (frame_in d r.machine) (frame_in d (does d x at k p (Does inst) r).machine) phases
  pub room : moves_frame d x at k p inst r ≡ true →
      (d.data_end ≤ frame_in d (does d x at k p (Does inst) r).machine)
      × (frame_in d (does d x at k p (Does inst) r).machine + frame ≤ d.memory)
  pub within : IsWithin d x k p (arrival k ((lines_by_aim d x at).goes k r)) (is_some (jump_at d x at k p inst r)) (calls_at d.link x k)
      (aim_at x k) (moved (moves_frame d x at k p inst r) phases)

abbrev pub IsFineFrameOf : Description → Flat → (frame : ℕ) → (ℕ → ℕ) → (k p : ℕ) → Line → Data → List Phase → Type 0
IsFineFrameOf d x frame at k p (Label number) r phases = suc k < length x.lines → procedure_at x (suc k) ≡ p
IsFineFrameOf d x frame at k p (Does inst) r phases = IsFineFrame d x frame at k p inst r phases

abbrev pub IsFineFrameAt : Description → Flat → (frame : ℕ) → (ℕ → ℕ) → ℕ → Option Standing → Data → List Phase → Type 0
IsFineFrameAt d x frame at k None r phases = Unit {0}
IsFineFrameAt d x frame at k (Some s) r phases = IsFineFrameOf d x frame at k s.procedure s.line r phases
