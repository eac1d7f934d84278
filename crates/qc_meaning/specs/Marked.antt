-- Runs of code with marks: what is marked where a run begins, what a line reads, and what is marked after it.
use Rattle.std.specs.Prelude.{ℕ, suc, ◌+◌, ◌-◌, slice_get, Option, None, Some, Bool, ◌&&◌, ◌||◌, not, if◌then◌else◌, nat_eq, nat_le, nat_lt}
use Rattle.std.specs.List.{list_any}
use Rattle.qc_terms.specs.declared.state.Event.{Event}
use Rattle.qc_terms.specs.declared.state.Event.TheVariants.{Trapped}
use Rattle.qc_descr.specs.declared.description.Description.{Description}
use Rattle.qc_runs.specs.LineMachine.{LineMachine}
use Rattle.qc_meaning.specs.Code.{Does, Flat, Inst, Label, Line, Standing, calls_at}
use Rattle.qc_meaning.specs.Fine.{AreFine, Marking, Rules, all_marks_after}
use Rattle.qc_meaning.specs.Marks.{Address, Clean, Mark, Reading, Stray}
use Rattle.qc_meaning.specs.Runs.{Data, acts, frame_in, lines_by_aim, operands_at, outcome_at, own_cells, seen_by, shown_by}
use Rattle.qc_meaning.specs.Slots.{is_addressed, is_in_data, is_in_slot, slots_of}

-- the marks of words in cells, of virtual registers by procedure, frame and number, and of bytes in memory
pub record Ghost : Type 0 where
  pub cells : (space index : ℕ) → Mark
  pub registers : (procedure frame number : ℕ) → Mark
  pub memory : (address : ℕ) → Mark

-- no word is marked where a run begins
abbrev pub first_ghost : Ghost
first_ghost = record {
  cells = λ space index. Clean;
  registers = λ procedure frame number. Clean;
  memory = λ address. Clean;
}

-- the cell is one behind the allocatable space's own cells: a virtual register
abbrev pub is_virtual : Description → (space index : ℕ) → Bool
is_virtual d space index = nat_eq space d.allocatable && nat_le (own_cells d) index

-- the marks as a line of a procedure sees them, where the frame cell has this word
abbrev pub seen_marks : Description → (procedure frame : ℕ) → Ghost → Marking
seen_marks d p frame g = record {
  cell = λ space index. if is_virtual d space index then g.registers p frame (index - own_cells d) else g.cells space index;
  byte = g.memory;
}

-- the cell is one that a compiler may use
abbrev pub is_allocatable : Description → (space index : ℕ) → Bool
is_allocatable d space index = nat_eq space d.allocatable && (nat_le d.first index && nat_le index d.last)

-- Where virtual registers have no homes yet, an allocatable cell that is named by its number may be any word's home later.
abbrev pub is_later_home : Description → (homes : Bool) → (space index : ℕ) → Bool
is_later_home d homes space index = not homes && is_allocatable d space index

abbrev pub operand_mark : Inst → ℕ → Mark
operand_mark inst n = if is_addressed inst n then Address else Clean

-- what a line reads: the address after a call line is one that may be kept, and that after another line is stray
abbrev pub reading : Description → Flat → (homes : Bool) → (ℕ → ℕ) → (k p : ℕ) → Inst → Data → Ghost → Reading
reading d x homes at k p inst r g = record {
  cell = λ space index.
      if is_later_home d homes space index then Stray else (seen_marks d p (frame_in d r.machine) g).cell space index;
  operand = operand_mark inst;
  after = if calls_at d.link x k then Address else Stray;
  byte = g.memory;
  operands = operands_at x at inst;
  next = at (suc k);
  state = seen_by d p r;
}

-- the rules of a line, where each frame has so many bytes and the frame cell has this word
abbrev pub rules_of : Description → (homes : Bool) → (frame here : ℕ) → Inst → Rules
rules_of d homes frame here inst = record {
  allowed = λ address count.
      is_in_data d address count || list_any (is_in_slot d frame here address count) (slots_of d frame inst);
  in_data = λ address. nat_le d.code_end address && nat_lt address d.data_end;
  fixed = is_later_home d homes;
  frame = d.frame;
}

-- ---- marks after a line

abbrev pub ghost_of : Description → (procedure frame : ℕ) → Ghost → Marking → Ghost
ghost_of d p frame g m = record {
  cells = m.cell;
  registers = λ q other number.
      if nat_eq p q && nat_eq frame other then m.cell d.allocatable (own_cells d + number) else g.registers q other number;
  memory = m.byte;
}

-- a trap changes no mark
abbrev pub marks_by : Event → (before after : Marking) → Marking
marks_by (Trapped code) before after = before
marks_by _ before after = after

abbrev pub marks_of_line : Description → Flat → (homes : Bool) → (ℕ → ℕ) → (k p : ℕ) → Line → Data → Ghost → Ghost
marks_of_line d x homes at k p (Label number) r g = g
marks_of_line d x homes at k p (Does inst) r g =
    ghost_of d p (frame_in d r.machine) g
    (marks_by (outcome_at d x at k p inst r).event (seen_marks d p (frame_in d r.machine) g)
    (all_marks_after (reading d x homes at k p inst r g) inst.rtl.effects (seen_marks d p (frame_in d r.machine) g)))

abbrev pub marks_at_place : Description → Flat → (homes : Bool) → (ℕ → ℕ) → ℕ → Option Standing → Data → Ghost → Ghost
marks_at_place d x homes at k None r g = g
marks_at_place d x homes at k (Some s) r g = marks_of_line d x homes at k s.procedure s.line r g

-- the lines at addresses, each jump leading where its text says, with marks
abbrev pub marked_lines : Description → Flat → (homes : Bool) → (ℕ → ℕ) → LineMachine (Data × Ghost)
marked_lines d x homes at = record {
  shown = λ s. shown_by s.0;
  solid = (lines_by_aim d x at).solid;
  act = λ k s. (acts d x at k s.0, marks_at_place d x homes at k (slice_get x.lines k) s.0 s.1);
  goes = λ k s. (lines_by_aim d x at).goes k s.0;
}

-- ---- fine lines

abbrev pub IsFineLine : Description → Flat → (homes : Bool) → (frame : ℕ) → (ℕ → ℕ) → (k p : ℕ) → Line → Data → Ghost → Type 0
IsFineLine d x homes frame at k p (Label number) r g = Unit {0}
IsFineLine d x homes frame at k p (Does inst) r g =
    AreFine (rules_of d homes frame (frame_in d r.machine) inst) (reading d x homes at k p inst r g) inst.rtl.effects

-- the line at a place is fine; that there is one is asked elsewhere
abbrev pub IsFineAt : Description → Flat → (homes : Bool) → (frame : ℕ) → (ℕ → ℕ) → ℕ → Option Standing → Data → Ghost → Type 0
IsFineAt d x homes frame at k None r g = Unit {0}
IsFineAt d x homes frame at k (Some s) r g = IsFineLine d x homes frame at k s.procedure s.line r g
