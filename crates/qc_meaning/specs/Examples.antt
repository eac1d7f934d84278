-- Worked examples of code, on a small machine: where words lead, what is marked, what isn't fine, and what code may load.
use Rattle.std.specs.Prelude.{ℕ, zero, suc, ◌≡◌, ◌+◌, ◌-◌, if◌then◌else◌, nat_eq, List, [], ◌∷◌, None, Some, true, false, codes}
use Rattle.qc_words.specs.declared.operator.Op.TheVariants.{Add, Slice, Sub}
use Rattle.qc_terms.specs.declared.state.Event.TheVariants.{Ended}
use Rattle.qc_terms.specs.declared.state.Order.TheVariants.{Little}
use Rattle.qc_terms.specs.declared.term.Dest.TheVariants as dest
use Rattle.qc_terms.specs.declared.term.Effect.{Effect}
use Rattle.qc_terms.specs.declared.term.Place.TheVariants.{Cell}
use Rattle.qc_terms.specs.Tree.{Tree, Number, Unary, Binary, Register, Immediate, AddressAfter}
use Rattle.qc_descr.specs.declared.description.Description.{Description}
use Rattle.qc_tiles.specs.declared.name.TileName.TheVariants as name
use Rattle.qc_tiles.specs.Terms.{term_of}
use Rattle.qc_tiles.specs.Tiles.{gives}
use Rattle.qc_runs.specs.Automaton.{turns_in}
use Rattle.qc_runs.specs.LineMachine.{LineMachine, Onward, To, run_of}
use Rattle.qc_meaning.specs.declared.lines.TileLine.TheVariants as tile_line
use Rattle.qc_meaning.specs.Code.{Does, Flat, Inst, Label, aim_at, flat_of, place_of_target}
use Rattle.qc_meaning.specs.Fine.{IsFineEffect, Rules, marks_after}
use Rattle.qc_meaning.specs.Frames.{IsFrameMove, Entered, Lowered, Raised}
use Rattle.qc_meaning.specs.Landing.{landing}
use Rattle.qc_meaning.specs.Liveness.{IsLiveBefore}
use Rattle.qc_meaning.specs.Load.{tile_load}
use Rattle.qc_meaning.specs.Marked.{Ghost, first_ghost, reading, rules_of, seen_marks}
use Rattle.qc_meaning.specs.Marks.{Address, Clean, Mark, Reading, Stray, mark_of}
use Rattle.qc_meaning.specs.Reaching.{HasTargets}
use Rattle.qc_meaning.specs.Roomy.{IsRoomy, usable_cells}
use Rattle.qc_meaning.specs.Runs.{Data, aimed_place, calls_with, first_data}

-- A machine of words of 16 bits with one space of eight cells: cells 0 to 5 are for a compiler, 6 is the link and 7 the frame. Code
-- stands below 32, data below 48, and the stack below 64.
abbrev pub small : Description
small = record {
  name = codes "small";
  facts = record { word = 16; order = Little; «zero» = None };
  spaces = record { name = codes "r"; cells = 8; width = 16; flags = false } ∷ [];
  align = 2;
  slot_bits = 8;
  frame = (0, 7);
  link = (0, 6);
  first = 0;
  last = 5;
  allocatable = 0;
  memory = 64;
  code_end = 32;
  data_end = 48;
  instructions = [];
}

-- ---- where words lead

-- two labels, then a line, then a procedure that begins with a label
abbrev pub nothing_done : Inst
nothing_done = record { rtl = record { effects = [] }; operands = []; addressed = []; target = None }

abbrev pub two_procedures : Flat
two_procedures = flat_of ((Does nothing_done ∷ Label 8 ∷ Label 9 ∷ []) ∷ (Label 10 ∷ Does nothing_done ∷ []) ∷ [])

-- the first line is at 0, and all others are at 2
abbrev pub close_together : ℕ → ℕ
close_together zero = 0
close_together (suc k) = 2

-- two labels behind one line, alone
abbrev pub two_labels : Flat
two_labels = flat_of ((Does nothing_done ∷ Label 8 ∷ Label 9 ∷ []) ∷ [])

-- ---- marked words

-- the first state, where the link has the address of a line and cell 5 is as it was
abbrev pub some_data : Data
some_data = first_data small [] [] 4

abbrev pub is_link : ℕ → Mark
is_link index = if nat_eq index 6 then Address else Clean

abbrev pub link_marked : Ghost
link_marked = record first_ghost { cells = λ space index. is_link index }

-- what a line reads whose first operand is its target's address, and that is no call line
abbrev pub jump_line : Inst
jump_line = record { rtl = record { effects = [] }; operands = 0 ∷ []; addressed = true ∷ []; target = Some 8 }

abbrev pub some_reading : Reading
some_reading = reading small two_labels false close_together 0 0 jump_line some_data link_marked

-- the rules of a line that names no slot, where each frame has eight bytes
abbrev pub some_rules : Rules
some_rules = rules_of small false 8 0 nothing_done

abbrev pub link_word : Tree
link_word = Register (Cell 0 6) 16

-- when the link's bit 2 is 1, cell 7 gets 1
abbrev pub under_mark : Effect
under_mark = record {
  guard = Some (term_of (Unary (Slice 2 1) link_word));
  to = dest.Reg (Cell 0 7);
  value = term_of (Number 1 16);
}

-- ---- turns and calls

-- two lines over a number: the first one lowers it, and the second goes back to the first one while it isn't 0
abbrev pub countdown : LineMachine ℕ
countdown = record {
  shown = λ n. record { output = []; ending = if nat_eq n 0 then Some (Ended 0) else None };
  solid = λ k. true;
  act = λ k n. if nat_eq k 0 then n - 1 else n;
  goes = λ k n. if nat_eq k 0 then Onward else To 0;
}

-- a procedure whose first line calls another procedure, which returns at once
abbrev pub call_line : Inst
call_line = record {
  rtl = record {
    effects = gives (dest.Reg (Cell 0 6)) (AddressAfter 16) ∷ gives dest.Pc (Immediate 0 16) ∷ [];
  };
  operands = 0 ∷ [];
  addressed = true ∷ [];
  target = Some 1;
}

abbrev pub return_line : Inst
return_line = record { rtl = record { effects = gives dest.Pc link_word ∷ [] }; operands = []; addressed = []; target = None }

abbrev pub calls_once : Flat
calls_once = flat_of ((Does call_line ∷ Label 8 ∷ []) ∷ (Does return_line ∷ []) ∷ [])

-- ---- registers

-- a line that adds up two virtual registers
abbrev pub register : ℕ → Tree
register number = Register (Cell 0 (8 + number)) 16

abbrev pub sum_of_two : Tree
sum_of_two = Binary Add (register 0) (register 2)

abbrev pub adds_two : Inst
adds_two = record {
  rtl = record { effects = gives (dest.Reg (Cell 0 8)) sum_of_two ∷ [] };
  operands = [];
  addressed = [];
  target = None;
}

-- the machine with one cell for a compiler, and with two
abbrev pub narrow : Description
narrow = record small { last = 0 }

abbrev pub roomier : Description
roomier = record small { last = 1 }

abbrev pub one_line : Inst → Flat
one_line inst = flat_of ((Does inst ∷ []) ∷ [])

abbrev pub to_nowhere : Inst
to_nowhere = record { rtl = record { effects = [] }; operands = 0 ∷ []; addressed = true ∷ []; target = Some 99 }

-- ---- what holds of them

pub record CodeExamples : Type 0 where
  -- a label is found by its number, and a target below the number of procedures is one of them
  pub label : place_of_target two_procedures 9 ≡ 2
  pub procedure : place_of_target two_procedures 1 ≡ 3
  -- of two labels at one address a word leads to the first one; where a later procedure begins there, it leads to that; and a word
  -- that no line has leads behind the last line
  pub first_label : landing two_labels close_together 2 ≡ 1
  pub later_procedure : landing two_procedures close_together 2 ≡ 3
  pub no_line : landing two_procedures close_together 4 ≡ 5
  -- the loop that begins at 3 has turned twice when it ends after 5 steps, and turns no more
  pub turns : turns_in (run_of countdown) 5 (0, 3) ≡ 2
  pub end : turns_in (run_of countdown) 8 (0, 3) ≡ 2
  -- a call goes to its procedure's first line, and leaves the place after it for the return, which takes it off again
  pub call : aimed_place calls_once (aim_at calls_once 0) [] ≡ 2
  pub called : calls_with small calls_once 0 (Some 2) [] ≡ 1 ∷ []
  pub return : aimed_place calls_once (aim_at calls_once 2) (1 ∷ []) ≡ 1
  pub returned : calls_with small calls_once 2 (Some 0) (1 ∷ []) ≡ []
  -- the word that a call leaves in the link is an address, and may set the program counter
  pub link_of_call : mark_of (reading small calls_once false close_together 0 0 call_line some_data first_ghost) (AddressAfter 16) ≡ Address
  pub return_by_link : IsFineEffect some_rules some_reading (gives dest.Pc link_word)
  -- the link's word is an address, that of an operand too, and one that was read from a cell by its number is stray
  pub link_mark : mark_of some_reading link_word ≡ Address
  pub target_mark : mark_of some_reading (Immediate 0 16) ≡ Address
  pub cell_mark : mark_of some_reading (Register (Cell 0 5) 16) ≡ Stray
  pub after_mark : mark_of some_reading (Binary Sub (AddressAfter 16) (AddressAfter 16)) ≡ Stray
  -- what is written under a marked guard is marked, though the guard is false here
  pub guard_mark : (marks_after some_reading under_mark (seen_marks small 0 0 link_marked)).cell 0 7 ≡ Address
  -- no such word is put out, and no stray one sets the program counter
  pub link_out : IsFineEffect some_rules some_reading (gives dest.Out link_word) → ⊥
  pub target_out : IsFineEffect some_rules some_reading (gives dest.Out (Immediate 0 16)) → ⊥
  pub after_out : IsFineEffect some_rules some_reading (gives dest.Out (Binary Sub (AddressAfter 16) (AddressAfter 16))) → ⊥
  pub return_by_cell : IsFineEffect some_rules some_reading (gives dest.Pc (Binary Add link_word (Register (Cell 0 5) 16))) → ⊥
  -- memory of the stack is accessed in slots that the line names alone
  pub unnamed_slot : IsFineEffect some_rules some_reading (gives (dest.Mem 16 (term_of (Number 50 16))) (Number 0 16)) → ⊥
  -- the first procedure sets the frame cell to the memory's end less a frame; others lower it and raise it again, once each
  pub first_frame : IsFrameMove small 8 0 56 (Entered ∷ [])
  pub second_frame : IsFrameMove small 8 56 48 (Entered ∷ Lowered ∷ [])
  pub raised_frame : IsFrameMove small 8 48 56 (Lowered ∷ Lowered ∷ [])
  pub raised_twice : IsFrameMove small 8 56 64 (Raised ∷ Lowered ∷ []) → ⊥
  -- a register that a procedure's first line reads is live where it begins
  pub live_at_start : IsLiveBefore small (one_line adds_two) 0 2 0
  -- two cells are room for a line that names two registers, and one cell is none
  pub one_cell : usable_cells narrow ≡ 1
  pub two_cells : usable_cells roomier ≡ 2
  pub room_for_two : IsRoomy roomier (one_line adds_two) 64
  pub no_room_in_one : IsRoomy narrow (one_line adds_two) 64 → ⊥
  -- a target that is no line's
  pub no_target : HasTargets (one_line to_nowhere) → ⊥
  -- a label has no load; a line of add has 4, and so has one of a branch
  pub label_load : tile_load (tile_line.Label 8) ≡ 0
  pub add_load : (registers : List ℕ) → tile_load (tile_line.Inst name.Add registers [] None) ≡ 4
  pub branch_load : (registers : List ℕ) → tile_load (tile_line.Inst name.Breq registers [] (Some 8)) ≡ 4
