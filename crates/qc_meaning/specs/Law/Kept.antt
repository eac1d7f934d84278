-- What a fine line keeps: facts, sizes, the rows of cells, and that the frame cell has no mark.
use Rattle.std.proofs.Common.{◌≡◌, ◌∙◌, ◌+◌, ◌/◌, ◌≤◌, ◌&&◌, ◌∷◌, ℕ, List, [], length, map, Bool, true, false, Option, None, Some, if◌then◌else◌, nat_eq, nat_le, inl, inr, refl, sym, subst, arith}
use Rattle.std.specs.List.{list_any}
use Rattle.std.proofs.lemmas.Bool.{and_parts, leb-true, or_cases}
use Rattle.qc_terms.specs.declared.state.Event.{Event}
use Rattle.qc_terms.specs.declared.state.Event.TheVariants.{Ended, Out, Quiet, Trapped}
use Rattle.qc_terms.specs.declared.state.State.{State}
use Rattle.qc_terms.specs.declared.term.Dest.{Dest}
use Rattle.qc_terms.specs.declared.term.Dest.TheVariants as dest
use Rattle.qc_terms.specs.declared.term.Effect.{Effect}
use Rattle.qc_terms.specs.declared.term.Rtl.{Rtl}
use Rattle.qc_terms.specs.Cells.{with_cell}
use Rattle.qc_terms.specs.Effects.{Write, ToCell, ToCounter, ToHalt, ToMemory, ToOutput, ToTrap, after_write, after_writes, before_writes, event_of, input_is_over, outcome_of, outcome_of_event, outcome_of_trap, outcome_of_writes, rtl_has_input, writes_of}
use Rattle.qc_terms.specs.State.{is_zero_cell}
use Rattle.qc_terms.specs.Tree.{tree_of}
use Rattle.qc_terms.specs.Value.{index_of, space_of}
use Rattle.qc_descr.specs.declared.description.Description.{Description}
use Rattle.qc_meaning.specs.Code.{Inst}
use Rattle.qc_meaning.specs.Fine.{AreFine, IsFineDestination, IsFineEffect, Marking, Rules, all_marks_after, bytes_written, counts, guard_mark, mark_written, marks_after, marks_at, with_cell_mark, word_mark}
use Rattle.qc_meaning.specs.Marked.{rules_of}
use Rattle.qc_meaning.specs.Marks.{Address, Clean, Mark, Reading, Stray, joined, mark_of, worth}
use Rattle.qc_meaning.specs.Slots.{is_in_data, is_in_slot, is_slot_address, slots_of, word_bytes}
use Rattle.qc_meaning.specs.Law.Sound.{SuitsCode}
use Rattle.qc_meaning.specs.Law.Cells.{lengths-with_cell}
use Rattle.qc_meaning.specs.Law.Effects.{Both, IsShaped, all_both}
use Rattle.qc_meaning.specs.Law.Outcomes.{outcome_by}
use Rattle.qc_meaning.specs.Law.Values.{AreInside, ReadAlike, clash, joined-left}

-- ---- rows of cells

write-rows : (w : Write) (s : State) → map length (after_write w s).cells ≡ map length s.cells
write-rows (ToCell space index word) s = go (is_zero_cell s.facts.zero space index)
  where
    go : (b : Bool) → map length (if b then s else record s { cells = with_cell s.cells space index word }).cells ≡ map length s.cells
    go true = refl
    go false = lengths-with_cell s.cells space index word
write-rows (ToMemory address count word) s = refl
write-rows (ToCounter word) s = refl
write-rows (ToOutput word) s = refl
write-rows (ToHalt code) s = refl
write-rows (ToTrap code) s = refl

writes-rows : (ws : List Write) (s : State) → map length (after_writes ws s).cells ≡ map length s.cells
writes-rows [] s = refl
writes-rows (w ∷ ws) s = writes-rows ws (after_write w s) ∙ write-rows w s

event-rows : (event : Event) (ws : List Write) (takes : Bool) (after : ℕ) (s : State) →
    map length (outcome_of_event event ws takes after s).state.cells ≡ map length s.cells
event-rows (Trapped code) ws takes after s = refl
event-rows Quiet ws takes after s = writes-rows ws (before_writes takes after s)
event-rows (Out word) ws takes after s = writes-rows ws (before_writes takes after s)
event-rows (Ended code) ws takes after s = writes-rows ws (before_writes takes after s)

outcome-rows : (writes : Option (List Write)) (takes : Bool) (after : ℕ) (s : State) →
    map length (outcome_of_writes writes takes after s).state.cells ≡ map length s.cells
outcome-rows None takes after s = refl
outcome-rows (Some ws) takes after s = event-rows (event_of ws) ws takes after s

-- an outcome leaves the number of cells of each space as it is
pub rows_stay : (rtl : Rtl) (operands : List ℕ) (after : ℕ) (s : State) → map length (outcome_of rtl operands after s).state.cells ≡ map length s.cells
rows_stay rtl operands after s = go (rtl_has_input rtl && input_is_over s)
  where
    go : (b : Bool) →
        map length (if b then outcome_of_trap 5 s else outcome_of_writes (writes_of rtl.effects operands after s) (rtl_has_input rtl) after s).state.cells
        ≡ map length s.cells
    go true = refl
    go false = outcome-rows (writes_of rtl.effects operands after s) (rtl_has_input rtl) after s

-- ---- facts and memory

event-shaped : (r : Reading) (marks : Marking → Marking) (event : Event) (ws us : List Write) (takes : Bool) → Both r ws us marks →
    IsShaped r (outcome_of_event event ws takes r.next r.state).state
event-shaped r marks (Trapped code) ws us takes both = record { facts = refl; memory = refl }
event-shaped r marks Quiet ws us takes both = both.shaped (before_writes takes r.next r.state) (record { facts = refl; memory = refl })
event-shaped r marks (Out word) ws us takes both = both.shaped (before_writes takes r.next r.state) (record { facts = refl; memory = refl })
event-shaped r marks (Ended code) ws us takes both = both.shaped (before_writes takes r.next r.state) (record { facts = refl; memory = refl })

-- a fine line keeps the facts and the size of memory
pub shape_stays : (rules : Rules) (r q : Reading) → ReadAlike r q → AreInside rules (length r.state.memory) → AreInside rules (length q.state.memory) →
    (rtl : Rtl) → AreFine rules r rtl.effects → IsShaped r (outcome_by r rtl).state
shape_stays rules r q alike inside inside_q rtl fine = go (rtl_has_input rtl && input_is_over r.state)
  where
    go : (b : Bool) →
        IsShaped r (if b then outcome_of_trap 5 r.state
        else outcome_of_writes (writes_of rtl.effects r.operands r.next r.state) (rtl_has_input rtl) r.next r.state).state
    go true = record { facts = refl; memory = refl }
    go false =
        let all = all_both rules r q alike inside inside_q rtl.effects fine in
        subst (λ w. IsShaped r (outcome_of_writes w (rtl_has_input rtl) r.next r.state).state) (sym all.first)
        (event-shaped r (all_marks_after r rtl.effects) (event_of all.ws) all.ws all.us (rtl_has_input rtl) all.both)

-- ---- the frame cell

written_frame : (guard mark old : Mark) → guard ≡ Clean → mark ≡ Clean → mark_written guard mark old ≡ Clean
written_frame Clean mark old unmarked clean = clean
written_frame Address mark old unmarked clean = absurd (apart unmarked)
  where
    apart : Address ≡ Clean → ⊥
    apart e = cc
written_frame Stray mark old unmarked clean = absurd (apart unmarked)
  where
    apart : Stray ≡ Clean → ⊥
    apart e = cc

-- the mark of a cell after a write to a cell
frame_after : (cell : (space index : ℕ) → Mark) (space index : ℕ) (mark : Mark) (frame : ℕ × ℕ) → cell frame.0 frame.1 ≡ Clean →
    ((nat_eq space frame.0 && nat_eq index frame.1) ≡ true → mark ≡ Clean) → with_cell_mark cell space index mark frame.0 frame.1 ≡ Clean
frame_after cell space index mark frame before written = go (nat_eq space frame.0 && nat_eq index frame.1) written
  where
    go : (b : Bool) → (b ≡ true → mark ≡ Clean) → (if b then mark else cell frame.0 frame.1) ≡ Clean
    go true written = written refl
    go false written = before

bytes_keep_cells : (m : Marking) (count : ℕ) (mark : Mark) (address : Option ℕ) (frame : ℕ × ℕ) → m.cell frame.0 frame.1 ≡ Clean →
    (bytes_written m count mark address).cell frame.0 frame.1 ≡ Clean
bytes_keep_cells m count mark None frame clean = clean
bytes_keep_cells m count mark (Some address) frame clean = clean

destination_keeps : (rules : Rules) (r : Reading) (guard value : Mark) (to : Dest) (m : Marking) → IsFineDestination rules r guard (joined guard value) to →
    m.cell rules.frame.0 rules.frame.1 ≡ Clean → (marks_at r guard (joined guard value) to m).cell rules.frame.0 rules.frame.1 ≡ Clean
destination_keeps rules r guard value (dest.Reg place) m fine clean =
    frame_after m.cell (space_of place) (index_of place r.operands)
    (mark_written guard (joined guard value) (m.cell (space_of place) (index_of place r.operands))) rules.frame clean
    (λ is. written_frame guard (joined guard value) (m.cell (space_of place) (index_of place r.operands))
    (joined-left guard value (fine.frame is)) (fine.frame is))
destination_keeps rules r guard value (dest.Mem width address) m fine clean =
    bytes_keep_cells m (width / 8) (joined guard value) (worth r (tree_of address)) rules.frame clean
destination_keeps rules r guard value dest.Pc m fine clean = clean
destination_keeps rules r guard value dest.Out m fine clean = clean
destination_keeps rules r guard value dest.Halt m fine clean = clean
destination_keeps rules r guard value dest.Trap m fine clean = clean

effect_keeps : (rules : Rules) (r : Reading) (e : Effect) (m : Marking) → IsFineEffect rules r e → m.cell rules.frame.0 rules.frame.1 ≡ Clean →
    (marks_after r e m).cell rules.frame.0 rules.frame.1 ≡ Clean
effect_keeps rules r e m fine clean = go (counts r e) refl
  where
    go : (b : Bool) → counts r e ≡ b →
        (if b then marks_at r (guard_mark r e.guard) (word_mark r e) e.to m else m).cell rules.frame.0 rules.frame.1 ≡ Clean
    go true counted = destination_keeps rules r (guard_mark r e.guard) (mark_of r (tree_of e.value)) e.to m (fine.to counted) clean
    go false counted = clean

-- a fine line leaves the frame cell without a mark
pub frame_stays_clean : (rules : Rules) (r : Reading) (es : List Effect) (m : Marking) → AreFine rules r es → m.cell rules.frame.0 rules.frame.1 ≡ Clean →
    (all_marks_after r es m).cell rules.frame.0 rules.frame.1 ≡ Clean
frame_stays_clean rules r [] m fine clean = clean
frame_stays_clean rules r (e ∷ es) m fine clean =
    frame_stays_clean rules r es (marks_after r e m) fine.1 (effect_keeps rules r e m fine.0 clean)

-- ---- accesses

some_slot : (d : Description) (frame here address count : ℕ) (slots : List ℕ) → list_any (is_in_slot d frame here address count) slots ≡ true →
    address + count ≤ d.memory
some_slot d frame here address count [] some = absurd (clash (sym some))
some_slot d frame here address count (slot ∷ slots) some =
    elim (or_cases (is_in_slot d frame here address count slot) (list_any (is_in_slot d frame here address count) slots) some) [
      | inl inside ↦
          let parts = and_parts (is_slot_address d frame here slot address) (nat_le count (word_bytes d) && (nat_le d.data_end address && nat_le (address + word_bytes d) d.memory)) inside in
          let sizes = and_parts (nat_le count (word_bytes d)) (nat_le d.data_end address && nat_le (address + word_bytes d) d.memory) parts.1 in
          let ends = and_parts (nat_le d.data_end address) (nat_le (address + word_bytes d) d.memory) sizes.1 in
          omega (arith, leb-true count (word_bytes d) sizes.0, leb-true (address + word_bytes d) d.memory ends.1)
      | inr later ↦ some_slot d frame here address count slots later
    ]

-- allowed accesses are inside memory
pub allowed_inside : (d : Description) → SuitsCode d → (homes : Bool) (frame here : ℕ) (inst : Inst) → AreInside (rules_of d homes frame here inst) d.memory
allowed_inside d suits homes frame here inst address count allowed = elim (or_cases (is_in_data d address count) (list_any (is_in_slot d frame here address count) (slots_of d frame inst)) allowed) [
  | inl inside ↦
      let parts = and_parts (nat_le d.code_end address) (nat_le (address + count) d.data_end) inside in
      omega (arith, leb-true (address + count) d.data_end parts.1, suits.room)
  | inr slot ↦ some_slot d frame here address count (slots_of d frame inst) slot
]
