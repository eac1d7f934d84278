-- Effects that are fine do the same where lines stand at other addresses, but for marked words.
use Rattle.std.proofs.Common.{◌≡◌, ◌∙◌, ◌+◌, ◌/◌, ◌≤◌, ◌&&◌, ◌||◌, ◌++◌, ℕ, List, [], ◌∷◌, length, Bool, true, false, not, Option, None, Some, option_and_then, if◌then◌else◌, nat_eq, is_some, inl, inr, refl, ap, sym, subst, arith}
use Rattle.std.specs.Option.{option_map}
use Rattle.std.proofs.lemmas.Bool.{cases_Bool, le-leb}
use Rattle.qc_terms.specs.declared.state.State.{State}
use Rattle.qc_terms.specs.declared.term.Dest.{Dest}
use Rattle.qc_terms.specs.declared.term.Dest.TheVariants as dest
use Rattle.qc_terms.specs.declared.term.Effect.{Effect}
use Rattle.qc_terms.specs.declared.term.Place.{Place}
use Rattle.qc_terms.specs.declared.term.Place.TheVariants.{Cell, Operand}
use Rattle.qc_terms.specs.declared.term.Term.{Term}
use Rattle.qc_terms.specs.Effects.{Write, ToCell, ToCounter, ToHalt, ToMemory, ToOutput, ToTrap, after_write, after_writes, event_of, guard_of, store_at, write_of, writes_of, writes_of_effect}
use Rattle.qc_terms.specs.declared.state.Event.TheVariants.{Ended, Out, Quiet, Trapped}
use Rattle.qc_terms.specs.declared.state.Event.{Event}
use Rattle.qc_terms.specs.Cells.{with_cell}
use Rattle.qc_terms.specs.State.{is_zero_cell}
use Rattle.qc_terms.specs.Tree.{tree_of}
use Rattle.qc_terms.specs.Value.{index_of, space_of}
use Rattle.qc_meaning.specs.Law.Agree.{Agree}
use Rattle.qc_meaning.specs.Fine.{AreFine, IsFineDestination, IsFineEffect, IsFineGuard, IsFineRegister, IsFineStore, IsFineTerm, IsKnownPlace, Marking, Rules, all_marks_after, bytes_written, counts, guard_mark, is_false, mark_written, marks_after, marks_at, word_mark}
use Rattle.qc_meaning.specs.Marks.{Address, Clean, Mark, Reading, Stray, is_clean, joined, mark_of, worth}
use Rattle.qc_meaning.specs.Code.{or_else}
use Rattle.qc_meaning.specs.Runs.{counter_of}
use Rattle.qc_meaning.specs.Law.Bytes.{store-length}
use Rattle.qc_meaning.specs.Law.Values.{AreInside, clash, is_clean-clean, ReadAlike, fine_too, has_worth, joined-left, same_reads}
use Rattle.qc_meaning.specs.Law.Writes.{agree_cell, agree_store, cell_writes}

-- ---- what doesn't change

-- The state has the facts and the size of memory of the one that is read.
pub record IsShaped (r : Reading) (s : State) : Type 0 where
  pub facts : s.facts ≡ r.state.facts
  pub memory : length s.memory ≡ length r.state.memory

-- ---- one write on each side

-- Writes of both sides that leave states which agree, and show the same.
pub record Both (r : Reading) (ws us : List Write) (marks : Marking → Marking) : Type 0 where
  pub agree : (m : Marking) (s u : State) → IsShaped r s → Agree m s u → Agree (marks m) (after_writes ws s) (after_writes us u)
  pub shaped : (s : State) → IsShaped r s → IsShaped r (after_writes ws s)
  pub event : event_of us ≡ event_of ws
  pub jumps : is_some (counter_of us) ≡ is_some (counter_of ws)

-- nothing is written
both_nothing : (r : Reading) → Both r [] [] (λ m. m)
both_nothing r = record { agree = λ m s u shaped agree. agree; shaped = λ s shaped. shaped; event = refl; jumps = refl }

cell_event : (b : Bool) (space index word : ℕ) → event_of (cell_writes b space index word) ≡ Quiet
cell_event true space index word = refl
cell_event false space index word = refl

cell_counter : (b : Bool) (space index word : ℕ) → counter_of (cell_writes b space index word) ≡ None
cell_counter true space index word = refl
cell_counter false space index word = refl

cell_shaped : (r : Reading) (b : Bool) (space index word : ℕ) (s : State) → IsShaped r s → IsShaped r (after_writes (cell_writes b space index word) s)
cell_shaped r false space index word s shaped = shaped
cell_shaped r true space index word s shaped = elim (cases_Bool (is_zero_cell s.facts.zero space index)) [
  | inl is ↦ subst (IsShaped r) (sym (ap (λ z. if z then s else record s { cells = with_cell s.cells space index word }) is)) shaped
  | inr free ↦ subst (IsShaped r) (sym (ap (λ z. if z then s else record s { cells = with_cell s.cells space index word }) free))
      (record { facts = shaped.facts; memory = shaped.memory })
]

-- the index that both sides name
known_index : (r q : Reading) → ReadAlike r q → (place : Place) → IsKnownPlace r place → index_of place q.operands ≡ index_of place r.operands
known_index r q alike (Cell space index) known = refl
known_index r q alike (Operand space number) known = alike.operands number known

-- A register is written on one side or both, with words that are the same where no mark is left.
both_cells : (r q : Reading) (place : Place) (guard mark : Mark) (first second : Bool) (word other : ℕ) →
    ReadAlike r q → IsKnownPlace r place →
    ((old : Mark) → mark_written guard mark old ≡ Clean → (other ≡ word) × (first ≡ true) × (second ≡ true)) →
    Both r (cell_writes first (space_of place) (index_of place r.operands) word)
    (cell_writes second (space_of place) (index_of place q.operands) other) (marks_at r guard mark (dest.Reg place))
both_cells r q place guard mark first second word other alike known words =
    let space = space_of place in
    let index = index_of place r.operands in
    subst (λ i. Both r (cell_writes first space index word) (cell_writes second space i other) (marks_at r guard mark (dest.Reg place)))
    (sym (known_index r q alike place known))
    (record {
      agree = λ m s u shaped agree.
          agree_cell m s u space index word other (mark_written guard mark (m.cell space index)) first second agree
          (words (m.cell space index));
      shaped = λ s shaped. cell_shaped r first space index word s shaped;
      event = cell_event second space index other ∙ sym (cell_event first space index word);
      jumps = ap is_some (cell_counter second space index other ∙ sym (cell_counter first space index word));
    })

-- ---- one destination

-- the write that a destination gets on both sides, under a guard that both find true
record Wrote (r q : Reading) (guard mark : Mark) (word other : ℕ) (to : Dest) : Type 0 where
  x : Write
  y : Write
  first : write_of to r.operands r.next r.state word ≡ Some x
  second : write_of to q.operands q.next q.state other ≡ Some y
  both : Both r (x ∷ []) (y ∷ []) (marks_at r guard mark to)

written_clean : (guard mark old : Mark) → guard ≡ Clean → mark_written guard mark old ≡ Clean → mark ≡ Clean
written_clean Clean mark old unmarked clean = clean
written_clean Address mark old unmarked clean = joined-left mark old clean
written_clean Stray mark old unmarked clean = joined-left mark old clean

wrote_register : (rules : Rules) (r q : Reading) → ReadAlike r q → (guard mark : Mark) (word other : ℕ) → guard ≡ Clean →
    (mark ≡ Clean → other ≡ word) → (place : Place) → IsFineRegister rules r mark place → Wrote r q guard mark word other (dest.Reg place)
wrote_register rules r q alike guard mark word other unmarked words place fine = record {
  x = ToCell (space_of place) (index_of place r.operands) word;
  y = ToCell (space_of place) (index_of place q.operands) other;
  first = refl;
  second = refl;
  both = both_cells r q place guard mark true true word other alike fine.known
      (λ old clean. (words (written_clean guard mark old unmarked clean), refl, refl));
}

-- an allowed access is inside the memory that both have
store_inside_both : (r : Reading) (count address word : ℕ) (memory : ℕ) (s : State) → length s.memory ≡ memory → address + count ≤ memory →
    store_at s.memory count word address ≡ Some (ToMemory address count word)
store_inside_both r count address word memory s same inside =
    ap (λ b. if b then Some (ToMemory address count word) else None) (le-leb (address + count) (length s.memory) (omega (arith, same, inside)))

wrote_store : (rules : Rules) (r q : Reading) → ReadAlike r q → AreInside rules (length r.state.memory) → (guard mark : Mark) (word other : ℕ) →
    (mark ≡ Clean → other ≡ word) → (width : ℕ) (address : Term) → IsFineStore rules r guard mark (width / 8) (tree_of address) →
    Wrote r q guard mark word other (dest.Mem width address)
wrote_store rules r q alike inside guard mark word other words width address fine =
    let count = width / 8 in
    let at = fine.address.address in
    let same = same_reads rules r q alike inside (tree_of address) fine.term in
    let there : worth q (tree_of address) ≡ Some at = same.word fine.address.clean ∙ fine.address.is in
    let room = inside at count fine.address.allowed in
    record {
      x = ToMemory at count word;
      y = ToMemory at count other;
      first =
          ap (option_and_then (store_at r.state.memory count word)) fine.address.is
          ∙ store_inside_both r count at word (length r.state.memory) r.state refl room;
      second =
          ap (option_and_then (store_at q.state.memory count other)) there
          ∙ store_inside_both q count at other (length r.state.memory) q.state alike.memory room;
      both = record {
        agree = λ m s u shaped agree.
            subst (λ w. Agree (bytes_written m count mark w) (after_write (ToMemory at count word) s) (after_write (ToMemory at count other) u))
            (sym fine.address.is)
            (agree_store m s u count at word other mark agree (omega (arith, room, shaped.memory)) words);
        shaped = λ s shaped. record {
          facts = shaped.facts;
          memory = store-length s.facts.order s.memory count at word (omega (arith, room, shaped.memory)) ∙ shaped.memory;
        };
        event = refl;
        jumps = refl;
      };
    }

-- what agrees, with other program counters
pub other_counters : (m : Marking) (s u : State) (a b : ℕ) → Agree m s u → Agree m (record s { pc = a }) (record u { pc = b })
other_counters m s u a b agree = record {
  facts = agree.facts;
  widths = agree.widths;
  rows = agree.rows;
  cells = agree.cells;
  memory = agree.memory;
  bytes = agree.bytes;
  input = agree.input;
  taken = agree.taken;
  ending = agree.ending;
}

-- what agrees, with one ending
pub same_endings : (m : Marking) (s u : State) (e f : Option Event) → f ≡ e → Agree m s u → Agree m (record s { ending = e }) (record u { ending = f })
same_endings m s u e f same agree = record {
  facts = agree.facts;
  widths = agree.widths;
  rows = agree.rows;
  cells = agree.cells;
  memory = agree.memory;
  bytes = agree.bytes;
  input = agree.input;
  taken = agree.taken;
  ending = same;
}

wrote : (rules : Rules) (r q : Reading) → ReadAlike r q → AreInside rules (length r.state.memory) → (guard mark : Mark) (word other : ℕ) →
    guard ≡ Clean → (mark ≡ Clean → other ≡ word) → (to : Dest) → IsFineDestination rules r guard mark to → Wrote r q guard mark word other to
wrote rules r q alike inside guard mark word other unmarked words (dest.Reg place) fine =
    wrote_register rules r q alike guard mark word other unmarked words place fine
wrote rules r q alike inside guard mark word other unmarked words (dest.Mem width address) fine =
    wrote_store rules r q alike inside guard mark word other words width address fine
wrote rules r q alike inside guard mark word other unmarked words dest.Pc fine = record {
  x = ToCounter word;
  y = ToCounter other;
  first = refl;
  second = refl;
  both = record {
    agree = λ m s u shaped agree. other_counters m s u word other agree;
    shaped = λ s shaped. record { facts = shaped.facts; memory = shaped.memory };
    event = refl;
    jumps = refl;
  };
}
wrote rules r q alike inside guard mark word other unmarked words dest.Out fine = record {
  x = ToOutput word;
  y = ToOutput other;
  first = refl;
  second = refl;
  both = record {
    agree = λ m s u shaped agree. agree;
    shaped = λ s shaped. shaped;
    event = ap Out (words fine);
    jumps = refl;
  };
}
wrote rules r q alike inside guard mark word other unmarked words dest.Halt fine = record {
  x = ToHalt word;
  y = ToHalt other;
  first = refl;
  second = refl;
  both = record {
    agree = λ m s u shaped agree. same_endings m s u (Some (Ended word)) (Some (Ended other)) (ap (λ c. Some (Ended c)) (words fine)) agree;
    shaped = λ s shaped. record { facts = shaped.facts; memory = shaped.memory };
    event = ap Ended (words fine);
    jumps = refl;
  };
}
wrote rules r q alike inside guard mark word other unmarked words dest.Trap fine = record {
  x = ToTrap word;
  y = ToTrap other;
  first = refl;
  second = refl;
  both = record {
    agree = λ m s u shaped agree. agree;
    shaped = λ s shaped. shaped;
    event = ap Trapped (words fine);
    jumps = refl;
  };
}

-- ---- one effect

-- what an effect writes, by its guard
writes_none : (e : Effect) (r : Reading) (g : ℕ) → guard_of e.guard r.operands r.next r.state ≡ Some g → nat_eq g 0 ≡ true →
    writes_of_effect e r.operands r.next r.state ≡ Some []
unfolding writes_of_effect
writes_none e r g guard is_zero =
    ap
    (option_and_then (λ guard. if nat_eq guard 0 then Some [] else
    option_map (λ write. write ∷ []) (option_and_then (write_of e.to r.operands r.next r.state) (worth r (tree_of e.value)))))
    guard
    ∙ ap (λ b. if b then Some [] else
    option_map (λ write. write ∷ []) (option_and_then (write_of e.to r.operands r.next r.state) (worth r (tree_of e.value)))) is_zero

writes_one : (e : Effect) (r : Reading) (g v : ℕ) (x : Write) → guard_of e.guard r.operands r.next r.state ≡ Some g → nat_eq g 0 ≡ false →
    worth r (tree_of e.value) ≡ Some v → write_of e.to r.operands r.next r.state v ≡ Some x →
    writes_of_effect e r.operands r.next r.state ≡ Some (x ∷ [])
unfolding writes_of_effect
writes_one e r g v x guard not_zero value write =
    ap
    (option_and_then (λ guard. if nat_eq guard 0 then Some [] else
    option_map (λ write. write ∷ []) (option_and_then (write_of e.to r.operands r.next r.state) (worth r (tree_of e.value)))))
    guard
    ∙ ap (λ b. if b then Some [] else
    option_map (λ write. write ∷ []) (option_and_then (write_of e.to r.operands r.next r.state) (worth r (tree_of e.value)))) not_zero
    ∙ ap (λ w. option_map (λ write. write ∷ []) (option_and_then (write_of e.to r.operands r.next r.state) w)) value
    ∙ ap (option_map (λ write. write ∷ [])) write

-- the guards that both sides find
record Guards (r q : Reading) (guard : Option Term) : Type 0 where
  word : ℕ
  other : ℕ
  first : guard_of guard r.operands r.next r.state ≡ Some word
  second : guard_of guard q.operands q.next q.state ≡ Some other
  mark : guard_mark q guard ≡ guard_mark r guard
  same : guard_mark r guard ≡ Clean → other ≡ word

some_is : (a b : ℕ) → Some a ≡ Some b → a ≡ b
some_is a b same = cc

guards : (rules : Rules) (r q : Reading) → ReadAlike r q → AreInside rules (length r.state.memory) → AreInside rules (length q.state.memory) →
    (guard : Option Term) → IsFineGuard rules r guard → Guards r q guard
guards rules r q alike inside inside_q None fine =
    record { word = 1; other = 1; first = refl; second = refl; mark = refl; same = λ clean. refl }
guards rules r q alike inside inside_q (Some guard) fine =
    let t = tree_of guard in
    let a = has_worth rules r inside t fine in
    let b = has_worth rules q inside_q t (fine_too rules r q alike inside t fine) in
    let same = same_reads rules r q alike inside t fine in
    record {
      word = a.word;
      other = b.word;
      first = a.is;
      second = b.is;
      mark = same.mark;
      same = λ clean. some_is b.word a.word (sym b.is ∙ same.word clean ∙ a.is);
    }

record EffectBoth (r q : Reading) (e : Effect) : Type 0 where
  ws : List Write
  us : List Write
  first : writes_of_effect e r.operands r.next r.state ≡ Some ws
  second : writes_of_effect e q.operands q.next q.state ≡ Some us
  both : Both r ws us (marks_after r e)

-- the values that both sides find
record Values (r q : Reading) (e : Effect) : Type 0 where
  word : ℕ
  other : ℕ
  first : worth r (tree_of e.value) ≡ Some word
  second : worth q (tree_of e.value) ≡ Some other
  same : mark_of r (tree_of e.value) ≡ Clean → other ≡ word

values : (rules : Rules) (r q : Reading) → ReadAlike r q → AreInside rules (length r.state.memory) → AreInside rules (length q.state.memory) →
    (e : Effect) → IsFineTerm rules r (tree_of e.value) → Values r q e
values rules r q alike inside inside_q e fine =
    let t = tree_of e.value in
    let a = has_worth rules r inside t fine in
    let b = has_worth rules q inside_q t (fine_too rules r q alike inside t fine) in
    let same = same_reads rules r q alike inside t fine in
    record {
      word = a.word;
      other = b.word;
      first = a.is;
      second = b.is;
      same = λ clean. some_is b.word a.word (sym b.is ∙ same.word clean ∙ a.is);
    }

-- the marks after an effect that counts, and after one that doesn't
marks_counted : (r : Reading) (e : Effect) (ws us : List Write) → counts r e ≡ true →
    Both r ws us (marks_at r (guard_mark r e.guard) (word_mark r e) e.to) → Both r ws us (marks_after r e)
marks_counted r e ws us counted both =
    subst (λ b. Both r ws us (λ m. if b then marks_at r (guard_mark r e.guard) (word_mark r e) e.to m else m)) (sym counted) both

marks_uncounted : (r : Reading) (e : Effect) (ws us : List Write) → counts r e ≡ false → Both r ws us (λ m. m) → Both r ws us (marks_after r e)
marks_uncounted r e ws us counted both =
    subst (λ b. Both r ws us (λ m. if b then marks_at r (guard_mark r e.guard) (word_mark r e) e.to m else m)) (sym counted) both

-- an effect under a guard without a mark: false, or true
under_false : (r q : Reading) (e : Effect) → guard_mark r e.guard ≡ Clean → (both : Guards r q e.guard) → nat_eq both.word 0 ≡ true → EffectBoth r q e
under_false r q e clean both is_zero = record {
  ws = [];
  us = [];
  first = writes_none e r both.word both.first is_zero;
  second = writes_none e q both.other both.second (ap (λ w. nat_eq w 0) (both.same clean) ∙ is_zero);
  both = marks_uncounted r e [] []
      (ap (λ m. not (is_clean m && is_false (guard_of e.guard r.operands r.next r.state))) clean
      ∙ ap (λ g. not (is_false g)) both.first ∙ ap not is_zero)
      (both_nothing r);
}

under_true : (rules : Rules) (r q : Reading) → ReadAlike r q → AreInside rules (length r.state.memory) → AreInside rules (length q.state.memory) →
    (e : Effect) → IsFineEffect rules r e → guard_mark r e.guard ≡ Clean → (both : Guards r q e.guard) → nat_eq both.word 0 ≡ false →
    EffectBoth r q e
under_true rules r q alike inside inside_q e fine clean both not_zero =
    let counted : counts r e ≡ true =
    ap (λ m. not (is_clean m && is_false (guard_of e.guard r.operands r.next r.state))) clean
    ∙ ap (λ g. not (is_false g)) both.first ∙ ap not not_zero in
    let found = values rules r q alike inside inside_q e (fine.value counted) in
    let marked : word_mark r e ≡ mark_of r (tree_of e.value) = ap (λ m. joined m (mark_of r (tree_of e.value))) clean in
    let it = wrote rules r q alike inside (guard_mark r e.guard) (word_mark r e) found.word found.other clean
    (λ none. found.same (sym marked ∙ none)) e.to (fine.to counted) in
    record {
      ws = it.x ∷ [];
      us = it.y ∷ [];
      first = writes_one e r both.word found.word it.x both.first not_zero found.first it.first;
      second = writes_one e q both.other found.other it.y both.second (ap (λ w. nat_eq w 0) (both.same clean) ∙ not_zero) found.second it.second;
      both = marks_counted r e (it.x ∷ []) (it.y ∷ []) counted it.both;
    }

-- an effect under a marked guard goes to a register
cell_writes_of : (r : Reading) (e : Effect) (place : Place) (g v : ℕ) → e.to ≡ dest.Reg place → guard_of e.guard r.operands r.next r.state ≡ Some g →
    worth r (tree_of e.value) ≡ Some v →
    writes_of_effect e r.operands r.next r.state ≡ Some (cell_writes (not (nat_eq g 0)) (space_of place) (index_of place r.operands) v)
cell_writes_of r e place g v to guard value = go (nat_eq g 0) refl
  where
    go : (b : Bool) → nat_eq g 0 ≡ b →
        writes_of_effect e r.operands r.next r.state ≡ Some (cell_writes (not (nat_eq g 0)) (space_of place) (index_of place r.operands) v)
    go true is =
        writes_none e r g guard is ∙ sym (ap (λ b. Some (cell_writes (not b) (space_of place) (index_of place r.operands) v)) is)
    go false is =
        writes_one e r g v (ToCell (space_of place) (index_of place r.operands) v) guard is value
        (ap (λ t. write_of t r.operands r.next r.state v) to)
        ∙ sym (ap (λ b. Some (cell_writes (not b) (space_of place) (index_of place r.operands) v)) is)

not_clean : (m : Mark) → is_clean m ≡ false → m ≡ Clean → ⊥
not_clean m marked clean = clash (sym (ap is_clean clean) ∙ marked)

written_marked : (guard mark old : Mark) → is_clean guard ≡ false → mark_written guard mark old ≡ Clean → mark ≡ Clean
written_marked Clean mark old marked clean = clean
written_marked Address mark old marked clean = joined-left mark old clean
written_marked Stray mark old marked clean = joined-left mark old clean

under_marked_register : (rules : Rules) (r q : Reading) → ReadAlike r q → (e : Effect) → is_clean (guard_mark r e.guard) ≡ false →
    counts r e ≡ true → Guards r q e.guard → Values r q e → (place : Place) → e.to ≡ dest.Reg place → IsKnownPlace r place → EffectBoth r q e
under_marked_register rules r q alike e marked counted both found place to known =
    let gm = guard_mark r e.guard in
    let wm = word_mark r e in
    record {
      ws = cell_writes (not (nat_eq both.word 0)) (space_of place) (index_of place r.operands) found.word;
      us = cell_writes (not (nat_eq both.other 0)) (space_of place) (index_of place q.operands) found.other;
      first = cell_writes_of r e place both.word found.word to both.first found.first;
      second = cell_writes_of q e place both.other found.other to both.second found.second;
      both = marks_counted r e
          (cell_writes (not (nat_eq both.word 0)) (space_of place) (index_of place r.operands) found.word)
          (cell_writes (not (nat_eq both.other 0)) (space_of place) (index_of place q.operands) found.other) counted
          (subst
          (λ t. Both r (cell_writes (not (nat_eq both.word 0)) (space_of place) (index_of place r.operands) found.word)
          (cell_writes (not (nat_eq both.other 0)) (space_of place) (index_of place q.operands) found.other) (marks_at r gm wm t))
          (sym to)
          (both_cells r q place gm wm (not (nat_eq both.word 0)) (not (nat_eq both.other 0)) found.word found.other alike known
          (λ old clean. absurd (not_clean gm marked (joined-left gm (mark_of r (tree_of e.value)) (written_marked gm wm old marked clean))))));
    }

under_marked : (rules : Rules) (r q : Reading) → ReadAlike r q → (e : Effect) → is_clean (guard_mark r e.guard) ≡ false →
    counts r e ≡ true → Guards r q e.guard → Values r q e → (to : Dest) → e.to ≡ to →
    IsFineDestination rules r (guard_mark r e.guard) (word_mark r e) to → EffectBoth r q e
under_marked rules r q alike e marked counted both found (dest.Reg place) to fine =
    under_marked_register rules r q alike e marked counted both found place to fine.known
under_marked rules r q alike e marked counted both found (dest.Mem width address) to fine =
    absurd (not_clean (guard_mark r e.guard) marked fine.unmarked)
under_marked rules r q alike e marked counted both found dest.Pc to fine = absurd (not_clean (guard_mark r e.guard) marked fine.0)
under_marked rules r q alike e marked counted both found dest.Out to fine =
    absurd (not_clean (guard_mark r e.guard) marked (joined-left (guard_mark r e.guard) (mark_of r (tree_of e.value)) fine))
under_marked rules r q alike e marked counted both found dest.Halt to fine =
    absurd (not_clean (guard_mark r e.guard) marked (joined-left (guard_mark r e.guard) (mark_of r (tree_of e.value)) fine))
under_marked rules r q alike e marked counted both found dest.Trap to fine =
    absurd (not_clean (guard_mark r e.guard) marked (joined-left (guard_mark r e.guard) (mark_of r (tree_of e.value)) fine))

-- a fine effect does the same on both sides, but for marked words
effect_both : (rules : Rules) (r q : Reading) → ReadAlike r q → AreInside rules (length r.state.memory) → AreInside rules (length q.state.memory) →
    (e : Effect) → IsFineEffect rules r e → EffectBoth r q e
effect_both rules r q alike inside inside_q e fine =
    let both = guards rules r q alike inside inside_q e.guard fine.guard in
    elim (cases_Bool (is_clean (guard_mark r e.guard))) [
      | inl unmarked ↦
          let clean = is_clean-clean (guard_mark r e.guard) unmarked in
          elim (cases_Bool (nat_eq both.word 0)) [
            | inl is_zero ↦ under_false r q e clean both is_zero
            | inr not_zero ↦ under_true rules r q alike inside inside_q e fine clean both not_zero
          ]
      | inr marked ↦
          let counted : counts r e ≡ true = ap (λ b. not (b && is_false (guard_of e.guard r.operands r.next r.state))) marked in
          under_marked rules r q alike e marked counted both (values rules r q alike inside inside_q e (fine.value counted)) e.to refl (fine.to counted)
    ]

-- ---- all effects of a line

after_writes-append : (ws vs : List Write) (s : State) → after_writes (ws ++ vs) s ≡ after_writes vs (after_writes ws s)
after_writes-append [] vs s = refl
after_writes-append (w ∷ ws) vs s = after_writes-append ws vs (after_write w s)

-- the first of two events that shows something
abbrev first_event : Event → Event → Event
first_event Quiet other = other
first_event event other = event

event-append : (ws vs : List Write) → event_of (ws ++ vs) ≡ first_event (event_of ws) (event_of vs)
event-append [] vs = refl
event-append (ToCell space index word ∷ ws) vs = event-append ws vs
event-append (ToMemory address count word ∷ ws) vs = event-append ws vs
event-append (ToCounter word ∷ ws) vs = event-append ws vs
event-append (ToOutput word ∷ ws) vs = refl
event-append (ToHalt code ∷ ws) vs = refl
event-append (ToTrap code ∷ ws) vs = refl

-- the program counter is set in both lists together where it is in one
is_some_or : (a b : Option ℕ) → is_some (or_else a b) ≡ (is_some a || is_some b)
is_some_or None b = refl
is_some_or (Some a) b = refl

counter-append : (ws vs : List Write) → is_some (counter_of (ws ++ vs)) ≡ (is_some (counter_of ws) || is_some (counter_of vs))
counter-append [] vs = refl
counter-append (ToCell space index word ∷ ws) vs = counter-append ws vs
counter-append (ToMemory address count word ∷ ws) vs = counter-append ws vs
counter-append (ToCounter word ∷ ws) vs =
    is_some_or (counter_of (ws ++ vs)) (Some word) ∙ ap (λ b. b || true) (counter-append ws vs)
    ∙ ordered (is_some (counter_of ws)) (is_some (counter_of vs)) ∙ ap (λ b. b || is_some (counter_of vs)) (sym (is_some_or (counter_of ws) (Some word)))
  where
    ordered : (a b : Bool) → ((a || b) || true) ≡ ((a || true) || b)
    ordered true b = refl
    ordered false true = refl
    ordered false false = refl
counter-append (ToOutput word ∷ ws) vs = counter-append ws vs
counter-append (ToHalt code ∷ ws) vs = counter-append ws vs
counter-append (ToTrap code ∷ ws) vs = counter-append ws vs

both_more : (r : Reading) (ws us vs xs : List Write) (f g : Marking → Marking) → Both r ws us f → Both r vs xs g →
    Both r (ws ++ vs) (us ++ xs) (λ m. g (f m))
both_more r ws us vs xs f g first second = record {
  agree = λ m s u shaped agree.
      subst (λ t. Agree (g (f m)) t (after_writes (us ++ xs) u)) (sym (after_writes-append ws vs s))
      (subst (Agree (g (f m)) (after_writes vs (after_writes ws s))) (sym (after_writes-append us xs u))
      (second.agree (f m) (after_writes ws s) (after_writes us u) (first.shaped s shaped) (first.agree m s u shaped agree)));
  shaped = λ s shaped. subst (IsShaped r) (sym (after_writes-append ws vs s)) (second.shaped (after_writes ws s) (first.shaped s shaped));
  event =
      event-append us xs ∙ ap (λ e. first_event e (event_of xs)) first.event ∙ ap (first_event (event_of ws)) second.event
      ∙ sym (event-append ws vs);
  jumps =
      counter-append us xs ∙ ap (λ b. b || is_some (counter_of xs)) first.jumps ∙ ap (λ b. is_some (counter_of ws) || b) second.jumps
      ∙ sym (counter-append ws vs);
}

pub record AllBoth (r q : Reading) (es : List Effect) : Type 0 where
  pub ws : List Write
  pub us : List Write
  pub first : writes_of es r.operands r.next r.state ≡ Some ws
  pub second : writes_of es q.operands q.next q.state ≡ Some us
  pub both : Both r ws us (all_marks_after r es)

pub all_both : (rules : Rules) (r q : Reading) → ReadAlike r q → AreInside rules (length r.state.memory) → AreInside rules (length q.state.memory) →
    (es : List Effect) → AreFine rules r es → AllBoth r q es
all_both rules r q alike inside inside_q [] fine =
    record { ws = []; us = []; first = refl; second = refl; both = both_nothing r }
all_both rules r q alike inside inside_q (e ∷ es) fine =
    let one = effect_both rules r q alike inside inside_q e fine.0 in
    let more = all_both rules r q alike inside inside_q es fine.1 in
    record {
      ws = one.ws ++ more.ws;
      us = one.us ++ more.us;
      first =
          ap (option_and_then (λ first. option_map (λ rest. first ++ rest) (writes_of es r.operands r.next r.state))) one.first
          ∙ ap (option_map (λ rest. one.ws ++ rest)) more.first;
      second =
          ap (option_and_then (λ first. option_map (λ rest. first ++ rest) (writes_of es q.operands q.next q.state))) one.second
          ∙ ap (option_map (λ rest. one.us ++ rest)) more.second;
      both = both_more r one.ws one.us more.ws more.us (marks_after r e) (all_marks_after r es) one.both more.both;
    }
