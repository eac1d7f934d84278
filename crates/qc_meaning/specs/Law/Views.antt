-- What a line sees of a run's data, and the data after it, agree but for marked words where the data do.
use Rattle.std.proofs.Common.{◌≡◌, ◌≢◌, ◌∙◌, ◌+◌, ◌-◌, ◌<◌, ◌≤◌, ◌&&◌, ◌++◌, ◌∷◌, ℕ, zero, suc, List, [], length, map, drop, get_or, true, false, slice_index, slice_set, if◌then◌else◌, nat_eq, nat_le, inl, inr, refl, ap, sym, subst, arith, length-append}
use Rattle.std.proofs.lemmas.Bool.{cases_Bool, cases_lt, eq-eqb, eqb-true, le-leb, lt-leb}
use Rattle.std.proofs.lemmas.List.{get_or-append-add, get_or-set_other, get_or-set_same, get_or_append_left, get_or_past, length-map}
use Rattle.qc_terms.specs.declared.state.State.{State}
use Rattle.qc_terms.specs.Cells.{cell_of, row_of}
use Rattle.qc_terms.specs.State.{is_zero_cell}
use Rattle.qc_descr.specs.declared.description.Description.{Description}
use Rattle.qc_meaning.specs.Law.Agree.{Agree}
use Rattle.qc_meaning.specs.Marked.{Ghost, is_virtual, seen_marks}
use Rattle.qc_meaning.specs.Marks.{Clean, Mark}
use Rattle.qc_meaning.specs.Runs.{Data, frame_in, own_cells, seen_by}
use Rattle.qc_meaning.specs.Law.Sound.{HasOwnRow}
use Rattle.qc_meaning.specs.Law.Values.{clash}

-- ---- one row among rows

abbrev pub with_own_row : List (List ℕ) → ℕ → List ℕ → List (List ℕ)
with_own_row cells a row = slice_set cells a row

pub row_at : (cells : List (List ℕ)) (a : ℕ) (row : List ℕ) → a < length cells → row_of (with_own_row cells a row) a ≡ row
row_at cells a row known = get_or-set_same cells a row [] known

pub row_beside : (cells : List (List ℕ)) (a b : ℕ) (row : List ℕ) → b ≢ a → row_of (with_own_row cells a row) b ≡ row_of cells b
row_beside cells a b row other = get_or-set_other cells a b row [] other

-- the lengths of rows, of which one was exchanged
pub lengths_with : (cells : List (List ℕ)) (a : ℕ) (row : List ℕ) → map length (with_own_row cells a row) ≡ slice_set (map length cells) a (length row)
lengths_with [] a row = refl
lengths_with (x ∷ xs) zero row = refl
lengths_with (x ∷ xs) (suc a) row = ap (λ ns. length x ∷ ns) (lengths_with xs a row)

pub row_lengths : (xs ys : List (List ℕ)) (a : ℕ) → map length ys ≡ map length xs → length (row_of ys a) ≡ length (row_of xs a)
row_lengths [] [] a same = refl
row_lengths [] (y ∷ ys) a same = cc
row_lengths (x ∷ xs) [] a same = cc
row_lengths (x ∷ xs) (y ∷ ys) zero same = ap (λ l. get_or l 0 0) same
row_lengths (x ∷ xs) (y ∷ ys) (suc a) same = row_lengths xs ys a (ap (drop 1) same)

pub rows_count : (xs ys : List (List ℕ)) → map length ys ≡ map length xs → length ys ≡ length xs
rows_count xs ys same = sym (length-map ys length) ∙ ap length same ∙ length-map xs length

-- ---- data that agree

-- Data of two runs agree but for marked words.
pub record Together (g : Ghost) (r q : Data) : Type 0 where
  pub machine : Agree (record { cell = g.cells; byte = g.memory }) r.machine q.machine
  pub lengths : (p f : ℕ) → length (q.registers p f) ≡ length (r.registers p f)
  pub registers : (p f n : ℕ) → n < length (r.registers p f) → g.registers p f n ≡ Clean → slice_index (q.registers p f) n ≡ slice_index (r.registers p f) n
  pub output : q.output ≡ r.output
  pub calls : q.calls ≡ r.calls

-- ---- what a line sees

-- the cells with virtual registers behind those of the allocatable space
abbrev pub wide_cells : Description → List (List ℕ) → List ℕ → List (List ℕ)
wide_cells d cells row = with_own_row cells d.allocatable (row_of cells d.allocatable ++ row)

not_virtual : (d : Description) (space index : ℕ) → space ≢ d.allocatable → is_virtual d space index ≡ false
not_virtual d space index other = elim (cases_Bool (nat_eq space d.allocatable)) [
  | inl same ↦ absurd (other (eqb-true space d.allocatable same))
  | inr apart ↦ ap (λ b. b && nat_le (own_cells d) index) apart
]

own_not_virtual : (d : Description) (index : ℕ) → index < own_cells d → is_virtual d d.allocatable index ≡ false
own_not_virtual d index own =
    ap (λ b. b && nat_le (own_cells d) index) (eq-eqb d.allocatable d.allocatable refl) ∙ lt-leb (own_cells d) index own

behind_virtual : (d : Description) (index : ℕ) → own_cells d ≤ index → is_virtual d d.allocatable index ≡ true
behind_virtual d index behind =
    ap (λ b. b && nat_le (own_cells d) index) (eq-eqb d.allocatable d.allocatable refl) ∙ le-leb (own_cells d) index behind

-- a cell of another space, an own cell, and a virtual register
beside_cell : (d : Description) (cells : List (List ℕ)) (row : List ℕ) (space index : ℕ) → space ≢ d.allocatable →
    cell_of (wide_cells d cells row) space index ≡ cell_of cells space index
beside_cell d cells row space index other =
    ap (λ l. slice_index l index) (row_beside cells d.allocatable space (row_of cells d.allocatable ++ row) other)

own_cell : (d : Description) (cells : List (List ℕ)) (row : List ℕ) (index : ℕ) → d.allocatable < length cells →
    index < length (row_of cells d.allocatable) → cell_of (wide_cells d cells row) d.allocatable index ≡ cell_of cells d.allocatable index
own_cell d cells row index known own =
    ap (λ l. slice_index l index) (row_at cells d.allocatable (row_of cells d.allocatable ++ row) known)
    ∙ get_or_append_left (row_of cells d.allocatable) row 0 index own

virtual_cell : (d : Description) (cells : List (List ℕ)) (row : List ℕ) (index : ℕ) → d.allocatable < length cells →
    length (row_of cells d.allocatable) ≤ index →
    cell_of (wide_cells d cells row) d.allocatable index ≡ slice_index row (index - length (row_of cells d.allocatable))
virtual_cell d cells row index known behind =
    let own = row_of cells d.allocatable in
    let place : index ≡ length own + (index - length own) = omega (arith, behind) in
    ap (λ l. slice_index l index) (row_at cells d.allocatable (own ++ row) known)
    ∙ ap (slice_index (own ++ row)) place
    ∙ get_or-append-add own row (index - length own) 0

-- words of two rows are the same where the first one has them, and 0 behind
row_agrees : (xs ys : List ℕ) (mark : ℕ → Mark) → length ys ≡ length xs → ((n : ℕ) → n < length xs → mark n ≡ Clean → slice_index ys n ≡ slice_index xs n) →
    (n : ℕ) → mark n ≡ Clean → slice_index ys n ≡ slice_index xs n
row_agrees xs ys mark lengths same n clean = elim (cases_lt n (length xs)) [
  | inl inside ↦ same n inside clean
  | inr outside ↦ get_or_past ys n 0 (omega (arith, lengths, outside)) ∙ sym (get_or_past xs n 0 outside)
]

-- the allocatable space of the other data
own_row_too : (d : Description) (g : Ghost) (r q : Data) → HasOwnRow d r → Together g r q → HasOwnRow d q
own_row_too d g r q own together = record {
  known = subst (λ n. d.allocatable < n) (sym (rows_count r.machine.cells q.machine.cells together.machine.rows)) own.known;
  cells = row_lengths r.machine.cells q.machine.cells d.allocatable together.machine.rows ∙ own.cells;
}

own_space : (d : Description) (p f : ℕ) (g : Ghost) (r q : Data) → HasOwnRow d r → Together g r q → (index : ℕ) →
    is_zero_cell r.machine.facts.zero d.allocatable index ≡ false → (seen_marks d p f g).cell d.allocatable index ≡ Clean →
    cell_of (wide_cells d q.machine.cells (q.registers p f)) d.allocatable index
    ≡ cell_of (wide_cells d r.machine.cells (r.registers p f)) d.allocatable index
own_space d p f g r q own together index free clean =
    let own_q = own_row_too d g r q own together in
    elim (cases_lt index (own_cells d)) [
      | inl inside ↦
          own_cell d q.machine.cells (q.registers p f) index own_q.known (omega (arith, inside, own_q.cells))
          ∙ together.machine.cells d.allocatable index free
          (sym (ap (λ b. if b then g.registers p f (index - own_cells d) else g.cells d.allocatable index) (own_not_virtual d index inside)) ∙ clean)
          ∙ sym (own_cell d r.machine.cells (r.registers p f) index own.known (omega (arith, inside, own.cells)))
      | inr behind ↦
          virtual_cell d q.machine.cells (q.registers p f) index own_q.known (omega (arith, behind, own_q.cells))
          ∙ ap (λ n. slice_index (q.registers p f) (index - n)) own_q.cells
          ∙ row_agrees (r.registers p f) (q.registers p f) (g.registers p f) (together.lengths p f) (together.registers p f) (index - own_cells d)
          (sym (ap (λ b. if b then g.registers p f (index - own_cells d) else g.cells d.allocatable index) (behind_virtual d index behind)) ∙ clean)
          ∙ sym (ap (λ n. slice_index (r.registers p f) (index - n)) own.cells)
          ∙ sym (virtual_cell d r.machine.cells (r.registers p f) index own.known (omega (arith, behind, own.cells)))
    ]

seen_cells : (d : Description) (p f : ℕ) (g : Ghost) (r q : Data) → HasOwnRow d r → Together g r q → (space index : ℕ) →
    is_zero_cell r.machine.facts.zero space index ≡ false → (seen_marks d p f g).cell space index ≡ Clean →
    cell_of (wide_cells d q.machine.cells (q.registers p f)) space index ≡ cell_of (wide_cells d r.machine.cells (r.registers p f)) space index
seen_cells d p f g r q own together space index free clean = elim (cases_Bool (nat_eq space d.allocatable)) [
  | inl here ↦
      let same : d.allocatable ≡ space = sym (eqb-true space d.allocatable here) in
      subst
      (λ sp. is_zero_cell r.machine.facts.zero sp index ≡ false → (seen_marks d p f g).cell sp index ≡ Clean →
      cell_of (wide_cells d q.machine.cells (q.registers p f)) sp index ≡ cell_of (wide_cells d r.machine.cells (r.registers p f)) sp index)
      same (own_space d p f g r q own together index) free clean
  | inr elsewhere ↦
      let other : space ≢ d.allocatable = λ same. clash (sym (eq-eqb space d.allocatable same) ∙ elsewhere) in
      beside_cell d q.machine.cells (q.registers p f) space index other
      ∙ together.machine.cells space index free
      (sym (ap (λ b. if b then g.registers p f (index - own_cells d) else g.cells space index) (not_virtual d space index other)) ∙ clean)
      ∙ sym (beside_cell d r.machine.cells (r.registers p f) space index other)
]

-- the rows with virtual registers have the same lengths
wide_rows : (d : Description) (p f : ℕ) (g : Ghost) (r q : Data) → HasOwnRow d r → Together g r q →
    map length (wide_cells d q.machine.cells (q.registers p f)) ≡ map length (wide_cells d r.machine.cells (r.registers p f))
wide_rows d p f g r q own together =
    let own_q = own_row_too d g r q own together in
    let a = d.allocatable in
    let same : length (row_of q.machine.cells a ++ q.registers p f) ≡ length (row_of r.machine.cells a ++ r.registers p f) =
    omega (
      arith,
      length-append (row_of q.machine.cells a) (q.registers p f),
      length-append (row_of r.machine.cells a) (r.registers p f),
      own.cells,
      own_q.cells,
      together.lengths p f,
    ) in
    lengths_with q.machine.cells a (row_of q.machine.cells a ++ q.registers p f)
    ∙ ap (λ rows. slice_set rows a (length (row_of q.machine.cells a ++ q.registers p f))) together.machine.rows
    ∙ ap (slice_set (map length r.machine.cells) a) same
    ∙ sym (lengths_with r.machine.cells a (row_of r.machine.cells a ++ r.registers p f))

-- the state as a line sees it, where the frame cell has this word
abbrev pub seen_with : Description → (p f : ℕ) → Data → State
seen_with d p f r = record r.machine { cells = wide_cells d r.machine.cells (r.registers p f) }

pub seen_agree : (d : Description) (p : ℕ) (g : Ghost) (r q : Data) → HasOwnRow d r → Together g r q →
    frame_in d q.machine ≡ frame_in d r.machine →
    Agree (seen_marks d p (frame_in d r.machine) g) (seen_by d p r) (seen_by d p q)
seen_agree d p g r q own together frames =
    let f = frame_in d r.machine in
    subst (λ h. Agree (seen_marks d p f g) (seen_by d p r) (seen_with d p h q)) (sym frames)
    (record {
      facts = together.machine.facts;
      widths = together.machine.widths;
      rows = wide_rows d p f g r q own together;
      cells = seen_cells d p f g r q own together;
      memory = together.machine.memory;
      bytes = together.machine.bytes;
      input = together.machine.input;
      taken = together.machine.taken;
      ending = together.machine.ending;
    })
