-- The data after a line agree but for marked words where the states that it leaves do.
use Rattle.std.proofs.Common.{◌≡◌, ◌≢◌, ◌∙◌, ◌+◌, ◌-◌, ◌<◌, ◌≤◌, ◌&&◌, ◌++◌, ℕ, List, length, map, take, drop, min, Bool, true, false, slice_index, slice_set, if◌then◌else◌, nat_eq, inl, inr, ap, sym, subst, arith, length-drop, length-take}
use Rattle.std.proofs.lemmas.Bool.{cases_Bool, cases_lt, eq-eqb, eqb-true}
use Rattle.std.proofs.lemmas.List.{get_or-drop, get_or-take, get_or_past}
use Rattle.qc_terms.specs.declared.state.State.{State}
use Rattle.qc_terms.specs.Cells.{cell_of, row_of}
use Rattle.qc_terms.specs.Effects.{Outcome}
use Rattle.qc_terms.specs.Observation.{words_of}
use Rattle.qc_terms.specs.State.{is_zero_cell}
use Rattle.qc_descr.specs.declared.description.Description.{Description}
use Rattle.qc_meaning.specs.Law.Agree.{Agree}
use Rattle.qc_meaning.specs.Fine.{Marking}
use Rattle.qc_meaning.specs.Marked.{Ghost, ghost_of}
use Rattle.qc_meaning.specs.Marks.{Clean}
use Rattle.qc_meaning.specs.Runs.{Data, data_after, frame_in, own_cells, with_row, without_registers}
use Rattle.qc_meaning.specs.Law.Outcomes.{Alike}
use Rattle.qc_meaning.specs.Law.Values.{clash}
use Rattle.qc_meaning.specs.Law.Views.{Together, lengths_with, row_at, row_beside, row_lengths, rows_count}

-- The state has virtual registers behind the cells of the allocatable space.
pub record IsWide (d : Description) (s : State) : Type 0 where
  pub known : d.allocatable < length s.cells
  pub cells : own_cells d ≤ length (row_of s.cells d.allocatable)

-- no virtual register is the zero cell
abbrev pub NoVirtualZero : Description → State → Type 0
NoVirtualZero d s = (index : ℕ) → own_cells d ≤ index → is_zero_cell s.facts.zero d.allocatable index ≡ false

-- ---- cells without virtual registers

abbrev own_part : Description → State → List ℕ
own_part d s = take (own_cells d) (row_of s.cells d.allocatable)

narrow_beside : (d : Description) (s : State) (space index : ℕ) → space ≢ d.allocatable →
    cell_of (without_registers d s).cells space index ≡ cell_of s.cells space index
narrow_beside d s space index other = ap (λ l. slice_index l index) (row_beside s.cells d.allocatable space (own_part d s) other)

narrow_own : (d : Description) (s : State) (index : ℕ) → IsWide d s → index < own_cells d →
    cell_of (without_registers d s).cells d.allocatable index ≡ cell_of s.cells d.allocatable index
narrow_own d s index wide own =
    ap (λ l. slice_index l index) (row_at s.cells d.allocatable (own_part d s) wide.known)
    ∙ get_or-take (own_cells d) (row_of s.cells d.allocatable) index 0 own

narrow_behind : (d : Description) (s : State) (index : ℕ) → IsWide d s → own_cells d ≤ index →
    cell_of (without_registers d s).cells d.allocatable index ≡ 0
narrow_behind d s index wide behind =
    ap (λ l. slice_index l index) (row_at s.cells d.allocatable (own_part d s) wide.known)
    ∙ get_or_past (own_part d s) index 0 (omega (arith, behind, length-take (own_cells d) (row_of s.cells d.allocatable)))

narrow_space : (d : Description) (m : Marking) (s u : State) → IsWide d s → IsWide d u → Agree m s u → (index : ℕ) →
    is_zero_cell s.facts.zero d.allocatable index ≡ false → m.cell d.allocatable index ≡ Clean →
    cell_of (without_registers d u).cells d.allocatable index ≡ cell_of (without_registers d s).cells d.allocatable index
narrow_space d m s u wide wide_u agree index free clean = elim (cases_lt index (own_cells d)) [
  | inl own ↦ narrow_own d u index wide_u own ∙ agree.cells d.allocatable index free clean ∙ sym (narrow_own d s index wide own)
  | inr behind ↦ narrow_behind d u index wide_u behind ∙ sym (narrow_behind d s index wide behind)
]

narrow_cells : (d : Description) (m : Marking) (s u : State) → IsWide d s → IsWide d u → Agree m s u → (space index : ℕ) →
    is_zero_cell s.facts.zero space index ≡ false → m.cell space index ≡ Clean →
    cell_of (without_registers d u).cells space index ≡ cell_of (without_registers d s).cells space index
narrow_cells d m s u wide wide_u agree space index free clean = elim (cases_Bool (nat_eq space d.allocatable)) [
  | inl here ↦
      subst
      (λ sp. is_zero_cell s.facts.zero sp index ≡ false → m.cell sp index ≡ Clean →
      cell_of (without_registers d u).cells sp index ≡ cell_of (without_registers d s).cells sp index)
      (sym (eqb-true space d.allocatable here)) (narrow_space d m s u wide wide_u agree index) free clean
  | inr elsewhere ↦
      let other : space ≢ d.allocatable = λ same. clash (sym (eq-eqb space d.allocatable same) ∙ elsewhere) in
      narrow_beside d u space index other ∙ agree.cells space index free clean ∙ sym (narrow_beside d s space index other)
]

narrow_rows : (d : Description) (m : Marking) (s u : State) → Agree m s u →
    map length (without_registers d u).cells ≡ map length (without_registers d s).cells
narrow_rows d m s u agree =
    let a = d.allocatable in
    let rows = row_lengths s.cells u.cells a agree.rows in
    let parts : length (own_part d u) ≡ length (own_part d s) =
    length-take (own_cells d) (row_of u.cells a) ∙ ap (min (own_cells d)) rows ∙ sym (length-take (own_cells d) (row_of s.cells a)) in
    lengths_with u.cells a (own_part d u)
    ∙ ap (λ l. slice_set l a (length (own_part d u))) agree.rows
    ∙ ap (slice_set (map length s.cells) a) parts
    ∙ sym (lengths_with s.cells a (own_part d s))

wide_too : (d : Description) (m : Marking) (s u : State) → IsWide d s → Agree m s u → IsWide d u
wide_too d m s u wide agree = record {
  known = subst (λ n. d.allocatable < n) (sym (rows_count s.cells u.cells agree.rows)) wide.known;
  cells = subst (λ n. own_cells d ≤ n) (sym (row_lengths s.cells u.cells d.allocatable agree.rows)) wide.cells;
}

narrow_agree : (d : Description) (m : Marking) (s u : State) → IsWide d s → Agree m s u →
    Agree m (without_registers d s) (without_registers d u)
narrow_agree d m s u wide agree = record {
  facts = agree.facts;
  widths = agree.widths;
  rows = narrow_rows d m s u agree;
  cells = narrow_cells d m s u wide (wide_too d m s u wide agree) agree;
  memory = agree.memory;
  bytes = agree.bytes;
  input = agree.input;
  taken = agree.taken;
  ending = agree.ending;
}

-- ---- virtual registers

abbrev virtual_part : Description → State → List ℕ
virtual_part d s = drop (own_cells d) (row_of s.cells d.allocatable)

virtual_lengths : (d : Description) (m : Marking) (s u : State) → Agree m s u → length (virtual_part d u) ≡ length (virtual_part d s)
virtual_lengths d m s u agree =
    length-drop (own_cells d) (row_of u.cells d.allocatable)
    ∙ ap (λ n. n - own_cells d) (row_lengths s.cells u.cells d.allocatable agree.rows)
    ∙ sym (length-drop (own_cells d) (row_of s.cells d.allocatable))

virtual_words : (d : Description) (m : Marking) (s u : State) → NoVirtualZero d s → Agree m s u → (n : ℕ) →
    m.cell d.allocatable (own_cells d + n) ≡ Clean → slice_index (virtual_part d u) n ≡ slice_index (virtual_part d s) n
virtual_words d m s u no_zero agree n clean =
    get_or-drop (own_cells d) (row_of u.cells d.allocatable) n 0
    ∙ agree.cells d.allocatable (own_cells d + n) (no_zero (own_cells d + n) (omega arith)) clean
    ∙ sym (get_or-drop (own_cells d) (row_of s.cells d.allocatable) n 0)

-- one row of registers, or another one
rows_kept : (xs ys : (procedure frame : ℕ) → List ℕ) (P : List ℕ → List ℕ → Type 0) (p f q h : ℕ) (row other : List ℕ) → P row other → P (xs q h) (ys q h) →
    P (with_row xs p f row q h) (with_row ys p f other q h)
rows_kept xs ys P p f q h row other here there = go (nat_eq p q && nat_eq f h)
  where
    go : (b : Bool) → P (if b then row else xs q h) (if b then other else ys q h)
    go true = here
    go false = there

register_words : (d : Description) (g : Ghost) (m : Marking) (r q : Data) (p f : ℕ) (s u : State) → NoVirtualZero d s → Agree m s u → Together g r q →
    (a b n : ℕ) → n < length (with_row r.registers p f (virtual_part d s) a b) →
    (if nat_eq p a && nat_eq f b then m.cell d.allocatable (own_cells d + n) else g.registers a b n) ≡ Clean →
    slice_index (with_row q.registers p f (virtual_part d u) a b) n ≡ slice_index (with_row r.registers p f (virtual_part d s) a b) n
register_words d g m r q p f s u no_zero agree together a b n = go (nat_eq p a && nat_eq f b)
  where
    go : (c : Bool) → n < length (if c then virtual_part d s else r.registers a b) →
        (if c then m.cell d.allocatable (own_cells d + n) else g.registers a b n) ≡ Clean →
        slice_index (if c then virtual_part d u else q.registers a b) n ≡ slice_index (if c then virtual_part d s else r.registers a b) n
    go true known clean = virtual_words d m s u no_zero agree n clean
    go false known clean = together.registers a b n known clean

-- ---- data after a line

pub after_together : (d : Description) (g : Ghost) (m : Marking) (r q : Data) (p : ℕ) (o x : Outcome) (first second : List ℕ) → IsWide d o.state →
    NoVirtualZero d o.state → Alike m o x → Together g r q → frame_in d q.machine ≡ frame_in d r.machine → second ≡ first →
    Together (ghost_of d p (frame_in d r.machine) g m) (data_after d p first o r) (data_after d p second x q)
after_together d g m r q p o x first second wide no_zero alike together frames calls =
    let f = frame_in d r.machine in
    subst (λ h. Together (ghost_of d p f g m) (data_after d p first o r)
    (record {
      machine = without_registers d x.state;
      registers = with_row q.registers p h (virtual_part d x.state);
      output = q.output ++ words_of x.event;
      calls = second;
    }))
    (sym frames)
    (record {
      machine = narrow_agree d m o.state x.state wide alike.agree;
      lengths = λ a b. rows_kept r.registers q.registers (λ xs ys. length ys ≡ length xs) p f a b (virtual_part d o.state) (virtual_part d x.state)
          (virtual_lengths d m o.state x.state alike.agree) (together.lengths a b);
      registers = register_words d g m r q p f o.state x.state no_zero alike.agree together;
      output = ap (λ out. out ++ words_of x.event) together.output ∙ ap (λ e. r.output ++ words_of e) alike.event;
      calls = calls;
    })
