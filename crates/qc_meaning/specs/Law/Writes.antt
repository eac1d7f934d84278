-- Writes to states that agree but for marked words leave states that do.
use Rattle.std.proofs.Common.{◌≡◌, ◌≢◌, ◌∙◌, ◌+◌, ◌<◌, ◌≤◌, ◌⊎◌, ◌&&◌, ℕ, zero, suc, List, [], ◌∷◌, length, map, Bool, true, false, Option, slice_index, if◌then◌else◌, nat_eq, inl, inr, refl, ap, sym, subst, arith}
use Rattle.std.proofs.lemmas.Bool.{cases_Bool, cases_lt, eq-eqb, eqb-true}
use Rattle.qc_terms.specs.declared.state.Order.{Order}
use Rattle.qc_terms.specs.declared.state.State.{State}
use Rattle.qc_terms.specs.Cells.{cell_of, with_cell}
use Rattle.qc_terms.specs.Effects.{Write, ToCell, ToMemory, after_write, after_writes}
use Rattle.qc_terms.specs.Memory.{store_of}
use Rattle.qc_terms.specs.State.{is_zero_cell}
use Rattle.qc_meaning.specs.Law.Agree.{Agree}
use Rattle.qc_meaning.specs.Fine.{Marking, with_byte_marks, with_cell_mark}
use Rattle.qc_meaning.specs.Marks.{Clean, Mark}
use Rattle.qc_meaning.specs.Law.Bytes.{store-length, store_inside, store_other}
use Rattle.qc_meaning.specs.Law.Cells.{cell_other, cell_same, lengths-with_cell}

clash : true ≡ false → ⊥
clash e = cc

-- ---- two cells are one, or apart

pub data Cells (space index other number : ℕ) : Type 0 where
  One : other ≡ space → number ≡ index → (nat_eq space other && nat_eq index number) ≡ true → Cells space index other number
  Apart : (other ≢ space) ⊎ (number ≢ index) → (nat_eq space other && nat_eq index number) ≡ false → Cells space index other number

cells_are : (space index other number : ℕ) → Cells space index other number
cells_are space index other number = go (nat_eq space other) refl (nat_eq index number) refl
  where
    go : (a : Bool) → nat_eq space other ≡ a → (b : Bool) → nat_eq index number ≡ b → Cells space index other number
    go true a true b = One (sym (eqb-true space other a)) (sym (eqb-true index number b)) (ap (λ c. c && nat_eq index number) a ∙ b)
    go true a false b = Apart (inr (λ same. clash (sym (eq-eqb index number (sym same)) ∙ b))) (ap (λ c. c && nat_eq index number) a ∙ b)
    go false a b_is b = Apart (inl (λ same. clash (sym (eq-eqb space other (sym same)) ∙ a))) (ap (λ c. c && nat_eq index number) a)

-- ---- cells

-- the cells after a write, or as they were
abbrev pub maybe_with : Bool → List (List ℕ) → (space index word : ℕ) → List (List ℕ)
maybe_with true cells space index word = with_cell cells space index word
maybe_with false cells space index word = cells

maybe_other : (b : Bool) (xs : List (List ℕ)) (space index word sp i : ℕ) → (sp ≢ space) ⊎ (i ≢ index) →
    cell_of (maybe_with b xs space index word) sp i ≡ cell_of xs sp i
maybe_other true xs space index word sp i apart = cell_other xs space index sp i word apart
maybe_other false xs space index word sp i apart = refl

maybe_same : (xs ys : List (List ℕ)) (space index word other : ℕ) (first second : Bool) → map length ys ≡ map length xs →
    (other ≡ word) × (first ≡ true) × (second ≡ true) →
    cell_of (maybe_with second ys space index other) space index ≡ cell_of (maybe_with first xs space index word) space index
maybe_same xs ys space index word other first second rows words =
    ap (λ b. cell_of (maybe_with b ys space index other) space index) words.2
    ∙ ap (λ w. cell_of (with_cell ys space index w) space index) words.0
    ∙ cell_same xs ys space index word rows
    ∙ sym (ap (λ b. cell_of (maybe_with b xs space index word) space index) words.1)

-- Cells that agree do so after a write to one of them. Where only one side is written, or the words differ, that cell is marked.
agree_cells : (zero_cell : Option (ℕ × ℕ)) (cell : (space index : ℕ) → Mark) (xs ys : List (List ℕ)) (space index word other : ℕ) (mark : Mark)
    (first second : Bool) → map length ys ≡ map length xs →
    (mark ≡ Clean → (other ≡ word) × (first ≡ true) × (second ≡ true)) →
    ((sp i : ℕ) → is_zero_cell zero_cell sp i ≡ false → cell sp i ≡ Clean → cell_of ys sp i ≡ cell_of xs sp i) →
    (sp i : ℕ) → is_zero_cell zero_cell sp i ≡ false → with_cell_mark cell space index mark sp i ≡ Clean →
    cell_of (maybe_with second ys space index other) sp i ≡ cell_of (maybe_with first xs space index word) sp i
agree_cells zero_cell cell xs ys space index word other mark first second rows words same sp i free clean = elim (cells_are space index sp i) [
  | One same_space same_index test ↦
      ap (λ a. cell_of (maybe_with second ys space index other) a i) same_space
      ∙ ap (cell_of (maybe_with second ys space index other) space) same_index
      ∙ maybe_same xs ys space index word other first second rows (words (sym (ap (λ b. if b then mark else cell sp i) test) ∙ clean))
      ∙ sym (ap (cell_of (maybe_with first xs space index word) space) same_index)
      ∙ sym (ap (λ a. cell_of (maybe_with first xs space index word) a i) same_space)
  | Apart apart test ↦
      maybe_other second ys space index other sp i apart
      ∙ same sp i free (sym (ap (λ b. if b then mark else cell sp i) test) ∙ clean)
      ∙ sym (maybe_other first xs space index word sp i apart)
]

-- the write of a word to a cell, or none
abbrev pub cell_writes : Bool → (space index word : ℕ) → List Write
cell_writes true space index word = ToCell space index word ∷ []
cell_writes false space index word = []

-- what such writes leave of a state: its cells, unless the cell is the zero cell
written_cells : (b : Bool) (space index word : ℕ) (s : State) → is_zero_cell s.facts.zero space index ≡ false →
    after_writes (cell_writes b space index word) s ≡ record s { cells = maybe_with b s.cells space index word }
written_cells true space index word s free = ap (λ z. if z then s else record s { cells = with_cell s.cells space index word }) free
written_cells false space index word s free = refl

zero_stays : (b : Bool) (space index word : ℕ) (s : State) → is_zero_cell s.facts.zero space index ≡ true →
    after_writes (cell_writes b space index word) s ≡ s
zero_stays true space index word s zero_is = ap (λ z. if z then s else record s { cells = with_cell s.cells space index word }) zero_is
zero_stays false space index word s zero_is = refl

-- the rows keep their lengths
maybe_rows : (b : Bool) (xs : List (List ℕ)) (space index word : ℕ) → map length (maybe_with b xs space index word) ≡ map length xs
maybe_rows true xs space index word = lengths-with_cell xs space index word
maybe_rows false xs space index word = refl

-- the cells that aren't the zero cell agree where the zero cell was to be written
zero_agrees : (m : Marking) (s u : State) (space index : ℕ) (mark : Mark) → Agree m s u → is_zero_cell s.facts.zero space index ≡ true →
    Agree (record m { cell = with_cell_mark m.cell space index mark }) s u
zero_agrees m s u space index mark agree zero_is = record {
  facts = agree.facts;
  widths = agree.widths;
  rows = agree.rows;
  cells = λ sp i free clean. elim (cells_are space index sp i) [
    | One same_space same_index test ↦ absurd (clash (
        sym (ap (λ a. is_zero_cell s.facts.zero a i) same_space ∙ ap (is_zero_cell s.facts.zero space) same_index ∙ zero_is) ∙ free
        ))
    | Apart apart test ↦ agree.cells sp i free (sym (ap (λ b. if b then mark else m.cell sp i) test) ∙ clean)
  ];
  memory = agree.memory;
  bytes = agree.bytes;
  input = agree.input;
  taken = agree.taken;
  ending = agree.ending;
}

cells_agree : (m : Marking) (s u : State) (space index word other : ℕ) (mark : Mark) (first second : Bool) → Agree m s u →
    (mark ≡ Clean → (other ≡ word) × (first ≡ true) × (second ≡ true)) →
    Agree (record m { cell = with_cell_mark m.cell space index mark }) (record s { cells = maybe_with first s.cells space index word })
    (record u { cells = maybe_with second u.cells space index other })
cells_agree m s u space index word other mark first second agree words = record {
  facts = agree.facts;
  widths = agree.widths;
  rows = maybe_rows second u.cells space index other ∙ agree.rows ∙ sym (maybe_rows first s.cells space index word);
  cells = agree_cells s.facts.zero m.cell s.cells u.cells space index word other mark first second agree.rows words agree.cells;
  memory = agree.memory;
  bytes = agree.bytes;
  input = agree.input;
  taken = agree.taken;
  ending = agree.ending;
}

-- States that agree do so after a write to a cell, where only one side is written perhaps.
pub agree_cell : (m : Marking) (s u : State) (space index word other : ℕ) (mark : Mark) (first second : Bool) → Agree m s u →
    (mark ≡ Clean → (other ≡ word) × (first ≡ true) × (second ≡ true)) →
    Agree (record m { cell = with_cell_mark m.cell space index mark }) (after_writes (cell_writes first space index word) s)
    (after_writes (cell_writes second space index other) u)
agree_cell m s u space index word other mark first second agree words = elim (cases_Bool (is_zero_cell s.facts.zero space index)) [
  | inl zero_is ↦
      let second_is : is_zero_cell u.facts.zero space index ≡ true = ap (λ f. is_zero_cell f.zero space index) agree.facts ∙ zero_is in
      subst (λ t. Agree (record m { cell = with_cell_mark m.cell space index mark }) t (after_writes (cell_writes second space index other) u))
      (sym (zero_stays first space index word s zero_is))
      (subst (Agree (record m { cell = with_cell_mark m.cell space index mark }) s) (sym (zero_stays second space index other u second_is))
      (zero_agrees m s u space index mark agree zero_is))
  | inr free ↦
      let second_free : is_zero_cell u.facts.zero space index ≡ false = ap (λ f. is_zero_cell f.zero space index) agree.facts ∙ free in
      subst (λ t. Agree (record m { cell = with_cell_mark m.cell space index mark }) t (after_writes (cell_writes second space index other) u))
      (sym (written_cells first space index word s free))
      (subst (Agree (record m { cell = with_cell_mark m.cell space index mark }) (record s { cells = maybe_with first s.cells space index word }))
      (sym (written_cells second space index other u second_free))
      (cells_agree m s u space index word other mark first second agree words))
]

-- ---- memory

-- a byte in the range that gets one mark, or outside
pub data Range (count address a : ℕ) (byte : ℕ → Mark) (mark : Mark) : Type 0 where
  Inside : address ≤ a → a < address + count → with_byte_marks byte count address mark a ≡ mark → Range count address a byte mark
  Outside : (a < address) ⊎ (address + count ≤ a) → with_byte_marks byte count address mark a ≡ byte a → Range count address a byte mark

range_of : (count address a : ℕ) (byte : ℕ → Mark) (mark : Mark) → Range count address a byte mark
range_of zero address a byte mark = Outside (around (cases_lt a address)) refl
  where
    around : (a < address) ⊎ (address ≤ a) → (a < address) ⊎ (address + 0 ≤ a)
    around (inl before) = inl before
    around (inr later) = inr (omega (arith, later))
range_of (suc count) address a byte mark = go (nat_eq address a) refl (range_of count (suc address) a byte mark)
  where
    go : (b : Bool) → nat_eq address a ≡ b → Range count (suc address) a byte mark → Range (suc count) address a byte mark
    go true here rest =
        let same = eqb-true address a here in
        Inside (omega (arith, same)) (omega (arith, same)) (ap (λ c. if c then mark else with_byte_marks byte count (suc address) mark a) here)
    go false not_here (Inside least less is) =
        Inside (omega (arith, least)) (omega (arith, less))
        (ap (λ c. if c then mark else with_byte_marks byte count (suc address) mark a) not_here ∙ is)
    go false not_here (Outside around is) =
        Outside (elim around [
          | inl before ↦ inl (nearer before (λ same. clash (sym (eq-eqb address a same) ∙ not_here)))
          | inr later ↦ inr (omega (arith, later))
        ])
        (ap (λ c. if c then mark else with_byte_marks byte count (suc address) mark a) not_here ∙ is)
      where
        nearer : a < suc address → address ≢ a → a < address
        nearer less other = omega (arith, less, other)

-- bytes that agree do so after a store
stored_agree : (order : Order) (byte : ℕ → Mark) (xs ys : List ℕ) (count address word other : ℕ) (mark : Mark) → length ys ≡ length xs →
    address + count ≤ length xs → (mark ≡ Clean → other ≡ word) →
    ((a : ℕ) → a < length xs → byte a ≡ Clean → slice_index ys a ≡ slice_index xs a) →
    (a : ℕ) → a < length xs → with_byte_marks byte count address mark a ≡ Clean →
    slice_index (store_of order ys count address other) a ≡ slice_index (store_of order xs count address word) a
stored_agree order byte xs ys count address word other mark lengths inside words same a known clean = elim (range_of count address a byte mark) [
  | Inside least less is ↦
      ap (λ w. slice_index (store_of order ys count address w) a) (words (sym is ∙ clean))
      ∙ store_inside order xs ys count address word a inside (omega (arith, inside, lengths)) least less
  | Outside around is ↦
      store_other order ys count address other a (omega (arith, inside, lengths)) around
      ∙ same a known (sym is ∙ clean)
      ∙ sym (store_other order xs count address word a inside around)
]

-- States that agree do so after a store of one word, or of two that are marked.
pub agree_store : (m : Marking) (s u : State) (count address word other : ℕ) (mark : Mark) → Agree m s u → address + count ≤ length s.memory →
    (mark ≡ Clean → other ≡ word) →
    Agree (record m { byte = with_byte_marks m.byte count address mark }) (after_write (ToMemory address count word) s)
    (after_write (ToMemory address count other) u)
agree_store m s u count address word other mark agree inside words =
    let first : length (store_of s.facts.order s.memory count address word) ≡ length s.memory =
    store-length s.facts.order s.memory count address word inside in
    let second : length (store_of u.facts.order u.memory count address other) ≡ length u.memory =
    store-length u.facts.order u.memory count address other (omega (arith, inside, agree.memory)) in
    record {
      facts = agree.facts;
      widths = agree.widths;
      rows = agree.rows;
      cells = agree.cells;
      memory = second ∙ agree.memory ∙ sym first;
      bytes = λ a known clean.
          ap (λ f. slice_index (store_of f.order u.memory count address other) a) agree.facts
          ∙ stored_agree s.facts.order m.byte s.memory u.memory count address word other mark agree.memory inside words agree.bytes a
          (omega (arith, known, first)) clean;
      input = agree.input;
      taken = agree.taken;
      ending = agree.ending;
    }
