-- Where a derivation's sequence runs, and what stays the same meanwhile.
use Rattle.std.proofs.Common.{◌≡◌, ◌≢◌, ◌∙◌, ◌<◌, ◌≤◌, ◌^◌, ◌&&◌, ℕ, slice_get, Bool, true, false, not, Option, None, Some, IfSome, nat_eq, nat_le, nat_lt, cond, get_or, inl, inr, refl, sym, ap, subst, arith}
use Rattle.std.specs.Prelude.{slice_index}
use Rattle.std.proofs.lemmas.Bool.{and_from, cases_Bool}
use Rattle.std.proofs.lemmas.List.{get_or-map}
use Rattle.std.proofs.lemmas.Option.{get_or_from_slice_get, slice_get_within}
use Rattle.qc_terms.specs.declared.state.State.{State}
use Rattle.qc_terms.specs.declared.term.Place.{Place}
use Rattle.qc_terms.specs.declared.term.Place.TheVariants as place
use Rattle.qc_terms.specs.Cells.{cell_of}
use Rattle.qc_terms.specs.State.{context_of, is_zero_cell}
use Rattle.qc_terms.specs.Tree.{Tree, Register}
use Rattle.qc_terms.specs.Typing.{IsTyped, OperandsFit}
use Rattle.qc_terms.specs.Value.{index_of, read_of, space_of}
use Rattle.qc_descr.specs.declared.description.Description.{Description}
use Rattle.qc_descr.specs.declared.description.Space.{Space}
use Rattle.qc_descr.specs.Description.{counts_of, widths_of}
use Rattle.qc_descr.specs.Valid.{IsValid, IsWordCell}
use Rattle.qc_tiles.specs.declared.tile.Tile.{Tile}
use Rattle.qc_equations.specs.Alike.{AllNodes, AreAlike, IsOfLeaves}
use Rattle.qc_code.specs.Marks.{is_allocatable}
use Rattle.qc_code.specs.Setting.{Setting}
use Rattle.qc_code.specs.TileHolds.{has_flags, is_flag_space}
use Rattle.qc_code.specs.Law.Slots.{IsPlaced}
use Rattle.qc_soundness.proofs.Optional.{and_both, eq_test, le_test, lt_test, numbers}
use Rattle.qc_soundness.proofs.Patterns.{GoesToParts, Reading}
use Rattle.qc_soundness.proofs.Writes.{AreKept}

-- A description and a tile of it, the number of cells in the row of the allocatable space, a setting for so many scratches
-- and lines, the address after the last line, and the state at the front.
pub record Scene : Type 0 where
  pub d : Description
  pub t : Tile
  pub row : ℕ
  pub e : Setting
  pub count : ℕ
  pub lines : ℕ
  pub after : ℕ
  pub start : State

pub record IsScene (c : Scene) : Type 0 where
  pub placed : IsPlaced c.d c.t c.count c.lines c.row c.e c.start
  pub after : c.after < 2 ^ c.d.facts.word

-- where goals are read
abbrev pub at_front : Scene → Reading
at_front c = record { operands = c.e.operands; after = c.after; state = c.start }

-- The cell is no flag, and none of some scratches.
pub record IsBeyond (c : Scene) (Touched : ℕ → Type 0) (space index : ℕ) : Type 0 where
  pub flag : is_flag_space c.d space ≡ false
  pub scratch : space ≡ c.d.allocatable → (k : ℕ) → Touched k → index ≢ c.e.scratch k

abbrev pub IsAny : Scene → ℕ → Type 0
IsAny c k = k < c.count

-- no flag and no scratch
abbrev pub IsOuter : Scene → ℕ → ℕ → Type 0
IsOuter c = IsBeyond c (IsAny c)

pub beyond-less : (c : Scene) (T U : ℕ → Type 0) (space index : ℕ) → ((k : ℕ) → U k → T k) → IsBeyond c T space index → IsBeyond c U space index
beyond-less c T U space index less beyond = record {
  flag = beyond.flag;
  scratch = λ here k touched. beyond.scratch here k (less k touched);
}

-- ---- goals

-- a register parameter, or a cell by its number that no sequence writes
abbrev pub is_kept_place : Scene → Place → Bool
is_kept_place c (place.Cell space index) =
    not (is_flag_space c.d space) && (nat_lt index (slice_index (counts_of c.d) space) && not (is_allocatable c.d space index))
is_kept_place c (place.Operand space number) = nat_eq space c.d.allocatable && nat_lt number c.t.registers

abbrev pub reads_kept : Scene → Tree → Bool
reads_kept c (Register place width) = is_kept_place c place
reads_kept c _ = true

kept-of_leaves : (c : Scene) → IsOfLeaves (reads_kept c)
kept-of_leaves c = record {
  numbers = λ value width. refl;
  unary = λ op arg. refl;
  binary = λ op left right. refl;
  loads = λ width address other. refl;
}

-- a goal that is typed, whose operands are there, and that reads registers that no sequence writes
pub record IsGood (c : Scene) (v : Tree) : Type 0 where
  pub typed : IsTyped (context_of c.start) v
  pub fits : OperandsFit (context_of c.start) c.e.operands v
  pub kept : AllNodes (reads_kept c) v

pub good-parts : (c : Scene) → GoesToParts (IsGood c)
good-parts c = record {
  unary = λ op arg good. record { typed = good.typed.2; fits = good.fits; kept = good.kept.1 };
  left = λ op left right good. record { typed = good.typed.3; fits = good.fits.0; kept = good.kept.1 };
  right = λ op left right good. record { typed = good.typed.4; fits = good.fits.1; kept = good.kept.2 };
  load = λ width address good. record { typed = good.typed.1; fits = good.fits; kept = good.kept.1 };
}

pub good-alike : (c : Scene) (v u : Tree) → AreAlike v u → IsGood c v → IsGood c u
good-alike c v u alike good = record {
  typed = alike.typed (context_of c.start) good.typed;
  fits = alike.fits (context_of c.start) c.e.operands good.fits;
  kept = alike.leaves (reads_kept c) (kept-of_leaves c) good.kept;
}

-- ---- flags, the zero cell, and scratches

pub allocatable_no_flag : (d : Description) → IsValid d → is_flag_space d d.allocatable ≡ false
allocatable_no_flag d valid = go (slice_get d.spaces d.allocatable) refl
  where
    go : (it : Option Space) → slice_get d.spaces d.allocatable ≡ it → has_flags it ≡ false
    go None is = refl
    go (Some s) is = valid.layout.no_flags s is

-- a space of flags has width 1
flag_width : (d : Description) (space : ℕ) → IsValid d → is_flag_space d space ≡ true → slice_index (widths_of d) space ≡ 1
flag_width d space valid is = go (slice_get d.spaces space) refl is
  where
    go : (it : Option Space) → slice_get d.spaces space ≡ it → has_flags it ≡ true → slice_index (widths_of d) space ≡ 1
    go None here flags = absurd (cc flags)
    go (Some s) here flags =
        let within = slice_get_within d.spaces space s here in
        let same : get_or d.spaces space s ≡ s = get_or_from_slice_get d.spaces space s s here in
        get_or-map (λ (x : Space). x.width) d.spaces space s 0 within ∙ ap (λ (x : Space). x.width) same
        ∙ subst (λ (x : Space). x.flags ≡ true → x.width ≡ 1) same (valid.layout.flags space s within) flags

wide_word : (d : Description) → IsValid d → 2 ≤ d.facts.word
wide_word d valid = elim valid.layout.word [ inl e ↦ omega (arith, e) | inr e ↦ omega (arith, e) ]

is_zero : (z : Option (ℕ × ℕ)) (P : ℕ × ℕ → Type 0) (space index : ℕ) → IfSome z P → is_zero_cell z space index ≡ true → P (space, index)
is_zero None P space index holds is = absurd (cc is)
is_zero (Some z) P space index holds is =
    let parts = and_both (nat_eq z.0 space) (nat_eq z.1 index) is in
    let one : z.0 ≡ space = numbers z.0 space parts.0 in
    let two : z.1 ≡ index = numbers z.1 index parts.1 in
    subst (λ n. P (space, n)) two (subst (λ n. P (n, z.1)) one holds)

-- the zero cell is no flag
pub zero_no_flag : (d : Description) (space index : ℕ) → IsValid d → is_zero_cell d.facts.zero space index ≡ true → is_flag_space d space ≡ false
zero_no_flag d space index valid is =
    let known = is_zero d.facts.zero (λ z. IsWordCell d z × (z ≢ d.frame) × (z ≢ d.link)) space index valid.layout.«zero» is in
    elim (cases_Bool (is_flag_space d space)) [
      | inl flags ↦ absurd (omega (arith, flag_width d space valid flags, known.0.2, wide_word d valid))
      | inr none ↦ none
    ]

pub no_zero_flag : (d : Description) (space index : ℕ) → IsValid d → is_flag_space d space ≡ true → is_zero_cell d.facts.zero space index ≡ false
no_zero_flag d space index valid flags = elim (cases_Bool (is_zero_cell d.facts.zero space index)) [
  | inl is ↦ absurd (let no : true ≡ false = sym flags ∙ zero_no_flag d space index valid is in cc no)
  | inr none ↦ none
]

-- a scratch is not the zero cell
pub no_zero_scratch : (c : Scene) (k : ℕ) → IsScene c → k < c.count → is_zero_cell c.d.facts.zero c.d.allocatable (c.e.scratch k) ≡ false
no_zero_scratch c k is below = elim (cases_Bool (is_zero_cell c.d.facts.zero c.d.allocatable (c.e.scratch k))) [
  | inl there ↦
      let layout = is.placed.valid.layout in
      let free = is_zero c.d.facts.zero (λ z. ((z.0 ≡ c.d.allocatable) × (c.d.first ≤ z.1) × (z.1 ≤ c.d.last)) → ⊥) c.d.allocatable (c.e.scratch k) layout.free_zero there in
      let known = is_zero c.d.facts.zero (λ z. IsWordCell c.d z × (z ≢ c.d.frame) × (z ≢ c.d.link)) c.d.allocatable (c.e.scratch k) layout.«zero» there in
      elim (is.placed.setting.scratches_are k below).usable [
        | inl inside ↦ absurd (free (refl, inside.0, inside.1))
        | inr past ↦ absurd (omega (arith, past, known.0.1))
      ]
  | inr none ↦ none
]

-- ---- registers of goals

not_true : (b : Bool) → not b ≡ true → b ≡ false
not_true true e = absurd (cc e)
not_true false e = refl

-- a register that a goal reads is no flag and no scratch
pub place_is_outer : (c : Scene) (p : Place) (width : ℕ) → IsScene c → IsGood c (Register p width) → IsOuter c (space_of p) (index_of p c.e.operands)
place_is_outer c (place.Cell space index) width is good =
    let parts = and_both (not (is_flag_space c.d space)) (nat_lt index (slice_index (counts_of c.d) space) && not (is_allocatable c.d space index)) good.kept in
    let more = and_both (nat_lt index (slice_index (counts_of c.d) space)) (not (is_allocatable c.d space index)) parts.1 in
    record {
      flag = not_true (is_flag_space c.d space) parts.0;
      scratch = λ here k below same. elim (is.placed.setting.scratches_are k below).usable [
        | inl inside ↦
            let none : is_allocatable c.d space index ≡ false = not_true (is_allocatable c.d space index) more.1 in
            let one : nat_eq space c.d.allocatable ≡ true = eq_test space c.d.allocatable here in
            let two : nat_le c.d.first index ≡ true = le_test c.d.first index (omega (arith, same, inside.0)) in
            let three : nat_le index c.d.last ≡ true = le_test index c.d.last (omega (arith, same, inside.1)) in
            let yet : is_allocatable c.d space index ≡ true =
            and_from (nat_eq space c.d.allocatable) (nat_le c.d.first index && nat_le index c.d.last) one
            (and_from (nat_le c.d.first index) (nat_le index c.d.last) two three) in
            absurd (let no : true ≡ false = sym yet ∙ none in cc no)
        | inr past ↦
            let below_count : index < slice_index (counts_of c.d) space = lt_test index (slice_index (counts_of c.d) space) more.0 in
            absurd (omega (arith, past, below_count, same, ap (slice_index (counts_of c.d)) here))
      ];
    }
place_is_outer c (place.Operand space number) width is good =
    let parts = and_both (nat_eq space c.d.allocatable) (nat_lt number c.t.registers) good.kept in
    let here : space ≡ c.d.allocatable = numbers space c.d.allocatable parts.0 in
    let below : number < c.t.registers = lt_test number c.t.registers parts.1 in
    record {
      flag = ap (is_flag_space c.d) here ∙ allocatable_no_flag c.d is.placed.valid;
      scratch = λ same k touched equal. is.placed.setting.from_parameters k number touched below (sym equal);
    }

-- a cell that is kept reads as before
pub read_kept : (P : ℕ → ℕ → Type 0) (s u : State) (space index : ℕ) → AreKept P s u → P space index → read_of u space index ≡ read_of s space index
read_kept P s u space index kept is =
    ap (λ f. cond (is_zero_cell f.«zero» space index) 0 (cell_of u.cells space index)) kept.facts
    ∙ ap (λ w. cond (is_zero_cell s.facts.«zero» space index) 0 w) (kept.cells space index is)
