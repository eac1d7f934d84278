-- Marked words: words of a run that depend on where lines stand, and how marks go on from word to word.
use Rattle.std.specs.Prelude.{ℕ, zero, suc, ◌/◌, List, slice_index, Option, None, Some, Bool, true, false, if◌then◌else◌}
use Rattle.qc_terms.specs.declared.state.State.{State}
use Rattle.qc_terms.specs.declared.term.Place.{Place}
use Rattle.qc_terms.specs.declared.term.Place.TheVariants.{Cell, Operand}
use Rattle.qc_terms.specs.State.{is_zero_cell}
use Rattle.qc_terms.specs.Tree.{Tree, Number, Unary, Binary, Register, Immediate, Load, NextInput, AddressAfter}
use Rattle.qc_terms.specs.Value.{value_of}

-- A clean word is the same wherever lines stand. An address depends on where they stand, and a stray word may besides be one
-- that a later pass changes.
pub data Mark : Type 0 where
  Clean Address Stray : Mark

-- the mark of a word that is computed from two
abbrev pub joined : Mark → Mark → Mark
joined Clean other = other
joined Address Clean = Address
joined Address Address = Address
joined Address Stray = Stray
joined Stray other = Stray

abbrev pub is_clean : Mark → Bool
is_clean Clean = true
is_clean _ = false

abbrev pub is_stray : Mark → Bool
is_stray Stray = true
is_stray _ = false

-- What a line reads: the marks of words in registers, by space and cell, of operands, of the address after the line, and of
-- bytes of memory; and the operands, the address after, and the state.
pub record Reading : Type 0 where
  pub cell : ℕ → ℕ → Mark
  pub operand : ℕ → Mark
  pub after : Mark
  pub byte : ℕ → Mark
  pub operands : List ℕ
  pub next : ℕ
  pub state : State

-- the value that a term has for the line
abbrev pub worth : Reading → Tree → Option ℕ
worth r t = value_of t r.operands r.next r.state

-- the mark of the word that a cell reads as; the zero cell has none
abbrev pub cell_mark : Reading → (space index : ℕ) → Mark
cell_mark r space index = if is_zero_cell r.state.facts.zero space index then Clean else r.cell space index

-- A register is read by its cell. One that is named by a marked operand may be any cell.
abbrev pub place_mark : Reading → Place → Mark
place_mark r (Cell space index) = cell_mark r space index
place_mark r (Operand space number) =
    if is_clean (r.operand number) then cell_mark r space (slice_index r.operands number) else Stray

-- the mark of so many bytes from an address on
abbrev pub bytes_mark : (ℕ → Mark) → (count address : ℕ) → Mark
bytes_mark byte zero address = Clean
bytes_mark byte (suc count) address = joined (byte address) (bytes_mark byte count (suc address))

abbrev pub load_mark : (ℕ → Mark) → ℕ → Option ℕ → Mark
load_mark byte count None = Clean
load_mark byte count (Some address) = bytes_mark byte count address

-- the mark of a term's value
abbrev pub mark_of : Reading → Tree → Mark
mark_of r (Number value width) = Clean
mark_of r (Unary op arg) = mark_of r arg
mark_of r (Binary op left right) = joined (mark_of r left) (mark_of r right)
mark_of r (Register place width) = place_mark r place
mark_of r (Immediate operand width) = r.operand operand
mark_of r (Load width address) = load_mark r.byte (width / 8) (worth r address)
mark_of r (NextInput width) = Clean
mark_of r (AddressAfter width) = r.after
