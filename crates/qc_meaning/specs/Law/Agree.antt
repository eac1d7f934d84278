-- States that agree but for marked words.
use Rattle.std.specs.Prelude.{ℕ, ◌≡◌, ◌<◌, length, map, slice_index, false}
use Rattle.qc_terms.specs.declared.state.State.{State}
use Rattle.qc_terms.specs.Cells.{cell_of}
use Rattle.qc_terms.specs.State.{is_zero_cell}
use Rattle.qc_meaning.specs.Fine.{Marking}
use Rattle.qc_meaning.specs.Marks.{Clean}

-- Words without a mark are the same, and so is all else but the program counter.
pub record Agree (m : Marking) (s u : State) : Type 0 where
  pub facts : u.facts ≡ s.facts
  pub widths : u.widths ≡ s.widths
  pub rows : map length u.cells ≡ map length s.cells
  pub cells : (space index : ℕ) → is_zero_cell s.facts.zero space index ≡ false → m.cell space index ≡ Clean →
      cell_of u.cells space index ≡ cell_of s.cells space index
  pub memory : length u.memory ≡ length s.memory
  pub bytes : (a : ℕ) → a < length s.memory → m.byte a ≡ Clean → slice_index u.memory a ≡ slice_index s.memory a
  pub input : u.input ≡ s.input
  pub taken : u.taken ≡ s.taken
  pub ending : u.ending ≡ s.ending
