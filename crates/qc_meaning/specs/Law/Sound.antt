-- What holds of a description's machine and of a run's data, as far as marks and views need it.
use Rattle.std.specs.Prelude.{ℕ, ◌≡◌, ◌<◌, ◌≤◌, length, false}
use Rattle.qc_terms.specs.Cells.{row_of}
use Rattle.qc_terms.specs.State.{is_zero_cell}
use Rattle.qc_descr.specs.declared.description.Description.{Description}
use Rattle.qc_descr.specs.Description.{counts_of}
use Rattle.qc_meaning.specs.Marked.{Ghost, is_virtual}
use Rattle.qc_meaning.specs.Marks.{Clean}
use Rattle.qc_meaning.specs.Runs.{Data, own_cells}

-- The allocatable space is there, its zero cell and the frame cell are cells of their own, and data stand in memory.
pub record SuitsCode (d : Description) : Type 0 where
  pub space : d.allocatable < length (counts_of d)
  pub zero_own : (index : ℕ) → own_cells d ≤ index → is_zero_cell d.facts.zero d.allocatable index ≡ false
  pub frame_free : is_zero_cell d.facts.zero d.frame.0 d.frame.1 ≡ false
  pub frame_own : is_virtual d d.frame.0 d.frame.1 ≡ false
  pub room : d.data_end ≤ d.memory

-- The allocatable space has its cells.
pub record HasOwnRow (d : Description) (r : Data) : Type 0 where
  pub known : d.allocatable < length r.machine.cells
  pub cells : length (row_of r.machine.cells d.allocatable) ≡ own_cells d

-- The data have the description's facts, cells and memory, and the frame cell has no mark.
pub record IsSound (d : Description) (g : Ghost) (r : Data) : Type 0 where
  pub facts : r.machine.facts ≡ d.facts
  pub row : HasOwnRow d r
  pub memory : length r.machine.memory ≡ d.memory
  pub frame : g.cells d.frame.0 d.frame.1 ≡ Clean
