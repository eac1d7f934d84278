-- Machines of a description.
use Rattle.std.specs.Prelude.{◌≡◌, length, map}
use Rattle.qc_terms.specs.declared.state.State.{State}
use Rattle.qc_descr.specs.declared.description.Description.{Description}
use Rattle.qc_descr.specs.Description.{widths_of, counts_of}

-- The state is one of the description's machine: it has its facts, and its spaces with their widths and cells.
pub record IsMachineOf (d : Description) (s : State) : Type 0 where
  pub facts : s.facts ≡ d.facts
  pub widths : s.widths ≡ widths_of d
  pub counts : map length s.cells ≡ counts_of d
