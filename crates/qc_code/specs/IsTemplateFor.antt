-- What is asked of a template of a tile.
use Rattle.std.specs.Prelude.{ℕ, ◌+◌, ◌-◌, ◌≤◌, Option}
use Rattle.qc_descr.specs.declared.description.Description.{Description}
use Rattle.qc_tiles.specs.declared.tile.Tile.{Tile}
use Rattle.qc_code.specs.declared.template.Template.{Template}
use Rattle.qc_code.specs.Accesses.{AccessesAsTile}
use Rattle.qc_code.specs.Formed.{IsFormed}
use Rattle.qc_code.specs.Marks.{KeepsStrayWords, MarksNoMore}
use Rattle.qc_code.specs.Reach.{BranchesLast, HasAlignedAddresses, TargetsReach}
use Rattle.qc_code.specs.Registers.{ReadsAsTile, ReadsSetScratches, SetsParameters, WritesAsTile}
use Rattle.qc_code.specs.SpecialTiles.{CallsApart, MovesLinkAtOnce, MovesSlotsAtOnce}
use Rattle.qc_code.specs.TileHolds.{TileHolds}

-- how many registers a template needs at once, and how many there are
abbrev pub registers_needed : Tile → Template → ℕ
registers_needed t x = t.registers + x.scratches

abbrev pub registers_there : Description → ℕ
registers_there d = d.last - d.first + 1

-- There are enough allocatable cells for the parameters and the scratches.
abbrev pub HasRegisters : Description → Tile → Template → Type 0
HasRegisters d t x = registers_needed t x ≤ registers_there d

-- The template is one of the tile, beside the template of `goto`, if there is one. What it does is that the tile holds.
-- The rest is for code that is made of it, in which parameters and scratches become registers: what its lines read and
-- write besides what the tile does, and how far its targets reach.
pub record IsTemplateFor (d : Description) (goto : Option Template) (t : Tile) (x : Template) : Type 0 where
  pub formed : IsFormed d t x
  pub holds : TileHolds d t x
  pub registers : HasRegisters d t x
  pub targets : TargetsReach d goto t x
  pub writes : WritesAsTile d t x
  pub reads : ReadsAsTile d t x
  pub sets : SetsParameters d x
  pub scratches : ReadsSetScratches d x
  pub accesses : AccessesAsTile d t x
  pub strays : KeepsStrayWords d t x
  pub marks : MarksNoMore d t x
  pub aligned : HasAlignedAddresses d x
  pub link : MovesLinkAtOnce t x
  pub slots : MovesSlotsAtOnce d t x
  pub calls : CallsApart d t x
  pub branches : BranchesLast d t x
