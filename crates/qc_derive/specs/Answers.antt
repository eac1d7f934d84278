-- What a check of a derivation answers.
use Rattle.std.specs.Prelude.{◌≡◌, Some}
use Rattle.qc_descr.specs.declared.description.Description.{Description}
use Rattle.qc_tiles.specs.declared.name.TileName.{TileName}
use Rattle.qc_tiles.specs.declared.tile.Tile.{Tile}
use Rattle.qc_code.specs.declared.template.Template.{Template}
use Rattle.qc_derivations.specs.declared.derivation.Bounds.{Bounds}
use Rattle.qc_derivations.specs.declared.derivation.Derivation.{Derivation}
use Rattle.qc_derivations.specs.Sequence.{sequence_of}
use Rattle.qc_derivations.specs.Valid.{IsValidDerivation, fault_of}
use Rattle.qc_derive.specs.declared.checked.CheckEnd.{CheckEnd}
use Rattle.qc_derive.specs.declared.checked.CheckEnd.TheVariants.{BadDerivation, NoMemory}
use Rattle.qc_derive.specs.declared.checked.Checked.{Checked}

-- the name of the tile
abbrev pub tile_in : Checked → TileName
tile_in c = c.tile

abbrev pub derivation_in : Checked → Derivation
derivation_in c = c.derivation

-- the instructions in order
abbrev pub sequence_in : Checked → Template
sequence_in c = c.sequence

-- The derivation is valid, it and the tile are what was checked, and the sequence is the derivation's.
pub record IsChecked (d : Description) (t : Tile) (bounds : Bounds) (derivation : Derivation) (c : Checked) : Type 0 where
  pub valid : IsValidDerivation d t bounds derivation
  pub same : derivation_in c ≡ derivation
  pub tile : tile_in c ≡ t.name
  pub sequence : sequence_in c ≡ sequence_of d t derivation

-- The number is that of the first node that breaks a rule. Where memory is wanting nothing is told.
abbrev pub IsCheckEnd : Description → Tile → Bounds → Derivation → CheckEnd → Type 0
IsCheckEnd d t bounds derivation (BadDerivation node) = fault_of d t bounds derivation ≡ Some node
IsCheckEnd d t bounds derivation NoMemory = Unit {0}
