-- The least number of instructions of a valid derivation.
use Rattle.std.specs.Prelude.{ℕ, ◌≡◌, ◌≤◌, List, Option, None, Some}
use Rattle.qc_descr.specs.declared.description.Description.{Description}
use Rattle.qc_tiles.specs.declared.tile.Tile.{Tile}
use Rattle.qc_derivations.specs.declared.derivation.Bounds.{Bounds}
use Rattle.qc_derivations.specs.declared.derivation.Derivation.{Derivation}
use Rattle.qc_derivations.specs.Forest.{Forest, forest_of, height_of, nodes_of}
use Rattle.qc_derivations.specs.Goals.{Need}
use Rattle.qc_derivations.specs.Nodes.{Task}
use Rattle.qc_derivations.specs.Valid.{AreValid, IsValidDerivation}

-- No number has the property, or this one has it and no smaller one.
abbrev pub IsLeast : (ℕ → Type 0) → Option ℕ → Type 0
IsLeast Has None = (n : ℕ) → Has n → ⊥
IsLeast Has (Some least) = Has least × ((n : ℕ) → Has n → least ≤ n)

-- a derivation of the tile that is valid within the bounds has so many instructions
abbrev pub HasDerivation : Description → Tile → Bounds → ℕ → Type 0
HasDerivation d t bounds count =
    (derivation : Derivation) × IsValidDerivation d t bounds derivation × (nodes_of (forest_of derivation) ≡ count)

-- valid trees for the needs, none of them higher, have so many nodes
abbrev pub HasCount : Task → (height : ℕ) → List Need → ℕ → Type 0
HasCount task height needs count =
    (forest : Forest) × AreValid task needs forest × (height_of forest ≤ height) × (nodes_of forest ≡ count)
