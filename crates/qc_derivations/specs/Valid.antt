-- Valid derivations, and the first node of one that isn't.
use Rattle.std.specs.Prelude.{ℕ, ◌≡◌, ◌+◌, ◌≤◌, List, [], ◌∷◌, nat_lt, Option, None, Some, if◌then◌else◌}
use Rattle.std.specs.Option.{option_or}
use Rattle.qc_descr.specs.declared.description.Description.{Description}
use Rattle.qc_tiles.specs.declared.tile.Tile.{Tile}
use Rattle.qc_derivations.specs.declared.derivation.Bounds.{Bounds}
use Rattle.qc_derivations.specs.declared.derivation.Derivation.{Derivation}
use Rattle.qc_derivations.specs.Forest.{Empty, Forest, Grow, forest_of, height_of, nodes_of}
use Rattle.qc_derivations.specs.Goals.{AsTile, Need}
use Rattle.qc_derivations.specs.Machine.{assignments_of}
use Rattle.qc_derivations.specs.Nodes.{Task, children_of, task_of}

-- Each tree of the forest is for one need, in order. Its node keeps the rules, and its children are for what they are to
-- compute.
abbrev pub AreValid : Task → List Need → Forest → Type 0
AreValid task [] Empty = Unit {0}
AreValid task [] (Grow node children rest) = ⊥
AreValid task (need ∷ needs) Empty = ⊥
AreValid task (need ∷ needs) (Grow node children rest) =
    (inner : List Need) × (children_of task need node ≡ Some inner) × AreValid task inner children × AreValid task needs rest

-- the number of a node's fault: its own where it breaks a rule, else the first one among its children
abbrev pub node_fault : (List Need → Option ℕ) → ℕ → Option (List Need) → Option ℕ
node_fault below number None = Some number
node_fault below number (Some inner) = below inner

-- The number of the first node that breaks a rule, where the first tree has this one. A node comes before its children, and
-- these before what stands beside it.
abbrev pub first_fault : Task → ℕ → Forest → List Need → Option ℕ
first_fault task number Empty [] = None
first_fault task number Empty (need ∷ needs) = Some number
first_fault task number (Grow node children rest) [] = Some number
first_fault task number (Grow node children rest) (need ∷ needs) =
    option_or (node_fault (first_fault task (number + 1) children) number (children_of task need node))
    (first_fault task (number + (1 + nodes_of children)) rest needs)

-- The root is to do what the tile does.
abbrev pub tile_needs : Tile → List Need
tile_needs t = AsTile (assignments_of t.rtl) ∷ []

-- A derivation of the tile on the machine is valid within the bounds.
pub record IsValidDerivation (d : Description) (t : Tile) (bounds : Bounds) (derivation : Derivation) : Type 0 where
  pub height : height_of (forest_of derivation) ≤ bounds.height
  pub nodes : AreValid (task_of d t bounds.laws) (tile_needs t) (forest_of derivation)

-- The number of the first node that breaks a rule, in preorder from 0: the root where the derivation is too high.
abbrev pub fault_of : Description → Tile → Bounds → Derivation → Option ℕ
fault_of d t bounds derivation =
    if nat_lt bounds.height (height_of (forest_of derivation)) then Some 0
    else first_fault (task_of d t bounds.laws) 0 (forest_of derivation) (tile_needs t)
