-- No fault is the same as a valid forest.
use Rattle.std.proofs.Common.{◌≡◌, ◌∙◌, ℕ, ◌+◌, ◌≤◌, List, [], ◌∷◌, Bool, true, false, cond, nat_lt, Option, None, Some, refl, ap, arith}
use Rattle.std.specs.Option.{option_or}
use Rattle.qc_descr.specs.declared.description.Description.{Description}
use Rattle.qc_tiles.specs.declared.tile.Tile.{Tile}
use Rattle.qc_derivations.specs.declared.derivation.Bounds.{Bounds}
use Rattle.qc_derivations.specs.declared.derivation.Derivation.{Derivation}
use Rattle.qc_derivations.specs.Forest.{Empty, Forest, Grow, forest_of, height_of, nodes_of}
use Rattle.qc_derivations.specs.Goals.{Need}
use Rattle.qc_derivations.specs.Nodes.{Task, children_of, task_of}
use Rattle.qc_derivations.specs.Valid.{AreValid, IsValidDerivation, fault_of, first_fault, node_fault, tile_needs}

-- a node for a need, by what its children are to compute
split : (task : Task) (number : ℕ) (inner : Option (List Need)) (children : Forest) (more : Option ℕ) (Goal : Type 0) →
    option_or (node_fault (first_fault task (number + 1) children) number inner) more ≡ None →
    ((needs : List Need) → inner ≡ Some needs → first_fault task (number + 1) children needs ≡ None → more ≡ None → Goal) → Goal
split task number None children more Goal e apart = cc
split task number (Some needs) children more Goal e apart = go (first_fault task (number + 1) children needs) refl e
  where
    go : (it : Option ℕ) → first_fault task (number + 1) children needs ≡ it → option_or it more ≡ None → Goal
    go None is e = apart needs refl is e
    go (Some n) is e = cc

pub no_fault : (task : Task) (number : ℕ) (forest : Forest) (needs : List Need) → first_fault task number forest needs ≡ None →
    AreValid task needs forest
no_fault task number Empty [] e = tt
no_fault task number Empty (need ∷ needs) e = cc
no_fault task number (Grow node children rest) [] e = cc
no_fault task number (Grow node children rest) (need ∷ needs) e =
    split task number (children_of task need node) children (first_fault task (number + (1 + nodes_of children)) rest needs)
    (AreValid task (need ∷ needs) (Grow node children rest)) e
    (λ inner is below beside. (
      inner,
      is,
      no_fault task (number + 1) children inner below,
      no_fault task (number + (1 + nodes_of children)) rest needs beside,
    ))

pub valid_has_none : (task : Task) (number : ℕ) (forest : Forest) (needs : List Need) → AreValid task needs forest →
    first_fault task number forest needs ≡ None
valid_has_none task number Empty [] valid = refl
valid_has_none task number Empty (need ∷ needs) valid = absurd valid
valid_has_none task number (Grow node children rest) [] valid = absurd valid
valid_has_none task number (Grow node children rest) (need ∷ needs) valid =
    let rest_of = first_fault task (number + (1 + nodes_of children)) rest needs in
    ap (λ (x : Option (List Need)). option_or (node_fault (first_fault task (number + 1) children) number x) rest_of) valid.1
    ∙ ap (λ (x : Option ℕ). option_or x rest_of) (valid_has_none task (number + 1) children valid.0 valid.2)
    ∙ valid_has_none task (number + (1 + nodes_of children)) rest needs valid.3

-- by whether a derivation is too high
high : (test : Bool) (bound height : ℕ) (other : Option ℕ) (Goal : Type 0) → nat_lt bound height ≡ test →
    cond test (Some 0) other ≡ None → (height ≤ bound → other ≡ None → Goal) → Goal
high true bound height other Goal is e apart = cc
high false bound height other Goal is e apart = apart (grind (arith, is)) e

pub fault_free : (d : Description) (t : Tile) (bounds : Bounds) (derivation : Derivation) → fault_of d t bounds derivation ≡ None →
    IsValidDerivation d t bounds derivation
fault_free d t bounds derivation e =
    high (nat_lt bounds.height (height_of (forest_of derivation))) bounds.height (height_of (forest_of derivation))
    (first_fault (task_of d t bounds.laws) 0 (forest_of derivation) (tile_needs t)) (IsValidDerivation d t bounds derivation) refl e
    (λ within none. record {
      height = within;
      nodes = no_fault (task_of d t bounds.laws) 0 (forest_of derivation) (tile_needs t) none;
    })

low : (height bound : ℕ) (x : Option ℕ) → height ≤ bound → cond (nat_lt bound height) (Some 0) x ≡ x
low height bound x within =
    let below : nat_lt bound height ≡ false = grind (arith, within) in ap (λ (b : Bool). cond b (Some 0) x) below

pub valid_free : (d : Description) (t : Tile) (bounds : Bounds) (derivation : Derivation) → IsValidDerivation d t bounds derivation →
    fault_of d t bounds derivation ≡ None
valid_free d t bounds derivation valid =
    low (height_of (forest_of derivation)) bounds.height (first_fault (task_of d t bounds.laws) 0 (forest_of derivation) (tile_needs t))
    valid.height
    ∙ valid_has_none (task_of d t bounds.laws) 0 (forest_of derivation) (tile_needs t) valid.nodes
