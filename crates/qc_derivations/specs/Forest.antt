-- Derivations as forests: a node, its children in order, of which the one for a flag is last, and what stands beside it.
use Rattle.std.specs.Prelude.{ℕ, ◌+◌, max, Bool, true, false, List, [], ◌∷◌, map, Option, None, Some}
use Rattle.qc_terms.specs.Tree.{Tree, tree_of}
use Rattle.qc_equations.specs.declared.names.Law.{Law}
use Rattle.qc_laws.specs.declared.step.Step.{Step}
use Rattle.qc_derivations.specs.declared.derivation.Binding.{Binding, fold-Binding}
use Rattle.qc_derivations.specs.declared.derivation.Binding.TheOpen.{Binding-F}
use Rattle.qc_derivations.specs.declared.derivation.Binding.TheOpen as open_binding
use Rattle.qc_derivations.specs.declared.derivation.Derivation.{Derivation, Derivation-F, fold-Derivation, out-Derivation}

-- what stands for an operand; the trees of children are those of the forest, in order
pub data Stand : Type 0 where
  Own Spare Child : Stand
  Param : (number : ℕ) → Stand
  Cell : (space index : ℕ) → Stand
  Constant : (term : Tree) → Stand

-- An instruction by its number, the laws that it uses, each at a place, what stands for each of its operands, and whether
-- one more child computes a flag for it.
pub record Node : Type 0 where
  pub instruction : ℕ
  pub steps : List (Law × List ℕ)
  pub stands : List Stand
  pub flag : Bool

pub data Forest : Type 0 where
  Empty : Forest
  Grow : (node : Node) (children rest : Forest) → Forest

-- the number of nodes
abbrev pub nodes_of : Forest → ℕ
nodes_of Empty = 0
nodes_of (Grow node children rest) = 1 + (nodes_of children + nodes_of rest)

-- the height of the highest tree; a node without children has height 1
abbrev pub height_of : Forest → ℕ
height_of Empty = 0
height_of (Grow node children rest) = max (1 + height_of children) (height_of rest)

-- ---- the forest of a derivation

-- what stands for an operand, and what it puts before other trees
pub record Bound : Type 0 where
  pub stand : Stand
  pub grows : Forest → Forest

abbrev pub grow_all : List Bound → Forest → Forest
grow_all [] rest = rest
grow_all (b ∷ bs) rest = b.grows (grow_all bs rest)

abbrev pub grow_flag : Option (Forest → Forest) → Forest
grow_flag None = Empty
grow_flag (Some grows) = grows Empty

abbrev pub is_there : {A : Type 0} → Option A → Bool
is_there None = false
is_there (Some a) = true

-- one layer of what stands for an operand
abbrev pub bound_of : Binding-F Bound (Forest → Forest) → Bound
bound_of open_binding.Own = record { stand = Own; grows = λ rest. rest }
bound_of (open_binding.Param number) = record { stand = Param number; grows = λ rest. rest }
bound_of (open_binding.Cell space index) = record { stand = Cell space index; grows = λ rest. rest }
bound_of (open_binding.Constant term) = record { stand = Constant (tree_of term); grows = λ rest. rest }
bound_of open_binding.Spare = record { stand = Spare; grows = λ rest. rest }
bound_of (open_binding.Child node) = record { stand = Child; grows = node }

abbrev pub step_of : Step → Law × List ℕ
step_of step = (step.law, step.place)

-- one layer of a derivation
abbrev pub grown : Derivation-F Bound (Forest → Forest) → Forest → Forest
grown d rest =
    Grow
    (record {
      instruction = d.instruction;
      steps = map step_of d.steps;
      stands = map (λ b. b.stand) d.bindings;
      flag = is_there d.flag;
    })
    (grow_all d.bindings (grow_flag d.flag)) rest

-- what stands for an operand by its binding, and what that puts before other trees
abbrev pub bound_by : Binding → Bound
bound_by b = fold-Binding Bound (Forest → Forest) bound_of grown b

abbrev pub stand_of : Binding → Stand
stand_of b = (bound_by b).stand

-- the derivation as a tree before other trees
abbrev pub grows_of : Derivation → Forest → Forest
grows_of d = fold-Derivation Bound (Forest → Forest) bound_of grown d

-- the forest of one derivation
abbrev pub forest_of : Derivation → Forest
forest_of d = grows_of d Empty

-- ---- a derivation taken apart

-- the node of a derivation
abbrev pub node_of : Derivation → Node
node_of d = record {
  instruction = (out-Derivation d).instruction;
  steps = map step_of (out-Derivation d).steps;
  stands = map stand_of (out-Derivation d).bindings;
  flag = is_there (out-Derivation d).flag;
}

abbrev pub grows_of_flag : Option Derivation → Forest
grows_of_flag None = Empty
grows_of_flag (Some d) = grows_of d Empty

-- the trees that bindings put before one for a flag
abbrev pub children_in : List Binding → Option Derivation → Forest
children_in bindings flag = grow_all (map bound_by bindings) (grows_of_flag flag)

-- the children of a derivation's node
abbrev pub children_under : Derivation → Forest
children_under d = children_in (out-Derivation d).bindings (out-Derivation d).flag
