-- Nodes in a list, whose parts are named by their places before them.
use Rattle.std.specs.Prelude.{ℕ, ◌≡◌, List, [], ◌∷◌, ◌++◌, Some, slice_get}
use Rattle.qc_bodies.specs.declared.nodes.Node.{Node}
use Rattle.qc_bodies.specs.declared.nodes.Node.TheVariants as node
use Rattle.qc_bodies.specs.Trees.{Core, one, Leaf, Absent, Wrap, Operate, none, more}
use Rattle.qc_bodies.specs.Meanings.{value_or}

-- the expression at a place of a list
abbrev pub placed : List (Core one) → ℕ → Core one
placed es k = value_or (Absent 0) (slice_get es k)

-- what a node is over these
abbrev pub node_over : List (Core one) → Node → Core one
node_over es (node.Leaf token leaf width) = Leaf token leaf width
node_over es (node.Absent token) = Absent token
node_over es (node.Wrap token wrap width part) = Wrap token wrap width (placed es part)
node_over es (node.Unary token op arg) = Operate token op (more (placed es arg) none)
node_over es (node.Binary token op left right) = Operate token op (more (placed es left) (more (placed es right) none))

abbrev pub nodes_after : List (Core one) → List Node → List (Core one)
nodes_after es [] = es
nodes_after es (n ∷ ns) = nodes_after (es ++ node_over es n ∷ []) ns

-- the expressions that nodes are, in order
abbrev pub written_in : List Node → List (Core one)
written_in nodes = nodes_after [] nodes

-- an expression stands at a place
abbrev pub IsAt : List Node → ℕ → Core one → Type 0
IsAt nodes place e = slice_get (written_in nodes) place ≡ Some e

-- what stands at a place still does
abbrev pub Keeps : List Node → List Node → Type 0
Keeps old new = (place : ℕ) (e : Core one) → IsAt old place e → IsAt new place e
