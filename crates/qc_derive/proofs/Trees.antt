-- A derivation's tree alone, and before other trees: its nodes, its height and its first fault.
use Rattle.std.proofs.Common.{arith, ◌≡◌, ◌∙◌, ℕ, ◌+◌, max, List, [], ◌∷◌, Option, None, Some, refl, ap, sym, nat_le, ◌&&◌}
use Rattle.std.specs.Option.{option_or}
use Rattle.qc_derivations.specs.declared.derivation.Derivation.{Derivation}
use Rattle.qc_derivations.specs.Forest.{Empty, Forest, Grow, children_under, forest_of, grows_of, height_of, node_of, nodes_of}
use Rattle.qc_derivations.specs.Goals.{Need}
use Rattle.qc_derivations.specs.Law.Forest.{grows_of-tree}
use Rattle.qc_derivations.specs.Nodes.{Task, children_of}
use Rattle.qc_derivations.specs.Valid.{first_fault, node_fault}

or_none : (x : Option ℕ) → option_or x None ≡ x
or_none None = refl
or_none (Some n) = refl

-- what a node's tree has before others, for any node and children
grown_fault : (task : Task) (n : ℕ) (t : Forest) (need : Need) (d : Derivation) → t ≡ Grow (node_of d) (children_under d) Empty →
    first_fault task n t (need ∷ [])
    ≡ node_fault (first_fault task (n + 1) (children_under d)) n (children_of task need (node_of d))
grown_fault task n t need d e =
    ap (λ (f : Forest). first_fault task n f (need ∷ [])) e
    ∙ or_none (node_fault (first_fault task (n + 1) (children_under d)) n (children_of task need (node_of d)))

pub tree_fault : (task : Task) (n : ℕ) (d : Derivation) (need : Need) →
    first_fault task n (forest_of d) (need ∷ [])
    ≡ node_fault (first_fault task (n + 1) (children_under d)) n (children_of task need (node_of d))
tree_fault task n d need = grown_fault task n (forest_of d) need d (grows_of-tree d Empty)

pub tree_nodes : (d : Derivation) → nodes_of (forest_of d) ≡ 1 + nodes_of (children_under d)
tree_nodes d = ap nodes_of (grows_of-tree d Empty) ∙ omega arith

pub tree_height : (d : Derivation) → height_of (forest_of d) ≡ 1 + height_of (children_under d)
tree_height d = ap height_of (grows_of-tree d Empty) ∙ omega arith

pub before_nodes : (d : Derivation) (rest : Forest) → nodes_of (grows_of d rest) ≡ nodes_of (forest_of d) + nodes_of rest
before_nodes d rest =
    let whole = ap nodes_of (grows_of-tree d rest) in
    let alone = tree_nodes d in omega (arith, whole, alone)

pub before_height : (d : Derivation) (rest : Forest) → height_of (grows_of d rest) ≡ max (height_of (forest_of d)) (height_of rest)
before_height d rest =
    ap height_of (grows_of-tree d rest) ∙ sym (ap (λ h. max h (height_of rest)) (tree_height d))

pub before_fault : (task : Task) (n : ℕ) (d : Derivation) (rest : Forest) (need : Need) (needs : List Need) →
    first_fault task n (grows_of d rest) (need ∷ needs)
    ≡ option_or (first_fault task n (forest_of d) (need ∷ [])) (first_fault task (n + nodes_of (forest_of d)) rest needs)
before_fault task n d rest need needs =
    let own = node_fault (first_fault task (n + 1) (children_under d)) n (children_of task need (node_of d)) in
    ap (λ (f : Forest). first_fault task n f (need ∷ needs)) (grows_of-tree d rest)
    ∙ sym (ap (λ (x : Option ℕ). option_or x (first_fault task (n + (1 + nodes_of (children_under d))) rest needs)) (tree_fault task n d need))
    ∙ ap (λ (k : ℕ). option_or (first_fault task n (forest_of d) (need ∷ [])) (first_fault task (n + k) rest needs)) (sym (tree_nodes d))

-- ---- heights

pub highest : (a b h : ℕ) → nat_le (max a b) h ≡ (nat_le a h && nat_le b h)
highest a b h = grind arith
