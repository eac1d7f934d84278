-- The weight of trees, by which walks through derivations end.
use Rattle.std.proofs.Common.{arith, ◌≡◌, ℕ, ◌+◌, length, ap}
use Rattle.std.proofs.lemmas.List.{length-map}
use Rattle.qc_derivations.specs.declared.derivation.Derivation.{Derivation, out-Derivation}
use Rattle.qc_derivations.specs.Forest.{Empty, Forest, Grow, children_under, forest_of, grows_of, stand_of}
use Rattle.qc_derivations.specs.Law.Forest.{grows_of-tree}

-- so many nodes and operands
abbrev pub weight : Forest → ℕ
weight Empty = 0
weight (Grow node children rest) = 1 + (length node.stands + (weight children + weight rest))

pub tree_weight : (d : Derivation) →
    weight (forest_of d) ≡ 1 + (length (out-Derivation d).bindings + weight (children_under d))
tree_weight d =
    let whole = ap weight (grows_of-tree d Empty) in
    let operands = length-map (out-Derivation d).bindings stand_of in omega (arith, whole, operands)

pub before_weight : (d : Derivation) (rest : Forest) → weight (grows_of d rest) ≡ weight (forest_of d) + weight rest
before_weight d rest =
    let whole = ap weight (grows_of-tree d rest) in
    let alone = ap weight (grows_of-tree d Empty) in omega (arith, whole, alone)
