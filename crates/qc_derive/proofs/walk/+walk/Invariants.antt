use Rattle.std.proofs.Common.{◌+◌, ◌*◌, length}
use Rattle.qc_derivations.specs.Forest.{children_in, forest_of, grows_of, grows_of_flag}
use Rattle.qc_sequences.specs.Law.Weights.{weight}
use Rattle.qc_derive.proofs.walk.+walk.Given as goal

abbrev pub decreases-tree : goal.decreases-tree
decreases-tree l = 5 * weight (forest_of l.derivation.now)

abbrev pub decreases-trees : goal.decreases-trees
decreases-trees l = 5 * weight (children_in l.bindings.now l.flag.now) + (length l.bindings.now + 4)

abbrev pub decreases-last : goal.decreases-last
decreases-last l = 5 * weight (grows_of_flag l.flag.now) + 1

abbrev pub decreases-first_tree : goal.decreases-first_tree
decreases-first_tree l =
    5 * weight (grows_of l.child.now (children_in l.bindings.now l.flag.now)) + (length l.bindings.now + 1)
