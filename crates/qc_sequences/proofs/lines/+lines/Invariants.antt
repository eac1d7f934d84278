use Rattle.std.proofs.Common.{◌+◌, ◌*◌, length}
use Rattle.qc_derivations.specs.Forest.{children_in, forest_of, grows_of}
use Rattle.qc_sequences.specs.Law.Weights.{weight}
use Rattle.qc_sequences.proofs.lines.+lines.Given as goal

abbrev pub decreases-tree_lines : goal.decreases-tree_lines
decreases-tree_lines l = 5 * weight (forest_of l.derivation.now)

abbrev pub decreases-trees_lines : goal.decreases-trees_lines
decreases-trees_lines l = 5 * weight (children_in l.bindings.now l.flag.now) + (length l.bindings.now + 4)

abbrev pub decreases-first_lines : goal.decreases-first_lines
decreases-first_lines l =
    5 * weight (grows_of l.child.now (children_in l.bindings.now l.flag.now)) + (length l.bindings.now + 1)
