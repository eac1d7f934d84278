use Rattle.std.proofs.Common.{◌+◌, ◌*◌, length}
use Rattle.qc_derivations.specs.Forest.{children_in, forest_of}
use Rattle.qc_sequences.specs.Law.Weights.{weight}
use Rattle.qc_derive.proofs.height.+height.Given as goal

abbrev pub decreases-is_within : goal.decreases-is_within
decreases-is_within l = 3 * weight (forest_of l.derivation.now)

abbrev pub decreases-are_within : goal.decreases-are_within
decreases-are_within l = 3 * weight (children_in l.bindings.now l.flag.now) + (length l.bindings.now + 2)
