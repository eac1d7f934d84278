use Rattle.std.proofs.Common.{length}
use Rattle.qc_flat.proofs.flattening.+flat_effects.Given as goal

abbrev pub decreases-flat_effects : goal.decreases-flat_effects
decreases-flat_effects l = length l.effects.now
