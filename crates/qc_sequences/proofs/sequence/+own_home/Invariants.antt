use Rattle.std.proofs.Common.{length}
use Rattle.qc_sequences.proofs.sequence.+own_home.Given as goal

abbrev pub decreases-own_home : goal.decreases-own_home
decreases-own_home l = length l.effects.now
