use Rattle.std.proofs.Common.{length}
use Rattle.qc_encode.proofs.operands.+placed_bits.Given as goal

abbrev pub decreases-placed_bits : goal.decreases-placed_bits
decreases-placed_bits l = length l.bits.now
