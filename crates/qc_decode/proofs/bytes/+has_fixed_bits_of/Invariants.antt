use Rattle.std.proofs.Common.{length}
use Rattle.qc_decode.proofs.bytes.+has_fixed_bits_of.Given as goal

abbrev pub decreases-has_fixed_bits_of : goal.decreases-has_fixed_bits_of
decreases-has_fixed_bits_of l = length l.bits.now
