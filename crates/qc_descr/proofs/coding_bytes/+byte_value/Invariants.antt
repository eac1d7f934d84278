use Rattle.std.proofs.Common.{length}
use Rattle.qc_descr.proofs.coding_bytes.+byte_value.Given as goal

abbrev pub decreases-byte_value : goal.decreases-byte_value
decreases-byte_value l = length l.bits.now
