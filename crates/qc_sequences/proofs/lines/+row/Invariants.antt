use Rattle.std.proofs.Common.{length}
use Rattle.qc_sequences.proofs.lines.+row.Given as goal

abbrev pub decreases-row : goal.decreases-row
decreases-row l = length l.bindings.now
