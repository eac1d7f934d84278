use Rattle.std.proofs.Common.{◌≡◌, ◌++◌, length}
use Rattle.qc_descr.specs.Making.{instructions_of}
use Rattle.qc_descr.proofs.making.instructions_of.Given as goal

abbrev pub invariant-each : goal.invariant-each
invariant-each l = record {
  made : l.instructions ++ instructions_of l.operations l.sketches ≡ instructions_of l.fn.operations l.fn.sketches;
  count : length l.operations ≡ length l.sketches;
}

abbrev pub decreases-each : goal.decreases-each
decreases-each l = length l.operations
