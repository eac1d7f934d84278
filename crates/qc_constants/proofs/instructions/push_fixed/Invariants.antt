use Rattle.std.proofs.Common.{◌≡◌, ◌++◌}
use Rattle.qc_constants.specs.Constants.{fixed_bits}
use Rattle.qc_constants.proofs.instructions.push_fixed.Given as goal

abbrev pub invariant-loop-i : goal.invariant-loop-i
invariant-loop-i l = l.bits ≡ l.fn.bits ++ fixed_bits l.i l.value
