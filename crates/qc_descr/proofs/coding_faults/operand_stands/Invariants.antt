use Rattle.std.proofs.Common.{◌≡◌, true}
use Rattle.qc_descr.specs.CodingFaults.{bits_of_claims}
use Rattle.qc_descr.specs.Inner.Standing.{bit_is_right}
use Rattle.qc_descr.specs.Valid.{all_below}
use Rattle.qc_descr.proofs.coding_faults.operand_stands.Given as goal

abbrev pub invariant-loop-bit : goal.invariant-loop-bit
invariant-loop-bit l = all_below l.bit (bit_is_right l.operand l.dropped (bits_of_claims l.claims)) ≡ true
