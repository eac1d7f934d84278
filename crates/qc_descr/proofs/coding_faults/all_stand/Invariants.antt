use Rattle.std.proofs.Common.{◌≡◌, true}
use Rattle.qc_descr.specs.CodingFaults.{bits_of_claims}
use Rattle.qc_descr.specs.Inner.Standing.{operand_is_right}
use Rattle.qc_descr.specs.Valid.{all_below}
use Rattle.qc_descr.proofs.coding_faults.all_stand.Given as goal

abbrev pub invariant-loop-operand : goal.invariant-loop-operand
invariant-loop-operand l = all_below l.operand (operand_is_right l.sizes l.dropped (bits_of_claims l.claims)) ≡ true
