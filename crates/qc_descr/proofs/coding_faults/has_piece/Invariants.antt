use Rattle.std.proofs.Common.{◌≡◌, drop}
use Rattle.std.specs.List.{list_any}
use Rattle.qc_descr.specs.Coding.{is_piece}
use Rattle.qc_descr.specs.CodingFaults.{bits_of_claims}
use Rattle.qc_descr.proofs.coding_faults.has_piece.Given as goal

abbrev pub invariant-loop-claim : goal.invariant-loop-claim
invariant-loop-claim l =
    list_any (is_piece l.operand l.bit) (bits_of_claims (drop l.claim-index l.claims))
    ≡ list_any (is_piece l.operand l.bit) (bits_of_claims l.claims)
