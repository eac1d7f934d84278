use Rattle.std.proofs.Common.{◌≡◌, ◌+◌, ◌*◌, ◌≤◌, drop, count_by}
use Rattle.qc_descr.specs.Coding.{is_piece}
use Rattle.qc_descr.specs.CodingFaults.{bits_of_claims}
use Rattle.qc_descr.proofs.coding_faults.count_pieces.Given as goal

abbrev pub invariant-loop-claim : goal.invariant-loop-claim
invariant-loop-claim l = record {
  count : l.count + count_by (is_piece l.operand l.bit) (bits_of_claims (drop l.claim-index l.claims))
      ≡ count_by (is_piece l.operand l.bit) (bits_of_claims l.claims);
  bound : l.count ≤ 18446744073709551616 * l.claim-index;
}
