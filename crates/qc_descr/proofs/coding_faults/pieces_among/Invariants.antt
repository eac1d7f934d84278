use Rattle.std.proofs.Common.{◌≡◌, ◌+◌, ◌≤◌, drop, count_by}
use Rattle.qc_descr.specs.Coding.{is_piece}
use Rattle.qc_descr.proofs.coding_faults.pieces_among.Given as goal

abbrev pub invariant-loop-stands : goal.invariant-loop-stands
invariant-loop-stands l = record {
  count : l.count + count_by (is_piece l.operand l.bit) (drop l.stands-index l.bits) ≡ count_by (is_piece l.operand l.bit) l.bits;
  bound : l.count ≤ l.stands-index;
}
