use Rattle.std.proofs.Common.{◌≡◌, drop}
use Rattle.std.specs.List.{list_any}
use Rattle.qc_descr.specs.Coding.{is_piece}
use Rattle.qc_descr.proofs.coding_faults.has_piece_among.Given as goal

abbrev pub invariant-loop-stands : goal.invariant-loop-stands
invariant-loop-stands l = list_any (is_piece l.operand l.bit) (drop l.stands-index l.bits) ≡ list_any (is_piece l.operand l.bit) l.bits
