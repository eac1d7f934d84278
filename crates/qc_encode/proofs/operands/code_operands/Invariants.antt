use Rattle.std.proofs.Common.{◌≡◌, ◌<◌, ◌++◌, ℕ, take, drop, Some}
use Rattle.std.specs.Prelude.{slice_index}
use Rattle.std.specs.List.{slice_get}
use Rattle.qc_descr.specs.declared.coding.Reach.{Reach}
use Rattle.qc_descr.specs.Encoding.{IsCodable}
use Rattle.qc_descr.specs.Reach.{coded_operands}
use Rattle.qc_encode.proofs.operands.code_operands.Given as goal

abbrev pub invariant-loop-number : goal.invariant-loop-number
invariant-loop-number l = record {
  coded : l.coded ≡ take l.number (coded_operands l.fn.coding.reaches l.at l.operands) ++ drop l.number l.initial.coded;
  codable : (k : ℕ) (reach : Reach) → k < l.number → slice_get l.fn.coding.reaches k ≡ Some reach →
      IsCodable l.fn.coding.bits reach l.at k (slice_index l.operands k);
}
