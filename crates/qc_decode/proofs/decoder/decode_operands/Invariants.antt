use Rattle.std.proofs.Common.{◌≡◌, ◌<◌, ℕ, List, Some, length, take}
use Rattle.std.specs.Prelude.{slice_index}
use Rattle.std.specs.List.{slice_get}
use Rattle.qc_descr.specs.declared.coding.Reach.{Reach}
use Rattle.qc_descr.specs.Description.{AreInRange, kinds_of}
use Rattle.qc_descr.specs.Encoding.{IsCodedBy}
use Rattle.qc_decode.proofs.Instances.{IsDecodedAs}
use Rattle.qc_decode.proofs.decoder.decode_operands.Given as goal

abbrev pub invariant-loop-number : goal.invariant-loop-number
invariant-loop-number l = record {
  in_range : AreInRange l.descr (take l.number (kinds_of l.instruction)) l.operands.items;
  each : (k : ℕ) (reach : Reach) → k < l.number → slice_get l.instruction.coding.reaches k ≡ Some reach →
      IsDecodedAs l.instruction.coding.bits reach l.at k (slice_index l.operands.items k) (slice_index l.coded k);
  only : (xs : List ℕ) → IsCodedBy l.descr l.instruction l.at xs l.bytes → l.operands.items ≡ take l.number xs;
  count : length l.operands.items ≡ l.number;
  room : length l.coded ≡ 8;
  capacity : l.operands.capacity ≡ 8;
}
