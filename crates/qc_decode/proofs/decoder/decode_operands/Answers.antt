use Rattle.std.proofs.Common.{◌≡◌, ◌≤◌, ◌<◌, ◌+◌, ◌∙◌, List, ℕ, length, take, set, Some, ap, sym, subst, arith, length-set, length-take-le}
use Rattle.std.specs.Prelude.{slice_index}
use Rattle.std.specs.List.{slice_get}
use Rattle.std.proofs.lemmas.Bool.{both_ways}
use Rattle.std.proofs.lemmas.List.{length_push, take_all}
use Rattle.std.proofs.lemmas.Option.{none-some, same_Some, slice_get_within}
use Rattle.qc_descr.specs.declared.coding.Reach.{Reach}
use Rattle.qc_descr.specs.Description.{AreInRange, kinds_of}
use Rattle.qc_descr.specs.Encoding.{coded_bytes, IsCodedBy}
use Rattle.qc_descr.specs.Reach.{coded_operands}
use Rattle.qc_descr.specs.Law.CodedBytes.{few_bits}
use Rattle.qc_descr.specs.Law.Operands.{range_take_more}
use Rattle.qc_decode.proofs.DecodedOperands.{kept_read, only_operand, read_more}
use Rattle.qc_decode.proofs.Instances.{IsDecodedAs, all_read, coded_by, coded_front, coded_length, each_more, operand_read, read_all}
use Rattle.qc_decode.proofs.decoder.decode_operands.Goals as goal

pub coding_size-size-requires : goal.coding_size-size-requires
coding_size-size-requires c = few_bits c.args.descr.now c.args.instruction.now c.requires.covered

pub returns-then-memory-size-clause-none : goal.returns-then-memory-size-clause-none
returns-then-memory-size-clause-none c = λ _ xs coded.
    omega (arith, coded_length c.args.descr.now c.args.instruction.now c.args.at xs c.args.memory.now c.requires.covered coded, c.coding_size-size.ensures)

pub bounds-reaches-number : goal.bounds-reaches-number
bounds-reaches-number c =
    let read = (operand_read c.args.descr.now c.args.instruction.now _ _ c.loop-number.number _ c.requires.layout c.requires.covered c.as_slice-operand-items.ensures c.as_slice-reaches.ensures c.loop-number-test.true c.operand-item.is) in
    omega (arith, read.within, ap length c.as_slice-reaches.ensures)

pub decode_operand-requires : goal.decode_operand-requires
decode_operand-requires c = (operand_read c.args.descr.now c.args.instruction.now _ _ c.loop-number.number _ c.requires.layout c.requires.covered c.as_slice-operand-items.ensures c.as_slice-reaches.ensures c.loop-number-test.true c.operand-item.is).bits

pub returns-in-None-clause-none : goal.returns-in-None-clause-none
returns-in-None-clause-none c = λ _ xs coded.
    let read = (operand_read c.args.descr.now c.args.instruction.now _ _ c.loop-number.number _ c.requires.layout c.requires.covered c.as_slice-operand-items.ensures c.as_slice-reaches.ensures c.loop-number-test.true c.operand-item.is) in
    let here : IsCodedBy c.args.descr.now c.args.instruction.now c.args.at xs (take c.coding_size-size.result c.args.memory.now) =
    rw c.coding_size-size.ensures coded in
    none-some _ (only_operand c.args.descr.now c.args.instruction.now c.requires.covered c.args.at xs _ c.loop-number.number c.operand_in_bytes-value.result
    _ _ _ c.requires.layout c.requires.limits c.in-None.ensures.narrow read.kind read.reach here c.operand_in_bytes-value.ensures c.in-None.ensures.only)

pub loop-number-preserved : goal.loop-number-preserved
loop-number-preserved c =
    let read = (operand_read c.args.descr.now c.args.instruction.now _ _ c.loop-number.number _ c.requires.layout c.requires.covered c.as_slice-operand-items.ensures c.as_slice-reaches.ensures c.loop-number-test.true c.operand-item.is) in
    let i = c.args.instruction.now in
    let n : ℕ = c.loop-number.number in
    let all = all_read c.args.descr.now c.args.instruction.now _ c.requires.covered c.as_slice-operand-items.ensures in
    let within : n < length c.loop-number.coded =
    omega (arith, all, c.requires.few, c.loop-number.invariant.room, c.loop-number-test.true, ap length c.as_slice-operand-items.ensures) in
    record {
      in_range = rw c.push_reserved.ensures.items
          (range_take_more c.args.descr.now (kinds_of i) c.loop-number.operands.items n _ c.in-Some.operand
          read.kind c.loop-number.invariant.in_range c.in-Some.ensures.range);
      each = subst (λ (items : List ℕ). (k : ℕ) (reach : Reach) → k < n + 1 → slice_get i.coding.reaches k ≡ Some reach →
          IsDecodedAs i.coding.bits reach c.args.at k (slice_index items k) (slice_index (set c.loop-number.coded n c.operand_in_bytes-value.result) k))
          (sym c.push_reserved.ensures.items)
          (each_more i.coding.bits i.coding.reaches c.args.at n c.in-Some.operand c.operand_in_bytes-value.result c.loop-number.operands.items c.loop-number.coded _
          read.reach c.loop-number.invariant.count within c.loop-number.invariant.each c.in-Some.ensures.reached c.in-Some.ensures.coded
          (λ bit none. kept_read c.args.descr.now.facts.order i.coding _ n c.operand_in_bytes-value.result bit c.operand_in_bytes-value.ensures none));
      only = λ xs coded. rw c.push_reserved.ensures.items
          (read_more c.args.descr.now (kinds_of i) xs c.loop-number.operands.items n c.in-Some.operand
          coded.in_range (slice_get_within _ _ _ read.kind) (c.loop-number.invariant.only xs coded)
          (same_Some _ _ (only_operand c.args.descr.now i c.requires.covered c.args.at xs _ n c.operand_in_bytes-value.result
          _ _ _ c.requires.layout c.requires.limits c.in-Some.ensures.narrow read.kind read.reach coded c.operand_in_bytes-value.ensures c.in-Some.ensures.only)));
      count = rw c.push_reserved.ensures.items (length_push c.loop-number.operands.items c.in-Some.operand ∙ ap (λ n. n + 1) c.loop-number.invariant.count);
      room = length-set c.loop-number.coded n c.operand_in_bytes-value.result ∙ c.loop-number.invariant.room;
      capacity = c.push_reserved.ensures.capacity ∙ c.loop-number.invariant.capacity;
    }

pub slice_bounds-coded-end : goal.slice_bounds-coded-end
slice_bounds-coded-end c =
    let all = all_read c.args.descr.now c.args.instruction.now _ c.requires.covered c.as_slice-operand-items.ensures in
    omega (arith, all, ap length c.as_slice-reaches.ensures, ap length c.as_slice-operand-items.ensures, c.loop-number-test.array_long)

pub slice_bounds-has_bytes-end : goal.slice_bounds-has_bytes-end
slice_bounds-has_bytes-end c =
    let all = all_read c.args.descr.now c.args.instruction.now _ c.requires.covered c.as_slice-operand-items.ensures in
    let os : length c.as_slice-operand-items.result.now ≤ 8 = omega (arith, ap length c.as_slice-operand-items.ensures, c.requires.few) in
    let few : length c.as_slice-reaches.result.now ≤ length c.loop-number.coded =
    omega (arith, all, ap length c.as_slice-reaches.ensures, c.loop-number-test.array_long) in
    sym (length-take-le (length c.as_slice-reaches.result.now) c.loop-number.coded few)

pub returns-then-has_bytes-clause-some : goal.returns-then-has_bytes-clause-some
returns-then-has_bytes-clause-some c =
    let all = all_read c.args.descr.now c.args.instruction.now _ c.requires.covered c.as_slice-operand-items.ensures in
    let os : length c.as_slice-operand-items.result.now ≤ 8 = omega (arith, ap length c.as_slice-operand-items.ensures, c.requires.few) in
    let few : length c.as_slice-reaches.result.now ≤ length c.loop-number.coded =
    omega (arith, all, ap length c.as_slice-reaches.ensures, c.loop-number-test.array_long) in
    let n : ℕ = length c.as_slice-reaches.result.now in
    let done : c.loop-number.number ≡ n = omega (arith, all, ap length c.as_slice-reaches.ensures) in
    let kinds : length (kinds_of c.args.instruction.now) ≤ n = omega (arith, all, ap length c.as_slice-reaches.ensures) in
    let range : AreInRange c.args.descr.now (kinds_of c.args.instruction.now) c.loop-number.operands.items =
    subst (λ ks. AreInRange c.args.descr.now ks c.loop-number.operands.items) (take_all n (kinds_of c.args.instruction.now) kinds)
    (rw done at c.loop-number.invariant.in_range) in
    subst (λ m. IsCodedBy c.args.descr.now c.args.instruction.now c.args.at c.loop-number.operands.items (take m c.args.memory.now)) c.coding_size-size.ensures
    (coded_by c.args.descr.now c.args.instruction.now c.args.at n c.loop-number.operands.items c.loop-number.coded _ range
    (ap length c.as_slice-reaches.ensures) (c.loop-number.invariant.count ∙ done) few
    (λ k reach less. c.loop-number.invariant.each k reach (omega (arith, less, done)))
    (c.has_bytes.ensures.0 c.if-has_bytes.true))

pub returns-else-has_bytes-clause-none : goal.returns-else-has_bytes-clause-none
returns-else-has_bytes-clause-none c = λ _ xs coded.
    let all = all_read c.args.descr.now c.args.instruction.now _ c.requires.covered c.as_slice-operand-items.ensures in
    let os : length c.as_slice-operand-items.result.now ≤ 8 = omega (arith, ap length c.as_slice-operand-items.ensures, c.requires.few) in
    let few : length c.as_slice-reaches.result.now ≤ length c.loop-number.coded =
    omega (arith, all, ap length c.as_slice-reaches.ensures, c.loop-number-test.array_long) in
    let n : ℕ = length c.as_slice-reaches.result.now in
    let i = c.args.instruction.now in
    let done : c.loop-number.number ≡ n = omega (arith, all, ap length c.as_slice-reaches.ensures) in
    let here : IsCodedBy c.args.descr.now i c.args.at xs (take c.coding_size-size.result c.args.memory.now) = rw c.coding_size-size.ensures coded in
    let kinds : length (kinds_of i) ≤ c.loop-number.number = omega (arith, all) in
    let same : c.loop-number.operands.items ≡ xs =
    read_all c.args.descr.now (kinds_of i) xs c.loop-number.operands.items c.loop-number.number coded.in_range kinds (c.loop-number.invariant.only xs here) in
    let front : take n c.loop-number.coded ≡ coded_operands i.coding.reaches c.args.at c.loop-number.operands.items =
    coded_front i.coding.bits i.coding.reaches c.args.at n c.loop-number.operands.items c.loop-number.coded
    (ap length c.as_slice-reaches.ensures) (c.loop-number.invariant.count ∙ done) few
    (λ k reach less. c.loop-number.invariant.each k reach (omega (arith, less, done))) in
    both_ways c.has_bytes.result c.if-has_bytes.false
    (c.has_bytes.ensures.1 (here.bytes_are ∙ ap (coded_bytes c.args.descr.now.facts.order i.coding)
    (sym (front ∙ ap (coded_operands i.coding.reaches c.args.at) same))))
