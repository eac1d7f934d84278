use Rattle.std.proofs.Common.{◌≡◌, ◌∙◌, ◌++◌, length, sym, arith, take, drop}
use Rattle.qc_descr.specs.Encoding.{coded_bytes}
use Rattle.qc_encode.proofs.encoding.encode_coding.Goals as goal
use Rattle.qc_descr.specs.Law.CodedBytes.{coded_byte, length-coded_bytes}
use Rattle.qc_encode.proofs.Written.{written_more, written_front, written_rest}

pub loop-place-preserved : goal.loop-place-preserved
loop-place-preserved c =
    let count : length (coded_bytes c.args.order c.args.coding.now c.args.operands.now) ≡ c.coding_size-size.result =
    length-coded_bytes c.args.order c.args.coding.now c.args.operands.now c.requires.tokens ∙ sym c.coding_size-size.ensures in
    written_more (coded_bytes c.args.order c.args.coding.now c.args.operands.now) c.args.into.now c.loop-place.into c.loop-place.place c.byte_value.result
    c.loop-place.invariant (omega arith) (omega arith)
    (c.byte_value.ensures.value ∙ coded_byte c.args.order c.args.coding.now c.args.operands.now c.loop-place.place c.memory_byte.result.now c.memory_byte.ensures.is)

pub returns-clause-encoded : goal.returns-clause-encoded
returns-clause-encoded c =
    let count : length (coded_bytes c.args.order c.args.coding.now c.args.operands.now) ≡ c.coding_size-size.result =
    length-coded_bytes c.args.order c.args.coding.now c.args.operands.now c.requires.tokens ∙ sym c.coding_size-size.ensures in
    let done : c.loop-place.place ≡ c.coding_size-size.result = omega arith in
    let whole : c.loop-place.into ≡ take c.coding_size-size.result (coded_bytes c.args.order c.args.coding.now c.args.operands.now) ++ drop c.coding_size-size.result c.args.into.now =
    rw done at c.loop-place.invariant in
    written_front _ _ _ _ whole count

pub returns-clause-rest : goal.returns-clause-rest
returns-clause-rest c =
    let count : length (coded_bytes c.args.order c.args.coding.now c.args.operands.now) ≡ c.coding_size-size.result =
    length-coded_bytes c.args.order c.args.coding.now c.args.operands.now c.requires.tokens ∙ sym c.coding_size-size.ensures in
    let done : c.loop-place.place ≡ c.coding_size-size.result = omega arith in
    let whole : c.loop-place.into ≡ take c.coding_size-size.result (coded_bytes c.args.order c.args.coding.now c.args.operands.now) ++ drop c.coding_size-size.result c.args.into.now =
    rw done at c.loop-place.invariant in
    written_rest _ _ _ _ whole count
