use Rattle.std.proofs.Common.{◌≡◌, ◌∙◌, ◌/◌, length, sum, refl, sym, arith}
use Rattle.qc_descr.specs.Coding.{memory_bytes}
use Rattle.qc_decode.proofs.operands.operand_in_bytes.Goals as goal
use Rattle.qc_decode.proofs.DecodedOperands.{gathered_all, gathered_more}
use Rattle.qc_descr.specs.Law.CodedBytes.{length-tokens_bytes}

pub loop-place-preserved : goal.loop-place-preserved
loop-place-preserved c =
    gathered_more c.args.operand c.loop-place.value _ c.loop-place.place c.operand_in_byte-value.result (memory_bytes c.args.order c.args.coding.now)
    c.args.bytes.now c.memory_byte.result.now c.memory_byte.ensures.is c.loop-place-test.true c.operand_in_byte-value.ensures refl
    ∙ c.loop-place.invariant

pub returns : goal.returns
returns c =
    let count : length (memory_bytes c.args.order c.args.coding.now) ≡ sum c.args.coding.now.tokens / 8 =
    length-tokens_bytes c.args.order c.args.coding.now.tokens c.args.coding.now.bits c.requires.tokens in
    sym (gathered_all c.args.operand c.loop-place.value c.loop-place.place (memory_bytes c.args.order c.args.coding.now) c.args.bytes.now (omega arith))
    ∙ c.loop-place.invariant
