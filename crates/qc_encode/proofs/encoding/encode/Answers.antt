use Rattle.std.proofs.Common.{◌≡◌, ◌∙◌, ap, sym, arith, length, length-take}
use Rattle.std.specs.Prelude.{ℕ}
use Rattle.qc_descr.specs.Reach.{coded_operands}
use Rattle.qc_descr.specs.Law.CodedBytes.{few_bits, sum_least}
use Rattle.qc_descr.specs.Law.Operands.{length-coded}
use Rattle.qc_encode.proofs.Read.{encoded, refuted, refused}
use Rattle.qc_encode.proofs.encoding.encode.Goals as goal

pub code_operands-requires-clause-few : goal.code_operands-requires-clause-few
code_operands-requires-clause-few c = omega (arith, c.instruction_of-instruction.ensures.few, ap length c.as_slice-operands.ensures)

pub code_operands-requires-clause-reaches : goal.code_operands-requires-clause-reaches
code_operands-requires-clause-reaches c = omega (arith, c.instruction_of-instruction.ensures.reaches, ap length c.as_slice-operands.ensures)

pub slice_bounds-coded-end : goal.slice_bounds-coded-end
slice_bounds-coded-end c =
    let n : ℕ = length c.as_slice-operands.result.now in
    let count : length (coded_operands c.instruction_of-instruction.result.now.coding.reaches c.args.at c.as_slice-operands.result.now) ≡ n =
    length-coded c.instruction_of-instruction.result.now.coding.reaches c.args.at c.as_slice-operands.result.now (ap length c.as_slice-operands.ensures ∙ sym c.instruction_of-instruction.ensures.reaches) in
    omega (arith, count, ap length c.in-Ok.ensures.coded, length-take n c.in-Ok.coded)

pub slice_bounds-coded-end-in-Ok : goal.slice_bounds-coded-end-in-Ok
slice_bounds-coded-end-in-Ok c =
    let n : ℕ = length c.as_slice-operands.result.now in
    let count : length (coded_operands c.instruction_of-instruction.result.now.coding.reaches c.args.at c.as_slice-operands.result.now) ≡ n =
    length-coded c.instruction_of-instruction.result.now.coding.reaches c.args.at c.as_slice-operands.result.now (ap length c.as_slice-operands.ensures ∙ sym c.instruction_of-instruction.ensures.reaches) in
    omega (arith, count, ap length c.in-Ok.ensures.coded, length-take n c.in-Ok.coded)

pub encode_coding-requires-clause-few : goal.encode_coding-requires-clause-few
encode_coding-requires-clause-few c = few_bits _ _ c.instruction_of-instruction.ensures.covered

pub encode_coding-requires-clause-tokens : goal.encode_coding-requires-clause-tokens
encode_coding-requires-clause-tokens c = c.instruction_of-instruction.ensures.covered.tokens

pub encode_coding-requires-clause-bits : goal.encode_coding-requires-clause-bits
encode_coding-requires-clause-bits c = c.instruction_of-instruction.ensures.covered.no_free_bit

pub returns-in-Ok-clause-encoded : goal.returns-in-Ok-clause-encoded
returns-in-Ok-clause-encoded c =
    encoded c.args.descr.now c.args.at c.args.instance.now.instruction c.args.instance.now.operands.items c.as_slice-operands.result.now
    c.instruction_of-instruction.result.now c.instruction_of-instruction.ensures c.as_slice-operands.ensures _ _ c.in-Ok.ensures.codable c.in-Ok.ensures.coded c.encode_coding.ensures.encoded

pub returns-in-Ok-clause-size : goal.returns-in-Ok-clause-size
returns-in-Ok-clause-size c = rw c.instruction_of-instruction.ensures.is c.encode_coding.ensures.size

pub returns-in-Ok-clause-some : goal.returns-in-Ok-clause-some
returns-in-Ok-clause-some c =
    omega (arith, c.encode_coding.ensures.size, sum_least c.instruction_of-instruction.result.now.coding.tokens c.instruction_of-instruction.ensures.covered.tokens c.instruction_of-instruction.ensures.covered.some_token)

pub returns-in-Err-clause-refused : goal.returns-in-Err-clause-refused
returns-in-Err-clause-refused c =
    refused c.args.descr.now c.args.at c.args.instance.now.instruction c.args.instance.now.operands.items c.as_slice-operands.result.now
    c.instruction_of-instruction.result.now c.instruction_of-instruction.ensures c.as_slice-operands.ensures c.in-Err.refusal c.in-Err.ensures.err

pub returns-in-Err-clause-none : goal.returns-in-Err-clause-none
returns-in-Err-clause-none c = λ _ bytes e. refuted _ _ _ _ _ bytes (returns-in-Err-clause-refused c) e
