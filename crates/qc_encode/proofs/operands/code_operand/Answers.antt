use Rattle.std.proofs.Common.{arith}
use Rattle.qc_encode.proofs.Codable.{codable_by, codable_from}
use Rattle.qc_encode.proofs.operands.code_operand.Goals as goal

pub returns-in-Some-clause-codable : goal.returns-in-Some-clause-codable
returns-in-Some-clause-codable c =
    codable_by c.args.bits.now c.args.reach c.args.at c.args.number c.args.operand c.in-Some.value c.placed_bits.result
    (omega arith) c.in-Some.ensures.some c.in-Some.ensures.reached c.placed_bits.ensures c.if-value-placed_bits.true

pub returns-in_default-clause-none : goal.returns-in_default-clause-none
returns-in_default-clause-none c = λ _ codable.
    c.if-value-placed_bits.false
    (codable_from c.args.bits.now c.args.reach c.args.at c.args.number c.args.operand c.in-Some.value c.placed_bits.result
    (omega arith) c.in-Some.ensures.some c.placed_bits.ensures codable)
