use Rattle.std.proofs.Common.{◌≡◌, length, take, Some, ap, refl, sym, subst, arith}
use Rattle.std.specs.List.{slice_get}
use Rattle.qc_descr.specs.Description.{size_of}
use Rattle.qc_descr.specs.Encoding.{IsCodedBy}
use Rattle.qc_descr.specs.Law.CodedBytes.{few_bits}
use Rattle.qc_decode.specs.Inner.OperandsAt.{IsInstructionOf}
use Rattle.qc_decode.proofs.Instances.{decoded, decoded_none, kept_item, none_all, none_more}
use Rattle.qc_decode.proofs.decoder.Decoder.decode.Goals as goal

pub coding_size-requires : goal.coding_size-requires
coding_size-requires c =
    few_bits _ _ (kept_item _ _ _ _ c.requires.valid c.as_slice-instruction-items.ensures c.loop-number-test.true c.instruction-item.is).1.covered

pub decode_instruction-requires : goal.decode_instruction-requires
decode_instruction-requires c =
    (kept_item _ _ _ _ c.requires.valid c.as_slice-instruction-items.ensures c.loop-number-test.true c.instruction-item.is).1

pub returns-in-Some : goal.returns-in-Some
returns-in-Some c =
    let known : (slice_get c.args.descr.now.instructions c.loop-number.number ≡ Some c.instruction-item.result) × IsInstructionOf c.args.descr.now c.instruction-item.result =
    kept_item _ _ _ _ c.requires.valid c.as_slice-instruction-items.ensures c.loop-number-test.true c.instruction-item.is in
    decoded c.args.descr.now c.instruction-item.result c.args.memory.now c.memory_from-rest.result.now c.args.at c.coding_size.result _
    known.0 known.1.covered c.memory_from-rest.ensures c.coding_size.ensures c.in-Some.ensures.some

pub loop-number-preserved : goal.loop-number-preserved
loop-number-preserved c =
    let known : (slice_get c.args.descr.now.instructions c.loop-number.number ≡ Some c.instruction-item.result) × IsInstructionOf c.args.descr.now c.instruction-item.result =
    kept_item _ _ _ _ c.requires.valid c.as_slice-instruction-items.ensures c.loop-number-test.true c.instruction-item.is in
    none_more c.args.descr.now c.instruction-item.result c.args.memory.now c.args.at c.loop-number.number known.1.covered known.0 c.loop-number.invariant
    (λ xs coded. c.in_default.ensures.none refl xs
    (subst (λ m. IsCodedBy c.args.descr.now c.instruction-item.result c.args.at xs (take (size_of c.instruction-item.result) m)) (sym c.memory_from-rest.ensures) coded))

pub returns : goal.returns
returns c = decoded_none c.args.descr.now c.args.memory.now c.args.at
    (none_all c.args.descr.now c.args.memory.now c.args.at c.loop-number.number
    (omega (arith, ap length c.as_slice-instruction-items.ensures, c.loop-number-test.false)) c.loop-number.invariant)
