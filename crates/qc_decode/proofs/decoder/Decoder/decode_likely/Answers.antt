use Rattle.std.proofs.Common.{◌≡◌, Some}
use Rattle.std.specs.List.{slice_get}
use Rattle.qc_descr.specs.Law.CodedBytes.{few_bits}
use Rattle.qc_decode.specs.Inner.OperandsAt.{IsInstructionOf}
use Rattle.qc_decode.proofs.Instances.{decoded, kept_item}
use Rattle.qc_decode.proofs.decoder.Decoder.decode_likely.Goals as goal

pub decode_operands-requires : goal.decode_operands-requires
decode_operands-requires c =
    (kept_item _ _ _ _ c.requires.valid c.as_slice.ensures c.in-Some.ensures.lookup.3.0 (c.in-Some.ensures.lookup.3.1 _)).1

pub coding_size-size-requires : goal.coding_size-size-requires
coding_size-size-requires c =
    few_bits _ _ (kept_item _ _ _ _ c.requires.valid c.as_slice.ensures c.in-Some.ensures.lookup.3.0 (c.in-Some.ensures.lookup.3.1 _)).1.covered

pub returns-in-Some-decode_operands : goal.returns-in-Some-decode_operands
returns-in-Some-decode_operands c =
    let known : (slice_get c.args.descr.now.instructions c.args.likely ≡ Some c.in-Some.instruction.now) × IsInstructionOf c.args.descr.now c.in-Some.instruction.now =
    kept_item _ _ _ _ c.requires.valid c.as_slice.ensures c.in-Some.ensures.lookup.3.0 (c.in-Some.ensures.lookup.3.1 _) in
    decoded c.args.descr.now c.in-Some.instruction.now c.args.memory.now c.memory_from-rest.result.now c.args.at c.coding_size-size.result _
    known.0 known.1.covered c.memory_from-rest.ensures c.coding_size-size.ensures c.in-Some-decode_operands.ensures.some
