use Rattle.std.proofs.Common.{arith}
use Rattle.qc_descr.specs.Law.CodedBytes.{few_bits}
use Rattle.qc_decode.proofs.Instances.{coded_length}
use Rattle.qc_decode.proofs.decoder.decode_instruction.Goals as goal

pub coding_size-size-requires : goal.coding_size-size-requires
coding_size-size-requires c = few_bits c.args.descr.now c.args.instruction.now c.requires.covered

pub returns-then-size-memory-clause-none : goal.returns-then-size-memory-clause-none
returns-then-size-memory-clause-none c = λ _ xs coded.
    omega (arith, coded_length c.args.descr.now c.args.instruction.now c.args.at xs c.args.memory.now c.requires.covered coded, c.coding_size-size.ensures)
