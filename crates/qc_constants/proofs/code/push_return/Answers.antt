use Rattle.std.proofs.Common.{length}
use Rattle.qc_constants.proofs.Emitted.{halt_encodes}
use Rattle.qc_constants.proofs.code.push_return.Goals as goal

pub push_instruction-requires-clause-encodes : goal.push_instruction-requires-clause-encodes
push_instruction-requires-clause-encodes c =
    halt_encodes c.args.descr.now c.requires.valid c.requires.machine (length c.push_constant.new.code.items)
