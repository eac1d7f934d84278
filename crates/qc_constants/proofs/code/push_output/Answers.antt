use Rattle.std.proofs.Common.{length}
use Rattle.qc_constants.proofs.Emitted.{put_encodes}
use Rattle.qc_constants.proofs.code.push_output.Goals as goal

pub push_instruction-requires-clause-encodes : goal.push_instruction-requires-clause-encodes
push_instruction-requires-clause-encodes c =
    put_encodes c.args.descr.now c.requires.valid c.requires.machine (length c.push_constant.new.code.items)
