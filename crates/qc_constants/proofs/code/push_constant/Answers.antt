use Rattle.std.proofs.Common.{length}
use Rattle.qc_constants.proofs.Emitted.{load_encodes}
use Rattle.qc_constants.proofs.code.push_constant.Goals as goal

pub push_instruction-requires-clause-encodes : goal.push_instruction-requires-clause-encodes
push_instruction-requires-clause-encodes c =
    rw c.from.ensures
    (load_encodes c.args.descr.now c.requires.valid c.requires.machine (length c.args.code.now.items) c.args.word c.ranges.word.fits)
