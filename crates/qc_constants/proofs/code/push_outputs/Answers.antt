use Rattle.std.proofs.Common.{refl}
use Rattle.qc_constants.proofs.Emitted.{outputs_more}
use Rattle.qc_constants.proofs.code.push_outputs.Goals as goal

pub loop-word-preserved : goal.loop-word-preserved
loop-word-preserved c =
    outputs_more c.args.descr.now c.args.code.now.items c.loop-word.code.items c.push_output.new.code.items c.args.words.now c.loop-word.word-index _
    c.loop-word.invariant c.in_ok-push_output.ensures c.loop-word-test.true refl
