use Rattle.qc_constants.proofs.Tokens.{append_none, append_one}
use Rattle.qc_constants.proofs.instructions.push_operand.Goals as goal

pub loop-bit-init : goal.loop-bit-init
loop-bit-init c = append_none _ _

pub loop-bit-preserved : goal.loop-bit-preserved
loop-bit-preserved c = append_one _ _ _ _ _ c.loop-bit.invariant c.in_ok-push.ensures.ok
