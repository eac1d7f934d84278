use Rattle.qc_constants.proofs.Tokens.{append_none, append_one}
use Rattle.qc_constants.proofs.instructions.push_fixed.Goals as goal

pub loop-i-init : goal.loop-i-init
loop-i-init c = append_none _ _

pub loop-i-preserved : goal.loop-i-preserved
loop-i-preserved c = append_one _ _ _ _ _ c.loop-i.invariant c.in_ok-push.ensures.ok
