use Rattle.qc_named.specs.Inner.Scopes.{standing_at}
use Rattle.qc_named.proofs.Arguments.{acts_more}
use Rattle.qc_named.proofs.effect.acts_of.Goals as goal

pub loop-effect-preserved : goal.loop-effect-preserved
loop-effect-preserved c =
    acts_more (standing_at c.args.scope.now.names) c.args.effects.now c.loop-effect.effect-index c.effect-item.result
    c.loop-effect-test.true c.effect-item.is c.loop-effect.found c.add.new.found c.in_ok-act.act
    c.loop-effect.invariant c.in_ok-add.ensures c.in_ok-act.ensures
