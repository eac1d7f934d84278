use Rattle.std.proofs.Common.{◌≡◌, map, take}
use Rattle.qc_bodies.specs.Law.Acts.{act_of}
use Rattle.qc_named.specs.Inner.Scopes.{standing_at}
use Rattle.qc_named.specs.ResolvedEffects.{acts_of}
use Rattle.qc_named.proofs.effect.acts_of.Given as goal

abbrev pub invariant-loop-effect : goal.invariant-loop-effect
invariant-loop-effect l = map act_of l.found ≡ acts_of (standing_at l.scope.names) (take l.effect-index l.effects)
