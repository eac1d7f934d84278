use Rattle.std.proofs.Common.{◌+◌, ◌*◌, take}
use Rattle.qc_resolve.specs.Effects.{acts_of}
use Rattle.qc_widths.specs.Inner.KeptValues.{IsScope}
use Rattle.qc_widths.specs.Inner.KeptEffects.{IsActs}
use Rattle.qc_resolve.specs.Scopes.{Scope as SpecScope}
use Rattle.qc_widths.proofs.gather.+gathering.Given as goal

-- uses are of effects below the level
abbrev pub decreases-acts_of_effects : goal.decreases-acts_of_effects
decreases-acts_of_effects l = 8 * l.scope.now.level + 4

abbrev pub decreases-acts_of_one : goal.decreases-acts_of_one
decreases-acts_of_one l = 8 * l.scope.now.level + 3

abbrev pub decreases-acts_of_plain : goal.decreases-acts_of_plain
decreases-acts_of_plain l = 8 * l.scope.now.level + 2

abbrev pub decreases-acts_of_named : goal.decreases-acts_of_named
decreases-acts_of_named l = 8 * l.scope.now.level + 1

abbrev pub decreases-acts_of_declared : goal.decreases-acts_of_declared
decreases-acts_of_declared l = 8 * l.scope.now.level

-- those so far
abbrev pub invariant-acts_of_effects-loop-effect : goal.invariant-acts_of_effects-loop-effect
invariant-acts_of_effects-loop-effect l = (spec : SpecScope) → IsScope l.scope spec
    → IsActs l.acts (acts_of spec (take l.effect-index l.effects))
