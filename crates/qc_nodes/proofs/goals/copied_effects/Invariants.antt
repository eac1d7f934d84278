use Rattle.std.proofs.Common.{◌≡◌, take}
use Rattle.qc_nodes.proofs.goals.copied_effects.Given as goal

-- the copies so far
abbrev pub invariant-loop-effect : goal.invariant-loop-effect
invariant-loop-effect l = l.copies ≡ take l.effect-index l.effects
