use Rattle.std.proofs.Common.{◌≡◌, ◌++◌, drop, map}
use Rattle.qc_widths.specs.Inner.KeptEffects.{under}
use Rattle.qc_widths.proofs.acts.guarded_copies.Given as goal

-- those so far, and the rest
abbrev pub invariant-loop-effect : goal.invariant-loop-effect
invariant-loop-effect l = l.copies ++ map (under l.guard) (drop l.effect-index l.effects) ≡ map (under l.guard) l.effects
