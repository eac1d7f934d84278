use Rattle.std.proofs.Common.{◌≡◌, ◌≤◌, drop, min}
use Rattle.qc_widths.specs.Inner.KeptEffects.{nodes_under}
use Rattle.qc_widths.proofs.acts.guarded_nodes.Given as goal

-- the total so far, and the rest
abbrev pub invariant-loop-effect : goal.invariant-loop-effect
invariant-loop-effect l = (l.total ≤ 4294967295) × (min (nodes_under l.total l.guard (drop l.effect-index l.effects)) 4294967295
    ≡ min (nodes_under l.fn.nodes l.guard l.effects) 4294967295)
