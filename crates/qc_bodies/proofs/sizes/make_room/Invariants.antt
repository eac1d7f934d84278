use Rattle.std.proofs.Common.{◌≡◌, ℕ, List, length, suc, ◌-◌}
use Rattle.qc_bodies.specs.Sizes.{weighed}
use Rattle.qc_bodies.proofs.sizes.make_room.Given as goal

abbrev pub invariant-loop-counts : goal.invariant-loop-counts
invariant-loop-counts l = (ns : List ℕ) → weighed l.counts ns ≡ weighed l.initial.counts ns

abbrev pub decreases-loop-counts : goal.decreases-loop-counts
decreases-loop-counts l = suc l.number - length l.counts
