use Rattle.std.proofs.Common.{◌≡◌, ◌↔◌, ◌-◌, ℕ, suc, Some, length, slice_get}
use Rattle.qc_bodies.proofs.marks.make_room.Given as goal

abbrev pub invariant-loop-ranks : goal.invariant-loop-ranks
invariant-loop-ranks l = (p r : ℕ) → slice_get l.ranks p ≡ Some (Some r) ↔ (slice_get l.initial.ranks p ≡ Some (Some r))

abbrev pub decreases-loop-ranks : goal.decreases-loop-ranks
decreases-loop-ranks l = suc l.number - length l.ranks
