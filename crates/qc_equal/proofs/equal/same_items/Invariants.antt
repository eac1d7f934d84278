use Rattle.std.proofs.Common.{◌≡◌, ◌↔◌, drop}
use Rattle.qc_equal.proofs.equal.same_items.Given as goal

-- the lists are equal where what is left of them is
abbrev pub invariant-loop-item : goal.invariant-loop-item
invariant-loop-item g l = (drop l.item-index l.a ≡ l.rest) ↔ (l.a ≡ l.b)
