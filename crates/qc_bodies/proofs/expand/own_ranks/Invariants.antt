use Rattle.std.proofs.Common.{◌≡◌, ◌<◌, ℕ, Some, length, slice_get}
use Rattle.qc_bodies.proofs.expand.own_ranks.Given as goal

abbrev pub invariant-loop-number : goal.invariant-loop-number
invariant-loop-number l = record {
  count : length l.ranks ≡ l.number;
  own : (n : ℕ) → n < length l.ranks → slice_get l.ranks n ≡ Some (Some n);
}
