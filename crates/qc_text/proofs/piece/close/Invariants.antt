use Rattle.std.proofs.Common.{ℕ, length, ◌-◌, ◌≡◌, ◌≢◌, ◌+◌, ◌<◌, ◌≤◌, slice_index}
use Rattle.qc_text.proofs.piece.close.Given as goal

-- no `*/` ends before this place
abbrev pub invariant-loop-at : goal.invariant-loop-at
invariant-loop-at l =
    (1 ≤ l.at) × ((k : ℕ) → k + 1 < l.at → slice_index l.bytes k ≡ 42 → slice_index l.bytes (k + 1) ≢ 47)

abbrev pub decreases-loop-at : goal.decreases-loop-at
decreases-loop-at l = length l.bytes - l.at
