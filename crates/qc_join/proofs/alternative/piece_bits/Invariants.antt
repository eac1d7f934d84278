use Rattle.std.proofs.Common.{◌≡◌, ◌++◌, ◌-◌, ◌+◌}
use Rattle.qc_join.specs.Alternatives.{piece_bits}
use Rattle.qc_join.proofs.alternative.piece_bits.Given as goal

-- the bits so far, and the rest
abbrev pub invariant-loop-place : goal.invariant-loop-place
invariant-loop-place l =
    l.bits.items ++ piece_bits l.operand (l.from + l.place) (l.count - l.place) ≡ piece_bits l.operand l.from l.count
