use Rattle.std.proofs.Common.{◌≡◌, ◌++◌, ◌-◌}
use Rattle.qc_join.specs.Alternatives.{constant_bits}
use Rattle.qc_join.proofs.alternative.constant_bits.Given as goal

-- the bits so far, and those of what is left
abbrev pub invariant-loop-place : goal.invariant-loop-place
invariant-loop-place l =
    l.bits.items ++ constant_bits (l.count - l._place) l.rest ≡ constant_bits l.count l.value
