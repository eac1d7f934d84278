use Rattle.std.proofs.Common.{◌≡◌, take}
use Rattle.qc_join.specs.Alternatives.{all_claims}
use Rattle.qc_join.proofs.alternative.join_claims.Given as goal

-- the claims so far are joined
abbrev pub invariant-loop-place : goal.invariant-loop-place
invariant-loop-place l = l.first ≡ all_claims l.initial.first (take l.place l.second)
