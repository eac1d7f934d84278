use Rattle.std.proofs.Common.{◌≡◌, drop}
use Rattle.qc_join.specs.Alternatives.{same_tokens}
use Rattle.qc_join.proofs.alternative.have_same_tokens.Given as goal

-- the answer is that of the rest
abbrev pub invariant-loop-place : goal.invariant-loop-place
invariant-loop-place l = same_tokens (drop l.place l.first) (drop l.place l.second) ≡ same_tokens l.first l.second
