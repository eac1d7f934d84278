use Rattle.std.proofs.Common.{◌≡◌, take}
use Rattle.qc_join.proofs.alternative.copied_claims.Given as goal

-- the copies so far
abbrev pub invariant-loop-claim : goal.invariant-loop-claim
invariant-loop-claim l = l.copies ≡ take l.claim-index l.claims
