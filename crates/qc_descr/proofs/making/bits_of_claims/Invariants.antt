use Rattle.std.proofs.Common.{◌≡◌, ◌++◌, drop}
use Rattle.qc_descr.specs.CodingFaults.{bits_of_claims}
use Rattle.qc_descr.proofs.making.bits_of_claims.Given as goal

abbrev pub invariant-loop-claim : goal.invariant-loop-claim
invariant-loop-claim l = l.bits ++ bits_of_claims (drop l.claim-index l.claims) ≡ bits_of_claims l.claims
