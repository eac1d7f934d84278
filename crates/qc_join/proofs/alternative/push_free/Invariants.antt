use Rattle.std.proofs.Common.{◌≡◌, ◌++◌, replicate}
use Rattle.qc_descr.specs.declared.sketch.Claim.TheVariants.{Free}
use Rattle.qc_join.proofs.alternative.push_free.Given as goal

-- the claims so far
abbrev pub invariant-loop-place : goal.invariant-loop-place
invariant-loop-place l = l.claims.items ≡ l.initial.claims.items ++ replicate l._place Free
