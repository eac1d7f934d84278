use Rattle.std.proofs.Common.{◌≡◌, ◌++◌, take, map}
use Rattle.qc_descr.specs.declared.sketch.Claim.TheVariants.{Once}
use Rattle.qc_join.proofs.alternative.push_bits.Given as goal

-- the claims so far
abbrev pub invariant-loop-bit : goal.invariant-loop-bit
invariant-loop-bit l = l.claims.items ≡ l.initial.claims.items ++ map Once (take l.bit-index l.bits)
