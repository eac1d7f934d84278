use Rattle.std.proofs.Common.{◌≡◌, drop}
use Rattle.qc_join.specs.Alternatives.{with_all}
use Rattle.qc_join.proofs.alternative.push_all.Given as goal

-- what is listed so far, with the rest, is all
abbrev pub invariant-loop-bit : goal.invariant-loop-bit
invariant-loop-bit l = with_all l.bits (drop l.bit-index l.more) ≡ with_all l.initial.bits l.more
