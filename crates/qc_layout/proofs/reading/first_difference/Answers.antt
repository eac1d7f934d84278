use Rattle.std.proofs.Common.{arith}
use Rattle.qc_layout.proofs.reading.first_difference.Goals as goal

pub returns-then-bytes-at-clause-some : goal.returns-then-bytes-at-clause-some
returns-then-bytes-at-clause-some c =
    (omega arith, omega arith, c.if-bytes-at.true, c.loop-at.invariant)

pub returns-clause-none : goal.returns-clause-none
returns-clause-none c = λ k a b. c.loop-at.invariant k (omega arith)
