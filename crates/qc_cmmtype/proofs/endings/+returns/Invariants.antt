use Rattle.std.proofs.Common.{◌≡◌, drop, map}
use Rattle.qc_cmmtype.specs.Endings.{first_of_all, first_return}
use Rattle.qc_cmmtype.proofs.endings.+returns.Given as goal

-- the rest of the statements tell it
abbrev pub invariant-first_return_in-loop-statement : goal.invariant-first_return_in-loop-statement
invariant-first_return_in-loop-statement l =
    first_of_all (map first_return (drop l.statement-index l.body)) ≡ first_of_all (map first_return l.body)
