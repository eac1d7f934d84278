use Rattle.std.proofs.Common.{◌≡◌, drop}
use Rattle.qc_join.specs.Faults.{reported, reported_of_both}
use Rattle.qc_join.specs.Inner.KeptNames.{names_at}
use Rattle.qc_join.proofs.PatternFaults.{parts_faults}
use Rattle.qc_join.proofs.names.+patterns.Given as goal

-- the fault that was found, and what is reported of the rest
abbrev pub invariant-parts_fault-loop-part : goal.invariant-parts_fault-loop-part
invariant-parts_fault-loop-part l =
    reported_of_both l.found (reported (parts_faults (names_at l.names) (drop l.part-index l.parts)))
    ≡ reported (parts_faults (names_at l.names) l.parts)
