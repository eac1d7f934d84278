use Rattle.std.proofs.Common.{◌≡◌, drop, []}
use Rattle.qc_names.specs.Tables.{names_in}
use Rattle.qc_join.specs.Faults.{reported, reported_of_both}
use Rattle.qc_join.specs.Names.{items_faults}
use Rattle.qc_join.proofs.name_faults.items_fault.Given as goal

-- the fault that was found, and what is reported of the rest behind the patterns so far
abbrev pub invariant-loop-item : goal.invariant-loop-item
invariant-loop-item l =
    reported_of_both l.found (reported (items_faults (names_in l.operations) (names_in l.fields) (names_in l.patterns)
    (drop l.item-index l.items)))
    ≡ reported (items_faults (names_in l.operations) (names_in l.fields) [] l.items)
