use Rattle.std.proofs.Common.{◌≡◌, drop, map}
use Rattle.qc_cmmtype.specs.Endings.{first_of_all, first_return_of_item}
use Rattle.qc_cmmtype.proofs.endings.first_return_of.Given as goal

-- the rest of the items tell it
abbrev pub invariant-loop-item : goal.invariant-loop-item
invariant-loop-item l =
    first_of_all (map first_return_of_item (drop l.item-index l.body)) ≡ first_of_all (map first_return_of_item l.body)
