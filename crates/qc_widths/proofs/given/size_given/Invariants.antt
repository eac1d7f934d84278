use Rattle.std.proofs.Common.{◌≡◌, drop}
use Rattle.qc_widths.specs.GivenFacts.{first_given}
use Rattle.qc_widths.specs.Inner.Given.{size_of_item}
use Rattle.qc_widths.proofs.given.size_given.Given as goal

-- no item so far gives one
abbrev pub invariant-loop-item : goal.invariant-loop-item
invariant-loop-item l = first_given (size_of_item l.size) (drop l.item-index l.items)
    ≡ first_given (size_of_item l.size) l.items
