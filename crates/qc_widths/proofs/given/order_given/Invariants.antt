use Rattle.std.proofs.Common.{◌≡◌, drop}
use Rattle.qc_widths.specs.GivenFacts.{first_given, order_given}
use Rattle.qc_widths.proofs.given.order_given.Given as goal

-- no item so far gives one
abbrev pub invariant-loop-item : goal.invariant-loop-item
invariant-loop-item l = first_given order_given (drop l.item-index l.items) ≡ first_given order_given l.items
