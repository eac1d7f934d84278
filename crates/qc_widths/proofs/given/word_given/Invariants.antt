use Rattle.std.proofs.Common.{◌≡◌, drop}
use Rattle.qc_widths.specs.GivenFacts.{first_given, word_given}
use Rattle.qc_widths.proofs.given.word_given.Given as goal

-- no item so far gives one
abbrev pub invariant-loop-item : goal.invariant-loop-item
invariant-loop-item l = first_given word_given (drop l.item-index l.items) ≡ first_given word_given l.items
