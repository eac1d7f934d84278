use Rattle.std.proofs.Common.{◌≡◌, drop}
use Rattle.qc_facts.specs.Facts.{word_in}
use Rattle.qc_facts.proofs.spaces.word_of.Given as goal

-- no item so far gives the width
abbrev pub invariant-loop-item : goal.invariant-loop-item
invariant-loop-item l = word_in (drop l.item-index l.items) ≡ word_in l.items
