use Rattle.std.proofs.Common.{◌≡◌, ◌≤◌, length}
use Rattle.qc_grammar.specs.Lists.{items_then_last_reading}
use Rattle.qc_grammar.specs.Law.UntilLast.{after_list}
use Rattle.qc_grammar.proofs.lists.read_until_last.Given as goal

-- the items so far, and what reading gives, are what reading gave before the loop
abbrev pub invariant-loop-item : goal.invariant-loop-item
invariant-loop-item g l = record {
  read : after_list l.items (items_then_last_reading g.T.UntilLast.reading l.cursor)
      ≡ items_then_last_reading g.T.UntilLast.reading l.fn.cursor;
  shorter : length l.cursor ≤ length l.fn.cursor;
}

abbrev pub decreases-loop-item : goal.decreases-loop-item
decreases-loop-item g l = length l.cursor
