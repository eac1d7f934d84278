use Rattle.std.proofs.Common.{◌≡◌, ◌≤◌, length, [], ◌∷◌}
use Rattle.qc_grammar.specs.Grammar.{repetition}
use Rattle.qc_grammar.specs.Reading.{reads}
use Rattle.qc_grammar.specs.Law.Loops.{after_items}
use Rattle.qc_cmm.specs.Cmm.{cmm, body_item}
use Rattle.qc_cmm.proofs.procedures.read_items_after.Given as goal

-- the items so far, and those that reading gives, are the first and those that reading gave after it
abbrev pub invariant-loop-alloc : goal.invariant-loop-alloc
invariant-loop-alloc l = record {
  read : after_items l.items (reads cmm (repetition body_item) l.cursor)
      ≡ after_items (l.fn.first ∷ []) (reads cmm (repetition body_item) l.fn.cursor);
  shorter : length l.cursor ≤ length l.fn.cursor;
}

abbrev pub decreases-loop-alloc : goal.decreases-loop-alloc
decreases-loop-alloc l = length l.cursor
