use Rattle.std.proofs.Common.{◌≡◌, ◌≤◌, List, length, [], ◌∷◌}
use Rattle.qc_grammar.specs.Lexeme.{Word, Lexeme}
use Rattle.qc_grammar.specs.Reading.{Read}
use Rattle.qc_grammar.specs.ReaderResult.{IsReadBy}
use Rattle.qc_grammar.specs.Lists.{Shortens, many, next_reading}
use Rattle.qc_grammar.specs.Law.Loops.{after_items}
use Rattle.qc_grammar.proofs.lists.read_others_by.Given as goal

-- the items so far, and those that reading gives, are the first and those that reading gave after it
abbrev pub invariant-loop-cursor : goal.invariant-loop-cursor
invariant-loop-cursor g l = record {
  read : (reading : List Lexeme → Read _) → Shortens reading
      → IsReadBy (goal.F-post g l.read) (λ next. next.now) reading
      → after_items l.items (many (next_reading reading l.separator) (Word l.separator ∷ []) l.cursor)
      ≡ after_items (l.fn.first ∷ []) (many (next_reading reading l.separator) (Word l.separator ∷ []) l.fn.cursor);
  shorter : length l.cursor ≤ length l.fn.cursor;
}

abbrev pub decreases-loop-cursor : goal.decreases-loop-cursor
decreases-loop-cursor g l = length l.cursor
