use Rattle.std.proofs.Common.{◌≡◌, ◌≤◌, List, length}
use Rattle.qc_grammar.specs.Lexeme.{Class, Lexeme}
use Rattle.qc_grammar.specs.Reading.{Read, next_in}
use Rattle.qc_grammar.specs.ReaderResult.{IsReadBy}
use Rattle.qc_grammar.specs.Lists.{Shortens, many}
use Rattle.qc_grammar.specs.Law.Loops.{after_items}
use Rattle.qc_grammar.proofs.lists.read_many_by.Given as goal

-- the items so far, and those that reading gives, are those that reading gave before the loop
abbrev pub invariant-loop-cursor : goal.invariant-loop-cursor
invariant-loop-cursor g l = record {
  read : (reading : List Lexeme → Read _) (classes : List Class) → Shortens reading
      → IsReadBy (goal.F-post g l.read) (λ next. next.now) reading
      → ((next : _) (comes : _) → goal.B-post g l.begins next comes → comes ≡ next_in classes next.now)
      → after_items l.items (many reading classes l.cursor) ≡ many reading classes l.fn.cursor;
  shorter : length l.cursor ≤ length l.fn.cursor;
}

abbrev pub decreases-loop-cursor : goal.decreases-loop-cursor
decreases-loop-cursor g l = length l.cursor
