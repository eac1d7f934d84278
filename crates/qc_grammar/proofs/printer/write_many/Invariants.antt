use Rattle.std.proofs.Common.{◌≡◌, ◌++◌, drop}
use Rattle.std.specs.List.{flat_map}
use Rattle.qc_text.specs.PrintedWords.{spaced}
use Rattle.qc_grammar.proofs.printer.write_many.Given as goal

-- what is written, and what the rest spells
abbrev pub invariant-loop-item : goal.invariant-loop-item
invariant-loop-item g l =
    l.out.items ++ spaced (flat_map g.T.Printed.words (drop l.item-index l.items))
    ≡ l.fn.out.items ++ spaced (flat_map g.T.Printed.words l.items)
