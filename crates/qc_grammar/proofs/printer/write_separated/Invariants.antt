use Rattle.std.proofs.Common.{◌≡◌, ◌++◌, drop}
use Rattle.std.specs.List.{flat_map}
use Rattle.qc_text.specs.PrintedWords.{spaced}
use Rattle.qc_grammar.specs.Printing.{next_words, separated_words}
use Rattle.qc_grammar.proofs.printer.write_separated.Given as goal

-- what is written, and what the rest spells
abbrev pub invariant-loop-place : goal.invariant-loop-place
invariant-loop-place g l =
    l.out.items ++ spaced (flat_map (next_words l.separator g.T.Printed.words) (drop l.place l.items))
    ≡ l.fn.out.items ++ spaced (separated_words l.separator g.T.Printed.words l.items)
