use Rattle.std.proofs.Common.{◌≡◌, ◌++◌, drop, codes}
use Rattle.std.specs.List.{flat_map}
use Rattle.qc_text.specs.PrintedWords.{spaced}
use Rattle.qc_grammar.specs.Printing.{next_words}
use Rattle.qc_lrtl.specs.Printed.{expr_words}
use Rattle.qc_tabletext.proofs.expression_writer.+expressions.Given as goal

-- what is written, and what the rest spells
abbrev pub invariant-write_more_exprs-loop-place : goal.invariant-write_more_exprs-loop-place
invariant-write_more_exprs-loop-place l =
    l.out.items ++ spaced (flat_map (next_words (codes ",") expr_words) (drop l.place l.exprs))
    ≡ l.fn.out.items ++ spaced (flat_map (next_words (codes ",") expr_words) (drop 1 l.exprs))
