use Rattle.std.proofs.Common.{◌≡◌, ◌++◌, drop, codes}
use Rattle.std.specs.List.{flat_map}
use Rattle.qc_text.specs.PrintedWords.{spaced}
use Rattle.qc_grammar.specs.Printing.{next_words}
use Rattle.qc_tabletext.specs.Printed.{binding_words}
use Rattle.qc_tabletext.proofs.derivation_writer.+derivations.Given as goal

-- what is written, and what the rest spells
abbrev pub invariant-write_more-loop-place : goal.invariant-write_more-loop-place
invariant-write_more-loop-place l =
    l.out.items ++ spaced (flat_map (next_words (codes ",") binding_words) (drop l.place l.bindings))
    ≡ l.fn.out.items ++ spaced (flat_map (next_words (codes ",") binding_words) (drop 1 l.bindings))
