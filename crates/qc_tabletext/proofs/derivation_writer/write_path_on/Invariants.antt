use Rattle.std.proofs.Common.{◌≡◌, ◌++◌, drop, codes}
use Rattle.std.specs.List.{flat_map}
use Rattle.qc_text.specs.PrintedWords.{spaced}
use Rattle.qc_grammar.specs.Printing.{next_words}
use Rattle.qc_tabletext.specs.Printed.{number_words}
use Rattle.qc_tabletext.proofs.derivation_writer.write_path_on.Given as goal

-- what is written, and what the rest spells
abbrev pub invariant-loop-place : goal.invariant-loop-place
invariant-loop-place l =
    l.out.items ++ spaced (flat_map (next_words (codes ".") number_words) (drop l.place l.path))
    ≡ l.fn.out.items ++ spaced (flat_map (next_words (codes ".") number_words) (drop 1 l.path))
