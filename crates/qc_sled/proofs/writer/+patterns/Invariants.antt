use Rattle.std.proofs.Common.{◌≡◌, ◌++◌, drop}
use Rattle.std.specs.List.{flat_map}
use Rattle.qc_grammar.specs.Printing.{next_words}
use Rattle.qc_sled.specs.Printed.{pattern_words}
use Rattle.qc_text.specs.PrintedWords.{spaced}
use Rattle.qc_sled.proofs.writer.+patterns.Given as goal

-- what is written, and what the rest spells
abbrev pub invariant-write_more_parts-loop-place : goal.invariant-write_more_parts-loop-place
invariant-write_more_parts-loop-place l =
    l.out.items ++ spaced (flat_map (next_words l.separator pattern_words) (drop l.place l.parts))
    ≡ l.fn.out.items ++ spaced (flat_map (next_words l.separator pattern_words) (drop 1 l.parts))
