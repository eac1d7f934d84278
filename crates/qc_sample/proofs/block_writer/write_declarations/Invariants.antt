use Rattle.std.proofs.Common.{◌≡◌, ◌++◌, drop}
use Rattle.std.specs.List.{flat_map}
use Rattle.qc_sample.specs.PrintedBlocks.{declaration_words}
use Rattle.qc_text.specs.PrintedWords.{spaced}
use Rattle.qc_sample.proofs.block_writer.write_declarations.Given as goal

-- what is written, and what the rest spells
abbrev pub invariant-loop-declaration : goal.invariant-loop-declaration
invariant-loop-declaration l =
    l.out.items ++ spaced (flat_map declaration_words (drop l.declaration-index l.declarations))
    ≡ l.fn.out.items ++ spaced (flat_map declaration_words l.declarations)
