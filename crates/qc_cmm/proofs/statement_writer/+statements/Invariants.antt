use Rattle.std.proofs.Common.{◌≡◌, ◌++◌, drop}
use Rattle.std.specs.List.{flat_map}
use Rattle.qc_text.specs.PrintedWords.{spaced}
use Rattle.qc_cmm.specs.Printed.{statement_words}
use Rattle.qc_cmm.proofs.statement_writer.+statements.Given as goal

-- what is written, and what the rest spells
abbrev pub invariant-write_statements-loop-statement : goal.invariant-write_statements-loop-statement
invariant-write_statements-loop-statement l =
    l.out.items ++ spaced (flat_map statement_words (drop l.statement-index l.statements))
    ≡ l.fn.out.items ++ spaced (flat_map statement_words l.statements)
