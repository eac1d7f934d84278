use Rattle.std.proofs.Common.{take, []}
use Rattle.qc_names.specs.ValueTables.{IsTableOf}
use Rattle.qc_join.specs.Expansion.{fields_of, patterns_after}
use Rattle.qc_join.proofs.patterns.patterns.Given as goal

-- the patterns so far are declared
abbrev pub invariant-loop-item : goal.invariant-loop-item
invariant-loop-item l =
    IsTableOf (patterns_after (fields_of l.items) [] (take l.item-index l.items)) l.table.values l.table.numbers
