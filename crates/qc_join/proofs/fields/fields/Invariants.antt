use Rattle.std.proofs.Common.{take}
use Rattle.qc_names.specs.ValueTables.{IsTableOf}
use Rattle.qc_join.specs.Expansion.{fields_from}
use Rattle.qc_join.proofs.fields.fields.Given as goal

-- the fields so far are declared
abbrev pub invariant-loop-number : goal.invariant-loop-number
invariant-loop-number l = IsTableOf (fields_from 0 (take l.number l.items)) l.table.values l.table.numbers
