use Rattle.std.proofs.Common.{take}
use Rattle.qc_join.specs.Inner.Constructors.{constructor_places}
use Rattle.qc_names.specs.ValueTables.{IsTableOf}
use Rattle.qc_join.proofs.constructors.constructors.Given as goal

-- the constructors so far are declared
abbrev pub invariant-loop-number : goal.invariant-loop-number
invariant-loop-number l = IsTableOf (constructor_places 0 (take l.number l.items)) l.table.values l.table.numbers
