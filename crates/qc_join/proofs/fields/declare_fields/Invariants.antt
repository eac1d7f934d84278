use Rattle.std.proofs.Common.{◌++◌, take, List, ℕ}
use Rattle.qc_join.specs.declared.expanded.FieldPlace.{FieldPlace}
use Rattle.qc_names.specs.ValueTables.{IsTableOf}
use Rattle.qc_join.specs.Expansion.{places_of}
use Rattle.qc_join.proofs.fields.declare_fields.Given as goal

-- the fields so far are declared
abbrev pub invariant-loop-field : goal.invariant-loop-field
invariant-loop-field l =
    (pairs : List (List ℕ × FieldPlace)) → IsTableOf pairs l.initial.table.values l.initial.table.numbers →
    IsTableOf (pairs ++ places_of l.declaration l.bits (take l.field-index l.fields)) l.table.values l.table.numbers
