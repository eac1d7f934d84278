use Rattle.std.proofs.Common.{take, map}
use Rattle.qc_names.specs.Tables.{HasNames}
use Rattle.qc_join.proofs.name_faults.operation_names.Given as goal

-- the names of the operations so far
abbrev pub invariant-loop-operation : goal.invariant-loop-operation
invariant-loop-operation l = HasNames l.names (map (λ o. o.name) (take l.operation-index l.operations))
