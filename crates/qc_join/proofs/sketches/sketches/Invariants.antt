use Rattle.std.proofs.Common.{◌≡◌, map, take}
use Rattle.qc_join.specs.Joining.{sketches_of}
use Rattle.qc_join.proofs.sketches.sketches.Given as goal

-- the alternatives of the operations so far
abbrev pub invariant-loop-operation : goal.invariant-loop-operation
invariant-loop-operation l =
    l.sketches ≡ map (sketches_of l.machine l.items) (take l.operation-index l.machine.operations)
