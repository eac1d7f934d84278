use Rattle.std.proofs.Common.{take}
use Rattle.qc_names.specs.ValueTables.{IsTableOf}
use Rattle.qc_named.specs.Standing.{own_operands}
use Rattle.qc_named.proofs.bodies.own_operands.Given as goal

abbrev pub invariant-loop-number : goal.invariant-loop-number
invariant-loop-number l =
    IsTableOf (own_operands l.facts (take l.number l.operands)) l.found.values l.found.numbers
