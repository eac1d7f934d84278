use Rattle.std.proofs.Common.{◌≡◌, drop}
use Rattle.std.specs.List.{flat_map}
use Rattle.qc_facts.specs.Facts.{kind_faults}
use Rattle.qc_facts.specs.Faults.{reported, reported_of_both}
use Rattle.qc_widths.proofs.operations.kinds_fault.Given as goal

-- the fault so far, and that of the rest
abbrev pub invariant-loop-operand : goal.invariant-loop-operand
invariant-loop-operand l =
    reported_of_both l.fault (reported (flat_map (λ o. kind_faults l.facts o.kind) (drop l.operand-index l.operands)))
    ≡ reported (flat_map (λ o. kind_faults l.facts o.kind) l.operands)
