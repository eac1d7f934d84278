use Rattle.std.proofs.Common.{◌≡◌, ◌++◌, drop, map}
use Rattle.qc_facts.specs.Facts.{facts_of_operand}
use Rattle.qc_widths.specs.Machine.{kind_of}
use Rattle.qc_widths.proofs.operations.operands_of.Given as goal

-- the operands so far, and the rest
abbrev pub invariant-loop-operand : goal.invariant-loop-operand
invariant-loop-operand l =
    l.found ++ map (λ o. (o.name.text, kind_of (facts_of_operand l.facts o.kind))) (drop l.operand-index l.operands)
    ≡ map (λ o. (o.name.text, kind_of (facts_of_operand l.facts o.kind))) l.operands
