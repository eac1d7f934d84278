use Rattle.std.proofs.Common.{◌≡◌, drop, List, ℕ}
use Rattle.qc_facts.specs.declared.facts.Local.{Local}
use Rattle.qc_facts.specs.Facts.{named}
use Rattle.qc_resolve.specs.Declarations.{locals_of_operands}
use Rattle.qc_resolve.proofs.names.operand_named.Given as goal

abbrev pub invariant-loop-operand : goal.invariant-loop-operand
invariant-loop-operand l =
    named {A = List ℕ × Local} (λ p. p.0) (locals_of_operands (drop l.operand-index l.operands)) l.name
    ≡ named {A = List ℕ × Local} (λ p. p.0) (locals_of_operands l.operands) l.name
