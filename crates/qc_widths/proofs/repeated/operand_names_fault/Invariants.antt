use Rattle.std.proofs.Common.{◌≡◌, drop, map}
use Rattle.qc_names.specs.Seen.{none_seen}
use Rattle.qc_widths.specs.Inner.Repeated.{noted_all}
use Rattle.qc_widths.proofs.repeated.operand_names_fault.Given as goal

-- the rest leaves what all leave
abbrev pub invariant-loop-operand : goal.invariant-loop-operand
invariant-loop-operand l =
    noted_all l.seen (map (λ p. p.name) (drop l.operand-index l.operands)) ≡ noted_all none_seen (map (λ p. p.name) l.operands)
