use Rattle.std.proofs.Common.{◌≡◌, drop}
use Rattle.qc_facts.specs.Facts.{placed_from}
use Rattle.qc_widths.proofs.Places.{operand_name}
use Rattle.qc_widths.proofs.scope.find_operand.Given as goal

-- the rest is searched from here on
abbrev pub invariant-loop-place : goal.invariant-loop-place
invariant-loop-place l = placed_from 0 operand_name l.operands l.name ≡ placed_from l.place operand_name (drop l.place l.operands) l.name
