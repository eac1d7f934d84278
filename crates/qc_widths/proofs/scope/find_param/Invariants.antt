use Rattle.std.proofs.Common.{◌≡◌, drop}
use Rattle.qc_facts.specs.Facts.{placed_from}
use Rattle.qc_widths.proofs.Places.{param_name}
use Rattle.qc_widths.proofs.scope.find_param.Given as goal

-- the rest is searched from here on
abbrev pub invariant-loop-place : goal.invariant-loop-place
invariant-loop-place l = placed_from 0 param_name l.params l.name ≡ placed_from l.place param_name (drop l.place l.params) l.name
