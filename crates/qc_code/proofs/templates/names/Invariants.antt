use Rattle.std.proofs.Common.{◌≡◌, map, take}
use Rattle.qc_code.proofs.templates.names.Given as goal

abbrev pub invariant-loop-tile : goal.invariant-loop-tile
invariant-loop-tile l = l.names ≡ map (λ t. t.name) (take l.tile-index l.tile-items)
