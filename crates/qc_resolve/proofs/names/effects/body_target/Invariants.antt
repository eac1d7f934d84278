use Rattle.std.proofs.Common.{◌≡◌, take}
use Rattle.std.specs.List.{flat_map}
use Rattle.qc_resolve.specs.Effects.{effect_targets}
use Rattle.qc_resolve.specs.KeptSignatures.{least}
use Rattle.qc_resolve.specs.KeptNames.{names_at}
use Rattle.qc_resolve.proofs.names.effects.body_target.Given as goal

abbrev pub invariant-loop-effect : goal.invariant-loop-effect
invariant-loop-effect l =
    l.found ≡ least (flat_map (effect_targets (names_at l.names) l.name) (take l.effect-index l.body))
