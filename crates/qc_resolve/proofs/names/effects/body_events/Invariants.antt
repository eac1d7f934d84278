use Rattle.std.proofs.Common.{◌≡◌, take}
use Rattle.std.specs.List.{flat_map}
use Rattle.qc_resolve.specs.Effects.{effect_events}
use Rattle.qc_resolve.specs.KeptSignatures.{events_in}
use Rattle.qc_resolve.specs.KeptNames.{names_at}
use Rattle.qc_resolve.proofs.names.effects.body_events.Given as goal

abbrev pub invariant-loop-effect : goal.invariant-loop-effect
invariant-loop-effect l =
    l.found ≡ events_in (flat_map (effect_events (names_at l.names)) (take l.effect-index l.body))
