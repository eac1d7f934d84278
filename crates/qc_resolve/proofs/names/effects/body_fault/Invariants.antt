use Rattle.std.proofs.Common.{◌≡◌, drop}
use Rattle.std.specs.List.{flat_map}
use Rattle.qc_facts.specs.Faults.{reported, reported_of_both}
use Rattle.qc_resolve.specs.Effects.{effect_faults}
use Rattle.qc_resolve.specs.KeptNames.{names_at}
use Rattle.qc_resolve.proofs.names.effects.body_fault.Given as goal

-- the fault that was found, and what is reported of the rest
abbrev pub invariant-loop-effect : goal.invariant-loop-effect
invariant-loop-effect l =
    reported_of_both l.found (reported (flat_map (effect_faults (names_at l.names)) (drop l.effect-index l.body)))
    ≡ reported (flat_map (effect_faults (names_at l.names)) l.body)
