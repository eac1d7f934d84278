use Rattle.std.proofs.Common.{refl}
use Rattle.std.specs.List.{flat_map}
use Rattle.qc_facts.specs.Faults.{token_of, rank_of}
use Rattle.qc_resolve.specs.Effects.{effect_faults}
use Rattle.qc_resolve.specs.KeptNames.{names_at}
use Rattle.qc_names.specs.Law.Reported.{reported_more}
use Rattle.qc_resolve.proofs.names.effects.body_fault.Goals as goal

pub loop-effect-preserved : goal.loop-effect-preserved
loop-effect-preserved c =
    reported_more token_of rank_of (flat_map (effect_faults (names_at c.args.names.now))) (effect_faults (names_at c.args.names.now))
    (λ e es. refl) c.args.body.now c.loop-effect.effect-index c.effect-item.result c.loop-effect.found
    c.effect_fault.result _ _ c.loop-effect-test.true c.effect-item.is c.effect_fault.ensures c.earlier-found.ensures
    c.loop-effect.invariant
