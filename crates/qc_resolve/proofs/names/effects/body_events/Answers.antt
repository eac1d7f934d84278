use Rattle.std.proofs.Common.{List, ℕ, take, sym, ap, ◌∙◌}
use Rattle.std.specs.List.{flat_map}
use Rattle.qc_lrtl.specs.declared.syntax.Effect.{Effect}
use Rattle.qc_resolve.specs.Effects.{effect_events}
use Rattle.qc_resolve.specs.KeptSignatures.{events_in, joined_events}
use Rattle.qc_resolve.specs.KeptNames.{names_at}
use Rattle.qc_resolve.proofs.Kept.{events-none, events-append, flat_map_next}
use Rattle.qc_resolve.proofs.names.effects.body_events.Goals as goal

pub loop-effect-init : goal.loop-effect-init
loop-effect-init c = sym events-none

pub loop-effect-preserved : goal.loop-effect-preserved
loop-effect-preserved c =
    let f : Effect → List ℕ = effect_events (names_at c.args.names.now) in
    let before : List ℕ = flat_map f (take c.loop-effect.effect-index c.args.body.now) in
    c.joined_events-found.ensures
    ∙ ap (λ e. joined_events e c.effect_events.result) c.loop-effect.invariant
    ∙ ap (joined_events (events_in before)) c.effect_events.ensures
    ∙ sym (events-append before (f c.effect-item.result))
    ∙ ap events_in (sym (flat_map_next f c.args.body.now c.loop-effect.effect-index c.effect-item.result
    c.loop-effect-test.true c.effect-item.is))
