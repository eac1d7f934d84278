use Rattle.std.proofs.Common.{List, ℕ, take, sym, ap, ◌∙◌}
use Rattle.std.specs.List.{flat_map}
use Rattle.qc_lrtl.specs.declared.syntax.Effect.{Effect}
use Rattle.qc_resolve.specs.Effects.{effect_targets}
use Rattle.qc_resolve.specs.KeptSignatures.{least, lesser}
use Rattle.qc_resolve.specs.KeptNames.{names_at}
use Rattle.qc_resolve.proofs.Kept.{least-none, least-append, flat_map_next}
use Rattle.qc_resolve.proofs.names.effects.body_target.Goals as goal

pub loop-effect-init : goal.loop-effect-init
loop-effect-init c = sym least-none

pub loop-effect-preserved : goal.loop-effect-preserved
loop-effect-preserved c =
    let f : Effect → List ℕ = effect_targets (names_at c.args.names.now) c.args.name.now in
    let before : List ℕ = flat_map f (take c.loop-effect.effect-index c.args.body.now) in
    c.lesser-found.ensures
    ∙ ap (λ t. lesser t c.effect_target.result) c.loop-effect.invariant
    ∙ ap (lesser (least before)) c.effect_target.ensures
    ∙ sym (least-append before (f c.effect-item.result))
    ∙ ap least (sym (flat_map_next f c.args.body.now c.loop-effect.effect-index c.effect-item.result
    c.loop-effect-test.true c.effect-item.is))
