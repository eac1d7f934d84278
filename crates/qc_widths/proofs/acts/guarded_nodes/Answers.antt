use Rattle.std.proofs.Common.{ap, sym, ◌∙◌, ◌≡◌, ◌+◌, ◌∷◌, [], arith, min, drop, suc}
use Rattle.std.proofs.Math.Seq.{drop-cons}
use Rattle.std.proofs.lemmas.Grind.{common_steps}
use Rattle.qc_widths.specs.Inner.KeptEffects.{more_under, nodes_under}
use Rattle.qc_widths.proofs.Gathered.{capped}
use Rattle.qc_widths.proofs.acts.guarded_nodes.Goals as goal

pub loop-effect-preserved : goal.loop-effect-preserved
loop-effect-preserved c =
    let xs = c.args.effects.now in
    let i = c.loop-effect.effect-index in
    let item = c.effect-item.result in
    let guard = c.args.guard in
    let total = c.loop-effect.total in
    let more : suc i ≡ i + 1 = omega arith in
    let next : drop i xs ≡ item ∷ drop (i + 1) xs = drop-cons xs i item c.loop-effect-test.true ∙ ap (λ x. x ∷ drop (suc i) xs) (sym c.effect-item.is) ∙ ap (λ n. item ∷ drop n xs) more in
    let before = c.loop-effect.invariant.1 in (
      omega (arith, c.saturating_add-total.ensures),
      ap (λ t. min (nodes_under t guard (drop (i + 1) xs)) 4294967295) (c.saturating_add-total.ensures ∙ ap (λ m. min (total + m) 4294967295) c.more_nodes.ensures)
          ∙ capped total (more_under guard item.guard) guard (drop (i + 1) xs)
          ∙ ap (λ l. min (nodes_under total guard l) 4294967295) (sym next) ∙ before,
    )

pub returns : goal.returns
returns c =
    let none : drop c.loop-effect.effect-index c.args.effects.now ≡ [] = grind (arith, common_steps) in
    let before = c.loop-effect.invariant.1 in
    let small : min c.loop-effect.total 4294967295 ≡ c.loop-effect.total = omega (arith, c.loop-effect.invariant.0) in
    sym small ∙ ap (λ l. min (nodes_under c.loop-effect.total c.args.guard l) 4294967295) (sym none) ∙ before
