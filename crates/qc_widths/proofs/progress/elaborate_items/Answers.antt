use Rattle.std.specs.Prelude.{◌≡◌, ◌∷◌, ◌+◌, drop}
use Rattle.std.proofs.Common.{arith, ap, sym, ◌∙◌, subst}
use Rattle.std.proofs.lemmas.List.{at_drop_more}
use Rattle.qc_widths.specs.Inner.Elaboration.{IsBehind}
use Rattle.qc_widths.proofs.ItemByItem.{behind-none, behind-next, one-name}
use Rattle.qc_widths.proofs.progress.elaborate_items.Goals as goal

pub loop-item-init : goal.loop-item-init
loop-item-init c = record {
  functions = omega arith;
  instructions = omega arith;
  spaces = omega arith;
  behind = behind-none c.args.context.now c.new.result c.new.ensures;
}

pub loop-item-preserved : goal.loop-item-preserved
loop-item-preserved c =
    let items = c.args.context.now.items.now in
    let item = c.item-item.result in
    let rest = drop (c.loop-item.item-index + 1) items in
    let old = c.loop-item.progress.counts in
    let next = c.in_ok-progress.ensures.counts in
    let here : drop c.loop-item.item-index items ≡ item ∷ rest =
    at_drop_more (λ xs. xs) items c.loop-item.item-index item (omega arith) ∙ ap (λ x. x ∷ rest) (sym c.item-item.is) in
    record {
      functions = omega (arith, ap (λ n. n.functions) next, (one-name item).functions, c.loop-item.invariant.functions);
      instructions = omega (
        arith,
        ap (λ n. n.instructions) next,
        (one-name item).instructions,
        c.loop-item.invariant.instructions,
      );
      spaces = omega (arith, ap (λ n. n.spaces) next, (one-name item).spaces, c.loop-item.invariant.spaces);
      behind = behind-next c.args.context.now c.loop-item.progress c.in_ok-progress.progress item rest
          (subst (IsBehind c.args.context.now c.loop-item.progress) here c.loop-item.invariant.behind)
          next c.in_ok-progress.ensures.fault c.in_ok-progress.ensures.operations;
    }
