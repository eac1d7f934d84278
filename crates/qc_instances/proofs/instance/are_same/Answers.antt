use Rattle.std.proofs.Common.{◌≡◌, ◌<◌, Some, length, slice_get, slice_index_or, subst, sym, ◌∙◌, ap}
use Rattle.qc_instances.proofs.Lists.{take_both}
use Rattle.qc_instances.proofs.instance.are_same.Goals as goal

pub loop-index-preserved : goal.loop-index-preserved
loop-index-preserved c =
    let same : c.callee-item.result ≡ c.in-Some.there.now = c.are_alike.ensures c.if-not-are_alike.false in
    let get : slice_get c.args.other.now.given c.loop-index.index ≡ Some c.in-Some.there.now =
    ap (λ l. slice_get l c.loop-index.index) (sym c.as_slice.ensures) ∙ sym c.in-Some.ensures in
    take_both c.args.one.now.given c.args.other.now.given c.loop-index.index c.callee-item.result c.in-Some.there.now
    (subst (λ l. c.loop-index.index < length l) c.as_slice-callee-items.ensures c.loop-index-test.true)
    (c.callee-item.is ∙ ap (λ l. slice_index_or l c.loop-index.index c.callee-item.result) c.as_slice-callee-items.ensures) get same c.loop-index.invariant
