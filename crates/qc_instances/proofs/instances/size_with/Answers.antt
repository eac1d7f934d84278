use Rattle.std.proofs.Common.{◌≡◌, ◌+◌, ◌*◌, ◌<◌, length, slice_get, slice_index_or, take, ◌∙◌, subst, ap, arith}
use Rattle.qc_bodies.specs.Meanings.{value_or}
use Rattle.qc_bodies.specs.Sizes.{stopped, weighed}
use Rattle.qc_instances.proofs.Lists.{stopped_more, weighed_more}
use Rattle.qc_instances.proofs.instances.size_with.Goals as goal

pub loop-place-preserved : goal.loop-place-preserved
loop-place-preserved c =
    let counts = c.args.form.now.counts in
    let sizes = c.args.sizes.now in
    let k = c.loop-place.place in
    let h : k < length counts = subst (λ l. k < length l) c.as_slice-count-items.ensures c.loop-place-test.true in
    let so_far = c.args.form.now.base + weighed (take k counts) sizes in
    let more = slice_index_or counts k 0 * value_or 1 (slice_get sizes k) in
    let product : c.product.result ≡ stopped more =
    c.product.ensures ∙ (ap (λ n. stopped (slice_index_or c.as_slice-count-items.result.now k 0 * n)) c.size_or_one.ensures
    ∙ ap (λ l. stopped (slice_index_or l k 0 * value_or 1 (slice_get sizes k))) c.as_slice-count-items.ensures) in
    let whole : so_far + more ≡ c.args.form.now.base + weighed (take (k + 1) counts) sizes =
    (let e = weighed_more counts sizes k h in omega (arith, e)) in
    c.sum-size.ensures
    ∙ (ap (λ n. stopped (n + c.product.result)) c.loop-place.invariant
    ∙ (ap (λ n. stopped (stopped so_far + n)) product
    ∙ (stopped_more so_far more ∙ ap stopped whole)))
