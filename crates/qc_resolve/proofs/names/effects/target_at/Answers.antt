use Rattle.std.proofs.Common.{arith}
use Rattle.qc_resolve.proofs.ArgumentLists.{least_pairwise}
use Rattle.qc_resolve.proofs.Paired.{pairs_more, pairs_all}
use Rattle.qc_resolve.proofs.names.effects.target_at.Goals as goal

pub loop-place-preserved : goal.loop-place-preserved
loop-place-preserved c =
    pairs_more _ _ _ _ (least_pairwise c.args.name.now) c.args.targets.now c.args.args.now
    c.loop-place.place _ c.index-args-place.result c.loop-place.found c.one_target.result c.lesser-found.result _
    (omega arith) (omega arith) c.index-args-place.is c.one_target.ensures c.lesser-found.ensures
    c.loop-place.invariant

pub returns : goal.returns
returns c =
    pairs_all _ _ _ _ (least_pairwise c.args.name.now) c.args.targets.now c.args.args.now
    c.loop-place.place c.loop-place.found _ (omega arith) c.loop-place.invariant
