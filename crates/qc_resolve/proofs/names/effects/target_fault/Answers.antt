use Rattle.std.proofs.Common.{arith}
use Rattle.qc_resolve.specs.KeptNames.{names_at}
use Rattle.qc_resolve.proofs.ArgumentLists.{targets_pairwise}
use Rattle.qc_resolve.proofs.Paired.{pairs_more, pairs_all}
use Rattle.qc_resolve.proofs.names.effects.target_fault.Goals as goal

pub loop-place-preserved : goal.loop-place-preserved
loop-place-preserved c =
    pairs_more _ _ _ _ (targets_pairwise (names_at c.args.names.now)) c.args.targets.now c.args.args.now
    c.loop-place.place _ c.index-args-place.result c.loop-place.found c.one_target_fault.result c.earlier-found.result _
    (omega arith) (omega arith) c.index-args-place.is c.one_target_fault.ensures c.earlier-found.ensures
    c.loop-place.invariant

pub returns : goal.returns
returns c =
    pairs_all _ _ _ _ (targets_pairwise (names_at c.args.names.now)) c.args.targets.now c.args.args.now
    c.loop-place.place c.loop-place.found _ (omega arith) c.loop-place.invariant
