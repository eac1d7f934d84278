use Rattle.qc_bodies.specs.Nodes.{placed}
use Rattle.qc_bodies.proofs.Placed.{keep_all, keeps_trans, map_more_at, places_push}
use Rattle.qc_bodies.proofs.expand.choose.Goals as goal

pub loop-place-preserved : goal.loop-place-preserved
loop-place-preserved c = record {
  places = λ es h.
      let here = keep_all c.args.nodes.now c.loop-place.nodes c.loop-place.invariant.keeps c.args.args.now es h in
      let before = keep_all c.loop-place.nodes c.argument.new.nodes c.in_ok-node.ensures.keeps c.loop-place.places _ (c.loop-place.invariant.places es h) in
      rw (c.in_ok-push.ensures.ok, map_more_at (placed es) c.args.chosen.now c.loop-place.place-index 0 c.loop-place-test.true)
      (places_push c.argument.new.nodes c.loop-place.places _ c.in_ok-node.node _ before (c.in_ok-node.ensures.place es here));
  keeps = keeps_trans c.args.nodes.now c.loop-place.nodes c.argument.new.nodes c.loop-place.invariant.keeps c.in_ok-node.ensures.keeps;
}
