use Rattle.std.proofs.Common.{◌∙◌, ap, arith}
use Rattle.qc_bodies.specs.Normals.{at_places}
use Rattle.qc_bodies.proofs.Shaping.{order_more}
use Rattle.qc_bodies.proofs.reduced.in_order.Goals as goal

pub loop-place-preserved : goal.loop-place-preserved
loop-place-preserved c = λ es h.
    ap (at_places es) c.in_ok-push.ensures.ok
    ∙ order_more es c.loop-place.places c.loop-place.place (omega (arith, h)) (c.loop-place.invariant es h)
