use Rattle.std.proofs.Common.{map, take}
use Rattle.qc_bodies.specs.Normals.{at_places, normal_of}
use Rattle.qc_bodies.specs.Plains.{plain_of}
use Rattle.qc_bodies.specs.Inner.Reducing.{SameValues}
use Rattle.qc_bodies.proofs.shape.+normal.Given as goal

abbrev pub invariant-normals-loop-body : goal.invariant-normals-loop-body
invariant-normals-loop-body l = SameValues l.shapes (map plain_of (take l.body-index l.bodies)) (map normal_of l.es)

abbrev pub invariant-needed_normals-loop-place : goal.invariant-needed_normals-loop-place
invariant-needed_normals-loop-place l =
    SameValues l.shapes (at_places (map plain_of l.args) (take l.place-index l.needed)) (map normal_of l.es)
