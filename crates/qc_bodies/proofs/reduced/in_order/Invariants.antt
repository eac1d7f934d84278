use Rattle.std.proofs.Common.{◌≡◌, List, length, take}
use Rattle.qc_bodies.specs.Trees.{Core, one}
use Rattle.qc_bodies.specs.Normals.{at_places}
use Rattle.qc_bodies.proofs.reduced.in_order.Given as goal

abbrev pub invariant-loop-place : goal.invariant-loop-place
invariant-loop-place l = (es : List (Core one)) → length es ≡ l.fn.count → at_places es l.places ≡ take l.place es
