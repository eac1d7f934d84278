use Rattle.std.proofs.Common.{List, take}
use Rattle.std.specs.List.{AllZip}
use Rattle.qc_bodies.specs.Trees.{Core, one}
use Rattle.qc_bodies.specs.Nodes.{IsAt, Keeps}
use Rattle.qc_bodies.specs.Normals.{at_places}
use Rattle.qc_bodies.proofs.expand.choose.Given as goal

abbrev pub invariant-loop-place : goal.invariant-loop-place
invariant-loop-place l = record {
  places : (es : List (Core one)) → AllZip (IsAt l.initial.nodes) l.args es
      → AllZip (IsAt l.nodes) l.places (at_places es (take l.place-index l.chosen));
  keeps : Keeps l.initial.nodes l.nodes;
}
