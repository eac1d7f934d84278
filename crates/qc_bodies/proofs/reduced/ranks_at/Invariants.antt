use Rattle.std.proofs.Common.{◌≡◌, List, [], map, take}
use Rattle.qc_bodies.specs.Trees.{Core, one}
use Rattle.qc_bodies.specs.Meanings.{Meaning, value}
use Rattle.qc_bodies.specs.Normals.{at_places, normal_of}
use Rattle.qc_bodies.specs.Written.{written}
use Rattle.qc_bodies.proofs.reduced.ranks_at.Given as goal

abbrev pub invariant-loop-place : goal.invariant-loop-place
invariant-loop-place l = (own : List (Meaning (Core one))) (es : List (Core one))
    → at_places (map (value written own [] es) (map normal_of l.args)) (take l.place-index l.chosen)
    ≡ at_places (at_places es l.marks.used) l.ranks
