use Rattle.std.proofs.Common.{◌++◌, ◌∷◌, [], List, map, slice_index_or, sym, ◌∙◌, ap, arith}
use Rattle.std.proofs.lemmas.List.{map-append, take_all}
use Rattle.qc_bodies.specs.Trees.{Core, one}
use Rattle.qc_bodies.specs.Meanings.{value}
use Rattle.qc_bodies.specs.Nodes.{placed}
use Rattle.qc_bodies.specs.Normals.{at_places, normal_of}
use Rattle.qc_bodies.specs.Written.{written}
use Rattle.qc_bodies.proofs.Placed.{map_more_at}
use Rattle.qc_bodies.proofs.reduced.ranks_at.Goals as goal

pub loop-place-preserved : goal.loop-place-preserved
loop-place-preserved c = λ own es.
    let left : List (Core one) = map (value written own [] es) (map normal_of c.args.args.now) in
    let right : List (Core one) = at_places es c.args.marks.now.used in
    let place = slice_index_or c.args.chosen.now c.loop-place.place-index 0 in
    map_more_at (placed left) c.args.chosen.now c.loop-place.place-index 0 c.loop-place-test.true
    ∙ (ap (λ l. l ++ placed left place ∷ []) (c.loop-place.invariant own es)
    ∙ (ap (λ x. at_places right c.loop-place.ranks ++ x ∷ []) (c.in-Some.ensures own es)
    ∙ (sym (map-append (placed right) c.loop-place.ranks (c.in-Some.rank ∷ []))
    ∙ ap (at_places right) (sym c.in_ok-push-in-Some.ensures.ok))))

pub returns : goal.returns
returns c = λ own es.
    ap (at_places (map (value written own [] es) (map normal_of c.args.args.now))) (sym (take_all c.loop-place.place-index c.args.chosen.now (omega arith)))
    ∙ c.loop-place.invariant own es
