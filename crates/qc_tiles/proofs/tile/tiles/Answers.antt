use Rattle.std.proofs.Common.{◌≡◌, ◌∙◌, ◌+◌, ◌<◌, ◌++◌, [], ◌∷◌, Bool, true, false, length, take, get_or, if◌then◌else◌, sym, ap, arith}
use Rattle.std.proofs.lemmas.List.{append-nil, take_more}
use Rattle.qc_tiles.specs.declared.name.TileName.{TileName}
use Rattle.qc_tiles.specs.declared.name.TileName.TheVariants as name
use Rattle.qc_tiles.specs.declared.tile.TileFacts.{TileFacts}
use Rattle.qc_tiles.specs.Names.{all_names, shape_of}
use Rattle.qc_tiles.specs.Tiles.{stands_at, tile_of, tiles_among}
use Rattle.qc_tiles.proofs.Lists.{tiles-more}
use Rattle.qc_tiles.proofs.tile.tiles.Goals as goal
use Rattle.qc_tiles.proofs.tile.tiles.Goals.{then-stands_at+in_ok-tile_named+in_ok-push, else-stands_at}

pub loop-name-init : goal.loop-name-init
unfolding tiles_among all_names
loop-name-init c = c.new-found.ensures.items

pub loop-name-preserved : goal.loop-name-preserved
unfolding all_names
loop-name-preserved c =
    let f : TileFacts = c.args.facts.now in
    let i = c.loop-name.name-index in
    let this : TileName = get_or all_names i name.Move in
    let inside : i < length all_names = omega (arith, c.loop-name-test.true) in
    let step : tiles_among f (take (i + 1) all_names) ≡ tiles_among f (take i all_names ++ this ∷ []) =
    ap (tiles_among f) (take_more all_names i name.Move inside) in
    let stands : stands_at f.word (shape_of this) ≡ c.stands_at.result = sym (c.stands_at.ensures ∙ ap (stands_at f.word) c.shape.ensures) in
    let next : (tell : Bool) → stands_at f.word (shape_of this) ≡ tell →
    tiles_among f (take (i + 1) all_names) ≡ c.loop-name.found.items ++ (if tell then tile_of f this ∷ [] else []) =
    λ tell e. step ∙ tiles-more f (take i all_names) this tell e
    ∙ ap (λ ts. ts ++ (if tell then tile_of f this ∷ [] else [])) (sym c.loop-name.invariant) in
    elim c.if-stands_at.branch [
      | then-stands_at+in_ok-tile_named+in_ok-push w ↦
          let made : w.in_ok-tile_named.field-0 ≡ tile_of f this = w.in_ok-tile_named.ensures in
          let pushed : w.push.new.self.items ≡ c.loop-name.found.items ++ w.in_ok-tile_named.field-0 ∷ [] = w.in_ok-push.ensures.items in
          ap (λ v. v.items) w.found-is ∙ pushed ∙ ap (λ t. c.loop-name.found.items ++ t ∷ []) made
          ∙ sym (next true (stands ∙ w.if-stands_at.true))
      | else-stands_at w ↦
          ap (λ v. v.items) w.found-is ∙ sym (append-nil c.loop-name.found.items) ∙ sym (next false (stands ∙ w.if-stands_at.false))
    ]

pub returns : goal.returns
unfolding all_names
returns c =
    let end : c.loop-name.name-index ≡ 47 = omega (arith, c.loop-name-test.false, c.loop-name.auto.name-index-end) in
    c.loop-name.invariant ∙ ap (λ n. tiles_among c.args.facts.now (take n all_names)) end
