-- The list of tiles, name by name.
use Rattle.std.proofs.Common.{◌≡◌, ◌∙◌, List, [], ◌∷◌, ◌++◌, map, filter, Bool, true, false, if◌then◌else◌, refl, ap}
use Rattle.std.proofs.lemmas.List.{map-append}
use Rattle.std.proofs.lemmas.List.Elements.{filter-append}
use Rattle.qc_tiles.specs.declared.name.TileName.{TileName}
use Rattle.qc_tiles.specs.declared.tile.TileFacts.{TileFacts}
use Rattle.qc_tiles.specs.Names.{shape_of}
use Rattle.qc_tiles.specs.Tiles.{stands_at, tile_of, tiles_among}

tiles-one : (f : TileFacts) (name : TileName) (stands : Bool) → stands_at f.word (shape_of name) ≡ stands →
    tiles_among f (name ∷ []) ≡ (if stands then tile_of f name ∷ [] else [])
unfolding tiles_among
tiles-one f name true e = rw e refl
tiles-one f name false e = rw e refl

-- one name more
pub tiles-more : (f : TileFacts) (names : List TileName) (name : TileName) (stands : Bool) → stands_at f.word (shape_of name) ≡ stands →
    tiles_among f (names ++ name ∷ []) ≡ tiles_among f names ++ (if stands then tile_of f name ∷ [] else [])
unfolding tiles_among
tiles-more f names name stands e =
    let p : TileName → Bool = λ n. stands_at f.word (shape_of n) in
    ap (map (tile_of f)) (filter-append p names (name ∷ []))
    ∙ map-append (tile_of f) (filter p names) (filter p (name ∷ []))
    ∙ ap (λ ts. map (tile_of f) (filter p names) ++ ts) (tiles-one f name stands e)
