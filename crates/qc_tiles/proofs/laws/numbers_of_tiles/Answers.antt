use Rattle.std.proofs.Common.{◌≡◌, ℕ, filter, length, map, count_by, sym, subst, refl}
use Rattle.qc_tiles.specs.declared.tile.TileFacts.{TileFacts}
use Rattle.qc_tiles.specs.Names.{all_names, shape_of}
use Rattle.qc_tiles.specs.Tiles.{stands_at, tile_of, tiles_among}
use Rattle.qc_tiles.proofs.laws.numbers_of_tiles.Goals as goal

-- so many tiles of these facts, and of them so many core ones, where the word has so many bits
HasNumbers : TileFacts → (all core word : ℕ) → Type 0
HasNumbers f all core word =
    let ts = map (tile_of f) (filter (λ n. stands_at word (shape_of n)) all_names) in
    (length ts ≡ all) × (count_by (λ t. t.core) ts ≡ core)

pub returns-clause-short : goal.returns-clause-short
unfolding HasNumbers tiles_among all_names
returns-clause-short c f e = subst (HasNumbers f 43 38) (sym e) (refl, refl)

pub returns-clause-middle : goal.returns-clause-middle
unfolding HasNumbers tiles_among all_names
returns-clause-middle c f e = subst (HasNumbers f 45 40) (sym e) (refl, refl)

pub returns-clause-long : goal.returns-clause-long
unfolding HasNumbers tiles_among all_names
returns-clause-long c f e = subst (HasNumbers f 47 42) (sym e) (refl, refl)
