use Rattle.std.proofs.Common.{◌≡◌, take}
use Rattle.qc_tiles.specs.Names.{all_names}
use Rattle.qc_tiles.specs.Tiles.{tiles_among}
use Rattle.qc_tiles.proofs.tile.tiles.Given as goal

-- the tiles of the names so far
abbrev pub invariant-loop-name : goal.invariant-loop-name
invariant-loop-name l = l.found.items ≡ tiles_among l.facts (take l.name-index all_names)
