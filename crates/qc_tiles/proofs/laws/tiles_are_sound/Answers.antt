use Rattle.qc_tiles.specs.Law.Sound.{tiles_sound}
use Rattle.qc_tiles.proofs.laws.tiles_are_sound.Goals as goal

pub returns : goal.returns
returns c = tiles_sound
