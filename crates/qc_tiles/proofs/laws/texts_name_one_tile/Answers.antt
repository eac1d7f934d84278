use Rattle.std.proofs.Common.{◌≡◌, ◌∙◌, Some, ap, refl, sym}
use Rattle.std.specs.List.{find}
use Rattle.qc_tiles.specs.declared.name.TileName.{TileName}
use Rattle.qc_tiles.specs.declared.name.TileName.TheVariants as name
use Rattle.qc_tiles.specs.Names.{all_names, has_text, text_of}
use Rattle.qc_tiles.proofs.laws.texts_name_one_tile.Goals as goal

found : (this : TileName) → find (has_text (text_of this)) all_names ≡ Some this
unfolding all_names
found name.Move = refl
found _ = refl

pub returns-clause-found : goal.returns-clause-found
returns-clause-found c = found

pub returns-clause-apart : goal.returns-clause-apart
returns-clause-apart c this other same =
    let one : Some this ≡ Some other = sym (found this) ∙ ap (λ text. find (has_text text) all_names) same ∙ found other in
    cc one
