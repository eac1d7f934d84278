-- Templates of the tiles of a machine, each found by its tile's name.
use Rattle.std.specs.Prelude.{ℕ, ◌≡◌, List, length, map, slice_get, Option, None, Some, option_and_then, IfSome}
use Rattle.std.specs.List.{position}
use Rattle.qc_descr.specs.declared.description.Description.{Description}
use Rattle.qc_tiles.specs.declared.name.TileName.{TileName}
use Rattle.qc_tiles.specs.declared.name.TileName.TheVariants as name
use Rattle.qc_tiles.specs.declared.tile.Tile.{Tile}
use Rattle.qc_tiles.specs.Names.{has_text, text_of}
use Rattle.qc_tiles.specs.Sound.{facts_of}
use Rattle.qc_tiles.specs.Tiles.{tile_of, tiles_of}
use Rattle.qc_code.specs.declared.template.Template.{Template}
use Rattle.qc_code.specs.declared.templates.Templates.{Templates}
use Rattle.qc_code.specs.IsTemplateFor.{IsTemplateFor}

-- ---- lists of templates

-- the template of an entry, if it has one
abbrev pub of_entry : Option (Option Template) → Option Template
of_entry None = None
of_entry (Some entry) = entry

-- the template that stands in the place of a name, if there is one
abbrev pub template_among : List TileName → List (Option Template) → TileName → Option Template
template_among names xs tile =
    option_and_then (λ place. of_entry (slice_get xs place)) (position (has_text (text_of tile)) names)

-- the names of a machine's tiles, in order
abbrev pub names_of : Description → List TileName
names_of d = map (λ t. t.name) (tiles_of (facts_of d))

-- There is one entry for each tile of the description, in order, and each template is one of its tile.
pub record AreTemplates (d : Description) (xs : List (Option Template)) : Type 0 where
  pub entries : length xs ≡ length (tiles_of (facts_of d))
  pub each : (place : ℕ) (t : Tile) (x : Template) → slice_get (tiles_of (facts_of d)) place ≡ Some t →
      slice_get xs place ≡ Some (Some x) → IsTemplateFor d (template_among (names_of d) xs name.Goto) t x

-- ---- templates by names

-- the template of the tile of a name, if there is one
abbrev pub template_of : Templates → TileName → Option Template
template_of templates tile = template_among templates.names templates.list tile

-- The templates are those of tiles of the description.
abbrev pub AreTemplatesOf : Description → Templates → Type 0
AreTemplatesOf d templates =
    (tile : TileName) → IfSome (template_of templates tile)
    (IsTemplateFor d (template_of templates name.Goto) (tile_of (facts_of d) tile))
