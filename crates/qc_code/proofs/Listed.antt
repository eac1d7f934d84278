-- Each template of a list is found by its tile's name.
use Rattle.std.proofs.Common.{◌≡◌, ◌∙◌, ℕ, List, map, filter, slice_get, get_or, Option, None, Some, option_and_then, IfSome, refl, sym, ap}
use Rattle.std.specs.List.{position}
use Rattle.std.specs.Option.{option_map}
use Rattle.std.proofs.lemmas.List.Quantifiers.{position-Some}
use Rattle.std.proofs.lemmas.Option.{slice_get-get_or, slice_get-map}
use Rattle.std.proofs.lemmas.Slice.Eq.{bytes_eq-Decides}
use Rattle.qc_descr.specs.declared.description.Description.{Description}
use Rattle.qc_tiles.specs.declared.name.TileName.{TileName}
use Rattle.qc_tiles.specs.declared.name.TileName.TheVariants as name
use Rattle.qc_tiles.specs.declared.tile.Tile.{Tile}
use Rattle.qc_tiles.specs.declared.tile.TileFacts.{TileFacts}
use Rattle.qc_tiles.specs.Names.{all_names, has_text, shape_of, text_of}
use Rattle.qc_tiles.specs.Sound.{facts_of}
use Rattle.qc_tiles.specs.Tiles.{stands_at, tile_of, tiles_among}
use Rattle.qc_code.specs.declared.template.Template.{Template}
use Rattle.qc_code.specs.IsTemplateFor.{IsTemplateFor}
use Rattle.qc_code.specs.Templates.{AreTemplates, names_of, of_entry, template_among}

-- each name is the one of its text
abbrev pub NamesApart : Type 0
NamesApart = (tile other : TileName) → text_of tile ≡ text_of other → tile ≡ other

-- the tile at a place where the name is this one's
tile_here : (f : TileFacts) (tile at_place : TileName) (entry : Option TileName) → at_place ≡ tile →
    option_map (λ t. t.name) (option_map (tile_of f) entry) ≡ Some at_place → option_map (tile_of f) entry ≡ Some (tile_of f tile)
tile_here f tile at_place None same e = cc e
tile_here f tile at_place (Some n) same e = ap (λ m. Some (tile_of f m)) (some_name e ∙ same) where
  some_name : {a b : TileName} → Some a ≡ Some b → a ≡ b
  some_name e = cc e

-- the tile at the place of a name among those that a machine has
tile_at : NamesApart → (f : TileFacts) (names : List TileName) (tile : TileName) (place : ℕ) →
    position (has_text (text_of tile)) (map (λ t. t.name) (map (tile_of f) names)) ≡ Some place →
    slice_get (map (tile_of f) names) place ≡ Some (tile_of f tile)
tile_at apart f names tile place is =
    let listed : List TileName = map (λ t. t.name) (map (tile_of f) names) in
    let found = position-Some (has_text (text_of tile)) listed place tile is in
    let this : TileName = get_or listed place tile in
    let read : slice_get listed place ≡ Some this = slice_get-get_or listed place tile found.0 in
    let same : this ≡ tile = apart this tile ((bytes_eq-Decides (text_of this) (text_of tile)).0 found.1) in
    let entry : slice_get (map (tile_of f) names) place ≡ option_map (tile_of f) (slice_get names place) = slice_get-map (tile_of f) names place in
    let named : option_map (λ t. t.name) (option_map (tile_of f) (slice_get names place)) ≡ Some this =
    ap (option_map (λ t. t.name)) (sym entry) ∙ sym (slice_get-map (λ t. t.name) (map (tile_of f) names) place) ∙ read in
    entry ∙ tile_here f tile this (slice_get names place) same named

-- what stands at a place
at_entry : (d : Description) (goto : Option Template) (t : Tile) (xs : List (Option Template)) (place : ℕ) (entry : Option (Option Template)) →
    slice_get xs place ≡ entry →
    ((x : Template) → slice_get xs place ≡ Some (Some x) → IsTemplateFor d goto t x) →
    IfSome (of_entry entry) (IsTemplateFor d goto t)
at_entry d goto t xs place None e each = tt
at_entry d goto t xs place (Some None) e each = tt
at_entry d goto t xs place (Some (Some x)) e each = each x e

pub each_listed : NamesApart → (d : Description) (xs : List (Option Template)) → AreTemplates d xs → (tile : TileName) →
    IfSome (template_among (names_of d) xs tile) (IsTemplateFor d (template_among (names_of d) xs name.Goto) (tile_of (facts_of d) tile))
unfolding tiles_among
each_listed apart d xs all tile = at_place (position (has_text (text_of tile)) (names_of d)) refl where
  f : TileFacts
  f = facts_of d

  goto : Option Template
  goto = template_among (names_of d) xs name.Goto

  at_place : (found : Option ℕ) → position (has_text (text_of tile)) (names_of d) ≡ found →
      IfSome (option_and_then (λ place. of_entry (slice_get xs place)) found) (IsTemplateFor d goto (tile_of f tile))
  at_place None e = tt
  at_place (Some place) e =
      at_entry d goto (tile_of f tile) xs place (slice_get xs place) refl
      (λ x stands. all.each place (tile_of f tile) x
      (tile_at apart f (filter (λ n. stands_at f.word (shape_of n)) all_names) tile place e) stands)
