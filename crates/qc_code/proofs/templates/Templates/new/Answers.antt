use Rattle.std.proofs.Common.{List, Option, IfSome, sym, subst}
use Rattle.qc_tiles.specs.declared.name.TileName.{TileName}
use Rattle.qc_tiles.specs.declared.name.TileName.TheVariants as name
use Rattle.qc_tiles.specs.Sound.{facts_of}
use Rattle.qc_tiles.specs.Tiles.{tile_of}
use Rattle.qc_code.specs.declared.template.Template.{Template}
use Rattle.qc_code.specs.IsTemplateFor.{IsTemplateFor}
use Rattle.qc_code.specs.Templates.{names_of, template_among}
use Rattle.qc_code.proofs.Listed.{each_listed}
use Rattle.qc_code.proofs.templates.Templates.new.Goals as goal

pub returns-clause-made : goal.returns-clause-made
returns-clause-made c =
    let d = c.args.descr.now in
    let Each : List TileName → List (Option Template) → Type 0 =
    λ names xs. (tile : TileName) → IfSome (template_among names xs tile) (IsTemplateFor d (template_among names xs name.Goto) (tile_of (facts_of d) tile)) in
    let listed : Each (names_of d) c.args.list.items = each_listed c.texts_name_one_tile.ensures.apart d c.args.list.items c.requires.templates in
    subst (λ xs. Each c.in_ok-names.names xs) (sym c.from_vec.ensures)
    (subst (λ names. Each names c.args.list.items) (sym c.in_ok-names.ensures) listed)
