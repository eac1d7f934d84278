use Rattle.std.specs.Option.{option_copied}
use Rattle.std.proofs.Common.{ap, sym, ◌∙◌}
use Rattle.qc_join.specs.Inner.Constructors.{constructor_of, constructor_places}
use Rattle.qc_join.proofs.Places.{copied_get, placed_none, placed_some}
use Rattle.qc_join.proofs.constructors.constructor_named.Goals as goal

pub returns-in-Some : goal.returns-in-Some
returns-in-Some c =
    let items = c.args.items.now in
    ap constructor_of
    (copied_get items c.in-Some.number.now c.get-in-Some.result c.get-in-Some.ensures.lookup.1
    c.get-in-Some.ensures.lookup.3)
    ∙ placed_some items c.args.name.now c.in-Some.number.now
    (sym (c.get.ensures (constructor_places 0 items) c.requires) ∙ ap option_copied c.in-Some.is)

pub returns-in-None : goal.returns-in-None
returns-in-None c =
    let items = c.args.items.now in
    placed_none items c.args.name.now
    (sym (c.get.ensures (constructor_places 0 items) c.requires) ∙ ap option_copied c.in-None.is)
