use Rattle.std.proofs.Common.{sym, ap, ◌∙◌}
use Rattle.std.specs.Option.{option_map}
use Rattle.qc_named.proofs.Lookups.{kept-placed, kept_at}
use Rattle.qc_named.proofs.standing.placed_in.Goals as goal

pub returns-in-None : goal.returns-in-None
returns-in-None c =
    ap (kept_at c.args.scope.now.names.signatures.now) (sym c.in-None.is ∙ c.find.ensures)
    ∙ sym (kept-placed c.args.scope.now.names c.args.name.now c.requires.ready)

pub returns-in-None-at : goal.returns-in-None-at
returns-in-None-at c =
    ap (option_map (λ s. (c.in-Some.place, s))) c.in-None-at.ensures
    ∙ ap (kept_at c.args.scope.now.names.signatures.now) (sym c.in-Some.is ∙ c.find.ensures)
    ∙ sym (kept-placed c.args.scope.now.names c.args.name.now c.requires.ready)

pub returns-in-Some-at : goal.returns-in-Some-at
returns-in-Some-at c =
    ap (option_map (λ s. (c.in-Some.place, s))) c.in-Some-at.ensures
    ∙ ap (kept_at c.args.scope.now.names.signatures.now) (sym c.in-Some.is ∙ c.find.ensures)
    ∙ sym (kept-placed c.args.scope.now.names c.args.name.now c.requires.ready)
