use Rattle.std.specs.Prelude.{◌≡◌, false, is_some}
use Rattle.std.proofs.Common.{◌∙◌, ap, sym, rules}
use Rattle.qc_names.specs.Tables.{number_at, entered}
use Rattle.qc_names.specs.Law.Tables.{shown, shown-inserted, entered-new}
use Rattle.qc_names.proofs.name_table.NameTable.enter.Goals as goal

pub returns-clause-after : goal.returns-clause-after
returns-clause-after c =
    let absent : is_some (number_at c.args.self.now c.args.name.now) ≡ false = search rules in
    let absent_inside : is_some (number_at (shown c.self.inside.numbers.entries) c.args.name.now) ≡ false =
    ap (λ es. is_some (number_at es c.args.name.now)) c.self.view_is ∙ absent in
    ap shown c.in_ok-insert.ensures.entries
    ∙ shown-inserted c.self.inside.numbers.entries c.in_ok-from_slice.field-0 c.args.name.now c.args.number
    c.in_ok-from_slice.ensures.items absent_inside
    ∙ sym (entered-new (shown c.self.inside.numbers.entries) c.args.name.now c.args.number absent_inside)
    ∙ ap (λ es. entered es c.args.name.now c.args.number) c.self.view_is
