use Rattle.std.proofs.Common.{◌∙◌, ap}
use Rattle.qc_names.specs.Tables.{number_at}
use Rattle.qc_names.specs.Law.Tables.{number_at-shown}
use Rattle.qc_names.proofs.name_table.NameTable.number.Goals as goal

pub returns : goal.returns
returns c =
    c.copied.ensures ∙ c.get.ensures.value ∙ number_at-shown c.self.inside.numbers.entries c.args.name.now
    ∙ ap (λ t. number_at t c.args.name.now) c.self.view_is
