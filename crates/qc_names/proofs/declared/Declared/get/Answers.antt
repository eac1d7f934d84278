use Rattle.std.proofs.Common.{sym, ◌∙◌}
use Rattle.qc_names.specs.Law.Tables.{table-gives, table-misses}
use Rattle.qc_names.proofs.declared.Declared.get.Goals as goal

pub returns-in-Some : goal.returns-in-Some
returns-in-Some g c pairs is =
    let t = c.args.self.now in
    c.get.ensures.value
    ∙ table-gives pairs t.values t.numbers c.args.name.now c.in-Some.number is (sym c.number.ensures ∙ c.in-Some.is)

pub returns-in-None : goal.returns-in-None
returns-in-None g c pairs is =
    let t = c.args.self.now in
    sym (table-misses pairs t.values t.numbers c.args.name.now is (sym c.number.ensures ∙ c.in-None.is))
