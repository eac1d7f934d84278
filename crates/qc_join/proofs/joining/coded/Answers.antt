use Rattle.std.specs.Prelude.{map}
use Rattle.std.proofs.Common.{ap, sym, subst, ◌∙◌}
use Rattle.qc_descr.specs.Making.{AreWholeParts}
use Rattle.qc_join.specs.Joining.{JoinsParts, sketches_of}
use Rattle.qc_join.proofs.joining.coded.Goals as goal

pub described-requires : goal.described-requires
described-requires c =
    let m = c.args.machine in
    let items = c.args.coding.now.items in
    subst (λ s. AreWholeParts (record {
      name = m.name;
      given = m.given;
      spaces = m.spaces;
      operations = m.operations;
      sketches = s;
    })) (sym (c.in_ok-sketches.ensures ∙ ap (λ xs. map (sketches_of m xs) m.operations) c.as_slice.ensures))
    (c.parts_are_whole.ensures m items c.requires)

pub returns-clause-answer : goal.returns-clause-answer
returns-clause-answer c =
    let m = c.args.machine in
    subst (λ s. JoinsParts (record {
      name = m.name;
      given = m.given;
      spaces = m.spaces;
      operations = m.operations;
      sketches = s;
    }) c.described.result)
    (c.in_ok-sketches.ensures ∙ ap (λ xs. map (sketches_of m xs) m.operations) c.as_slice.ensures)
    c.described.ensures.answer
