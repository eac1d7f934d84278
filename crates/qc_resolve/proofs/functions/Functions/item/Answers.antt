use Rattle.std.specs.Prelude.{slice_get}
use Rattle.std.proofs.Common.{ap, sym, ◌∙◌, get_or}
use Rattle.qc_resolve.proofs.Numbered.{item-of-number, number-there}
use Rattle.qc_resolve.proofs.functions.Functions.item.Goals as goal

pub unreachable-requires : goal.unreachable-requires
unreachable-requires c =
    number-there c.args.items.now c.args.self.now c.args.number c.requires.table c.requires.within
    (c.in-None.ensures ∙ ap (λ ps. slice_get c.args.items.now (get_or ps c.args.number 0)) c.as_slice.ensures)

pub returns : goal.returns
returns c =
    item-of-number c.args.items.now c.args.self.now c.args.number c.requires.table c.requires.within
    ∙ sym (c.in-Some.ensures ∙ ap (λ ps. slice_get c.args.items.now (get_or ps c.args.number 0)) c.as_slice.ensures)
