-- A write to a cell leaves the numbers of cells.
use Rattle.std.proofs.Common.{◌∙◌, map, length, ap}
use Rattle.qc_flat.proofs.Lengths.{lengths-with_cell}
use Rattle.qc_flat.proofs.run.perform.Goals as goal

pub returns-then-not-is_zero_cell-clause-context :
    goal.returns-then-not-is_zero_cell-clause-context
returns-then-not-is_zero_cell-clause-context c =
    let s = c.args.state.now in
    ap (λ counts. record { word = s.facts.word; widths = s.widths; counts = counts })
    (ap (map length) c.write.ensures ∙ lengths-with_cell s.cells c.in-ToCell.space c.in-ToCell.index c.in-ToCell.word)
