use Rattle.std.proofs.Common.{sym, ◌∙◌, ◌<◌, arith}
use Rattle.qc_widths.specs.Inner.KeptValues.{nodes_in}
use Rattle.qc_widths.proofs.Seen.{huge_of, parts_of}
use Rattle.qc_widths.proofs.nodes.place_of.Goals as goal

pub returns-in-Huge : goal.returns-in-Huge
returns-in-Huge c = λ spec is small.
    let h : 4096 < nodes_in spec = huge_of spec (sym c.in-Huge.is ∙ is) in
    absurd (omega (arith, h, small))

pub returns-in-Known : goal.returns-in-Known
returns-in-Known c = λ spec is small.
    let p = parts_of _ _ _ _ _ _ spec (sym c.in-Known.is ∙ is) in
    (p.token, p.width)
