use Rattle.std.proofs.Common.{ap, sym, ◌∙◌, ◌≡◌, ◌<◌, ◌&&◌, arith, refl}
use Rattle.qc_widths.specs.Inner.KeptValues.{nodes_in}
use Rattle.qc_widths.proofs.Seen.{seen_large, huge_of, parts_of, huge_un}
use Rattle.qc_widths.proofs.Building.{un_is}
use Rattle.qc_widths.proofs.nodes.made.Goals as goal

pub returns-in-Huge : goal.returns-in-Huge
returns-in-Huge c = λ spec width faults is adds.
    let h : 4096 < nodes_in spec = huge_of spec (sym c.in-Huge.is ∙ is) in
    sym (seen_large _ (huge_un _ spec (omega arith)))

pub returns-then-nodes-ge-MOST_NODES : goal.returns-then-nodes-ge-MOST_NODES
returns-then-nodes-ge-MOST_NODES c = λ spec width faults is adds.
    let p = parts_of _ _ _ _ _ _ spec (sym c.in-Known.is ∙ is) in
    let n : c.in-Known.nodes ≡ nodes_in spec = p.nodes in
    sym (seen_large _ (huge_un _ spec (omega arith)))

pub returns-in_ok-arg-in-Known : goal.returns-in_ok-arg-in-Known
returns-in_ok-arg-in-Known c = λ spec width faults is adds.
    let p = parts_of _ _ _ _ _ _ spec (sym c.in-Known.is ∙ is) in
    let own = adds p.small in
    un_is _ _ c.args.added.token spec _ _ _ _ _ _ _ _ _ _ _ _ _ faults p c.if-nodes-ge-MOST_NODES.false c.in_ok-arg-in-Known.ensures
    refl own.0 (c.both.ensures ∙ ap (λ s. s && c.args.added.sound) p.sound) own.1
    c.node.ensures
