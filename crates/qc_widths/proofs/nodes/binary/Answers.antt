use Rattle.std.proofs.Common.{sym, ◌∙◌, ◌≡◌, ◌+◌, ◌<◌, ◌≤◌, arith}
use Rattle.qc_widths.specs.Inner.KeptValues.{nodes_in}
use Rattle.qc_widths.proofs.Seen.{seen_large, huge_of, parts_of, huge_bin}
use Rattle.qc_widths.proofs.Building.{bin_is}
use Rattle.qc_widths.proofs.nodes.binary.Goals as goal

pub returns-in-Huge : goal.returns-in-Huge
returns-in-Huge c = λ one two is also.
    let h : 4096 < nodes_in one = huge_of one (sym c.in-Huge.is ∙ is) in
    sym (seen_large _ (huge_bin _ one two (omega arith)))

pub returns-in-Huge-right : goal.returns-in-Huge-right
returns-in-Huge-right c = λ one two is also.
    let h : 4096 < nodes_in two = huge_of two (sym c.in-Huge-right.is ∙ also) in
    sym (seen_large _ (huge_bin _ one two (omega arith)))

pub returns-then-nodes-ge-MOST_NODES : goal.returns-then-nodes-ge-MOST_NODES
returns-then-nodes-ge-MOST_NODES c = λ one two is also.
    let p = parts_of _ _ _ _ _ _ one (sym c.in-Known.is ∙ is) in
    let q = parts_of _ _ _ _ _ _ two (sym c.in-Known-right.is ∙ also) in
    let n : c.in-Known.nodes ≡ nodes_in one = p.nodes in
    let m : c.in-Known-right.more ≡ nodes_in two = q.nodes in
    sym (seen_large _ (huge_bin _ one two (omega arith)))

pub returns-in_ok-right-in-Known-right : goal.returns-in_ok-right-in-Known-right
returns-in_ok-right-in-Known-right c = λ one two is also.
    let p = parts_of _ _ _ _ _ _ one (sym c.in-Known.is ∙ is) in
    let q = parts_of _ _ _ _ _ _ two (sym c.in-Known-right.is ∙ also) in
    let n : c.in-Known.nodes ≤ 4096 = omega (arith, p.nodes, p.small) in
    let m : c.in-Known-right.more ≤ 4096 = omega (arith, q.nodes, q.small) in
    let e : c.saturating_add-nodes.result ≡ c.in-Known.nodes + c.in-Known-right.more = omega (arith, c.saturating_add-nodes.ensures) in
    bin_is _ c.args.op c.args.token one two _ _ _ _ _ _ _ _ _ _ _ _ _ _ _ _ _ _ _ p q e c.if-nodes-ge-MOST_NODES.false
    c.in_ok-left-in-Known-right.ensures c.in_ok-right-in-Known-right.ensures c.operator_width-joint.ensures
    c.both-sound.ensures c.earlier-inner.ensures c.mismatch-own.ensures c.node.ensures
