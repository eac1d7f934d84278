use Rattle.std.proofs.Common.{ap, sym, ◌∙◌, ◌≡◌, ◌<◌, arith}
use Rattle.qc_facts.specs.Numbers.{access_width, access_faults}
use Rattle.qc_widths.specs.Inner.KeptValues.{nodes_in}
use Rattle.qc_facts.specs.Values as values
use Rattle.qc_facts.specs.Faults.{reported}
use Rattle.qc_widths.proofs.Seen.{seen_large, huge_of, parts_of, huge_mem}
use Rattle.qc_widths.proofs.Building.{load_is}
use Rattle.qc_widths.proofs.nodes.load.Goals as goal

pub returns-in-Huge : goal.returns-in-Huge
returns-in-Huge c = λ spec is.
    let h : 4096 < nodes_in spec = huge_of spec (sym c.in-Huge.is ∙ is) in
    sym (seen_large _ (huge_mem _ spec (omega arith)))

pub returns-then-nodes-ge-MOST_NODES : goal.returns-then-nodes-ge-MOST_NODES
returns-then-nodes-ge-MOST_NODES c = λ spec is.
    let p = parts_of _ _ _ _ _ _ spec (sym c.in-Known.is ∙ is) in
    let n : c.in-Known.nodes ≡ nodes_in spec = p.nodes in
    sym (seen_large _ (huge_mem _ spec (omega arith)))

pub returns-in_ok-address-in-Known : goal.returns-in_ok-address-in-Known
returns-in_ok-address-in-Known c = λ spec is.
    let word = c.args.facts.now.word in
    let bits = c.args.bits.now in
    let p = parts_of _ _ _ _ _ _ spec (sym c.in-Known.is ∙ is) in
    load_is _ word c.args.token bits spec _ _ _ _ _ _ _ _ _ _ _ p c.if-nodes-ge-MOST_NODES.false c.in_ok-address-in-Known.ensures
    (c.access_width-access.ensures ∙ ap (λ w. access_width w bits) c.word.ensures) c.bits_of.ensures
    (c.is_free.ensures (access_faults word bits) (c.access_fault.ensures ∙ ap (λ w. reported (access_faults w bits)) c.word-in-Known.ensures))
    (c.mismatch.ensures ∙ ap (λ w. reported (values.mismatch c.in-Known.start c.in-Known.width w)) c.word-in-Known-2.ensures)
    c.node.ensures
