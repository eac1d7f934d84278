use Rattle.std.proofs.Common.{ap, sym, ◌∙◌, ◌≡◌, ◌<◌, ◌++◌, arith, map}
use Rattle.qc_resolve.specs.Effects.{clashes_of_act, effect_of}
use Rattle.qc_facts.specs.Faults.{reported, reported_of_both}
use Rattle.qc_widths.specs.Inner.KeptEffects.{nodes_in_acts}
use Rattle.qc_widths.proofs.Gathered.{acts_known, acts_large, acts_parts, acts_huge, clash_append, nodes_append}
use Rattle.std.proofs.lemmas.List.{map-append}
use Rattle.std.specs.List.{flat_map}
use Rattle.qc_widths.proofs.acts.joined.Goals as goal

pub returns-in-Huge : goal.returns-in-Huge
returns-in-Huge c = λ one two is also.
    let h : 4096 < nodes_in_acts one = acts_huge one (sym c.in-Huge.is ∙ is) in
    sym (acts_large (one ++ two) (omega (arith, nodes_append one two)))

pub returns-in-Huge-second : goal.returns-in-Huge-second
returns-in-Huge-second c = λ one two is also.
    let h : 4096 < nodes_in_acts two = acts_huge two (sym c.in-Huge-second.is ∙ also) in
    sym (acts_large (one ++ two) (omega (arith, nodes_append one two)))

pub returns-then-nodes-gt-MOST_NODES : goal.returns-then-nodes-gt-MOST_NODES
returns-then-nodes-gt-MOST_NODES c = λ one two is also.
    let p = acts_parts _ _ _ one (sym c.in-Known.is ∙ is) in
    let q = acts_parts _ _ _ two (sym c.in-Known-second.is ∙ also) in
    let n : c.in-Known.nodes ≡ nodes_in_acts one = p.nodes in
    let m : c.in-Known-second.rest ≡ nodes_in_acts two = q.nodes in
    sym (acts_large (one ++ two) (omega (arith, nodes_append one two)))

pub returns-in_ok-append-in-Known-second : goal.returns-in_ok-append-in-Known-second
returns-in_ok-append-in-Known-second c = λ one two is also.
    let p = acts_parts _ _ _ one (sym c.in-Known.is ∙ is) in
    let q = acts_parts _ _ _ two (sym c.in-Known-second.is ∙ also) in
    acts_known (one ++ two) _ _ _
    (c.in_ok-append-in-Known-second.ensures ∙ ap (λ l. l ++ c.in-Known-second.more) p.effects ∙ ap (λ l. map effect_of one ++ l) q.effects
    ∙ sym (map-append effect_of one two))
    (omega (arith, p.nodes, q.nodes, p.small, q.small, c.saturating_add-nodes.ensures, nodes_append one two))
    (omega (arith, c.if-nodes-gt-MOST_NODES.false))
    (c.earlier-clash.ensures ∙ ap (λ x. reported_of_both x c.in-Known-second.later) p.clash
    ∙ ap (λ x. reported_of_both (reported (flat_map clashes_of_act one)) x) q.clash ∙ sym (clash_append one two))
