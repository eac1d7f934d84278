use Rattle.std.proofs.Common.{ap, sym, ◌∙◌, ◌≡◌, ◌<◌, ◌++◌, ◌∷◌, [], arith, None}
use Rattle.qc_terms.specs.declared.term.Dest.TheVariants as dest
use Rattle.qc_resolve.specs.Effects.{act_on_memory}
use Rattle.qc_widths.specs.Inner.KeptValues.{nodes_in}
use Rattle.qc_facts.specs.Faults.{reported}
use Rattle.qc_facts.specs.Numbers.{access_width}
use Rattle.qc_facts.specs.Values as values
use Rattle.qc_widths.proofs.Gathered.{acts_known, acts_large, part_clash, word_clash, word_nodes}
use Rattle.qc_widths.proofs.Seen.{huge_of, parts_of}
use Rattle.qc_widths.proofs.acts.act_on_word.Goals as goal

pub returns-in-Huge : goal.returns-in-Huge
returns-in-Huge c = λ one two is also.
    let h : 4096 < nodes_in one = huge_of one (sym c.in-Huge.is ∙ is) in
    sym (acts_large _ (omega (arith, word_nodes c.args.facts.now.word c.args.bits.now one two)))

pub returns-in-Huge-value : goal.returns-in-Huge-value
returns-in-Huge-value c = λ one two is also.
    let h : 4096 < nodes_in two = huge_of two (sym c.in-Huge-value.is ∙ also) in
    sym (acts_large _ (omega (arith, word_nodes c.args.facts.now.word c.args.bits.now one two)))

pub returns-then-nodes-gt-MOST_NODES : goal.returns-then-nodes-gt-MOST_NODES
returns-then-nodes-gt-MOST_NODES c = λ one two is also.
    let p = parts_of _ _ _ _ _ _ one (sym c.in-Known.is ∙ is) in
    let q = parts_of _ _ _ _ _ _ two (sym c.in-Known-value.is ∙ also) in
    let n : c.in-Known.nodes ≡ nodes_in one = p.nodes in
    let m : c.in-Known-value.more ≡ nodes_in two = q.nodes in
    sym (acts_large _ (omega (arith, word_nodes c.args.facts.now.word c.args.bits.now one two)))

pub returns-in_ok-push-in-Known-value : goal.returns-in_ok-push-in-Known-value
returns-in_ok-push-in-Known-value c = λ one two is also.
    let word = c.args.facts.now.word in
    let bits = c.args.bits.now in
    let p = parts_of _ _ _ _ _ _ one (sym c.in-Known.is ∙ is) in
    let q = parts_of _ _ _ _ _ _ two (sym c.in-Known-value.is ∙ also) in
    let b = c.bits_of.result in
    let width : b ≡ values.bits_of (access_width word bits) =
    c.bits_of.ensures ∙ ap values.bits_of (c.access_width-access.ensures ∙ ap (λ w. access_width w bits) c.word-in-Known-value-2.ensures) in
    acts_known (act_on_memory word bits one two ∷ []) _ _ _
    (c.in_ok-push-in-Known-value.ensures.ok
    ∙ ap (λ l. l ++ record { guard = None; to = dest.Mem b c.in-Known.place; value = c.in-Known-value.term } ∷ []) c.new-effects.ensures
    ∙ ap (λ t. record { guard = None; to = dest.Mem b t; value = c.in-Known-value.term } ∷ []) p.term
    ∙ ap (λ t. record { guard = None; to = dest.Mem b one.term; value = t } ∷ []) q.term
    ∙ ap (λ x. record { guard = None; to = dest.Mem x one.term; value = two.term } ∷ []) width)
    (omega (arith, p.nodes, q.nodes, p.small, q.small, c.saturating_add-nodes.ensures, word_nodes word bits one two))
    (omega (arith, c.if-nodes-gt-MOST_NODES.false))
    (word_clash word bits one two _ _ _
    (part_clash one word _ _ _ _ _ _ _ _ p (c.mismatch.ensures ∙ ap (λ w. reported (values.mismatch c.in-Known.start c.in-Known.width w)) c.word.ensures) c.earlier-first.ensures)
    (part_clash two (access_width word bits) _ _ _ _ _ _ _ _ q (c.mismatch-in-Known-value.ensures
    ∙ ap (λ w. reported (values.mismatch c.in-Known-value.token c.in-Known-value.found w)) (c.access_width.ensures ∙ ap (λ w. access_width w bits) c.word-in-Known-value.ensures))
    c.earlier-second.ensures) c.earlier.ensures)
