use Rattle.std.proofs.Common.{ap, sym, refl, true, false, ◌∙◌, ◌≡◌, ◌<◌, [], arith, Some, map}
use Rattle.qc_resolve.specs.Effects.{effect_of, guarded}
use Rattle.qc_widths.specs.Inner.KeptValues.{nodes_in}
use Rattle.qc_widths.specs.Inner.KeptEffects.{nodes_in_acts, nodes_under, under, seen_acts}
use Rattle.qc_widths.proofs.Gathered.{empty_guarded, huge_guard, reported_guarded, acts_known, acts_large, acts_parts, acts_huge, from_zero, guarded_count, guarded_effects, part_clash}
use Rattle.qc_widths.proofs.Seen.{huge_of, parts_of}
use Rattle.qc_widths.proofs.acts.guarded_acts.Goals as goal

pub returns-in-Huge : goal.returns-in-Huge
returns-in-Huge c = λ spec one is are.
    let h : 4096 < nodes_in_acts one = acts_huge one (sym c.in-Huge.is ∙ are) in
    sym (acts_large (map (guarded spec) one) (omega (
      arith,
      guarded_count spec one,
      from_zero (nodes_in_acts one) (nodes_in spec) (map effect_of one),
    )))

pub returns-then-is_empty : goal.returns-then-is_empty
returns-then-is_empty c = λ spec one is are.
    let p = acts_parts _ _ _ one (sym c.in-Known.is ∙ are) in
    c.no_acts.ensures ∙ ap seen_acts (sym (empty_guarded spec one (sym p.effects ∙ c.if-is_empty.ensures.0 refl)))

pub returns-in-Huge-guard : goal.returns-in-Huge-guard
returns-in-Huge-guard c = λ spec one is are.
    let p = acts_parts _ _ _ one (sym c.in-Known.is ∙ are) in
    let not : map effect_of one ≡ [] → ⊥ = λ e. let k : false ≡ true = c.if-is_empty.ensures.1 (p.effects ∙ e) in cc in
    let h : 4096 < nodes_in spec = huge_of spec (sym c.in-Huge-guard.is ∙ is) in
    sym (acts_large (map (guarded spec) one) (huge_guard spec one not h))

pub returns-then-nodes-gt-MOST_NODES : goal.returns-then-nodes-gt-MOST_NODES
returns-then-nodes-gt-MOST_NODES c = λ spec one is are.
    let p = acts_parts _ _ _ one (sym c.in-Known.is ∙ are) in
    let g = parts_of _ _ _ _ _ _ spec (sym c.in-Known-guard.is ∙ is) in
    let count : nodes_under c.in-Known.nodes c.in-Known-guard.more c.as_slice.result.now ≡ nodes_in_acts (map (guarded spec) one) =
    ap (λ n. nodes_under n c.in-Known-guard.more c.as_slice.result.now) p.nodes
    ∙ ap (λ n. nodes_under (nodes_in_acts one) n c.as_slice.result.now) g.nodes
    ∙ ap (λ l. nodes_under (nodes_in_acts one) (nodes_in spec) l) (c.as_slice.ensures ∙ p.effects) ∙ sym (guarded_count spec one) in
    sym (acts_large (map (guarded spec) one) (omega (arith, count, c.guarded_nodes-nodes.ensures, c.if-nodes-gt-MOST_NODES.true)))

pub returns : goal.returns
returns c = λ spec one is are.
    let p = acts_parts _ _ _ one (sym c.in-Known.is ∙ are) in
    let not : map effect_of one ≡ [] → ⊥ = λ e. let k : false ≡ true = c.if-is_empty.ensures.1 (p.effects ∙ e) in cc in
    let g = parts_of _ _ _ _ _ _ spec (sym c.in-Known-guard.is ∙ is) in
    let count : nodes_under c.in-Known.nodes c.in-Known-guard.more c.as_slice.result.now ≡ nodes_in_acts (map (guarded spec) one) =
    ap (λ n. nodes_under n c.in-Known-guard.more c.as_slice.result.now) p.nodes
    ∙ ap (λ n. nodes_under (nodes_in_acts one) n c.as_slice.result.now) g.nodes
    ∙ ap (λ l. nodes_under (nodes_in_acts one) (nodes_in spec) l) (c.as_slice.ensures ∙ p.effects) ∙ sym (guarded_count spec one) in
    acts_known (map (guarded spec) one) _ _ _
    (c.in_ok-effects-in-Known-guard.ensures ∙ ap (λ l. map (under c.in-Known-guard.term) l) (c.as_slice-in-Known-guard.ensures ∙ p.effects)
    ∙ ap (λ t. map (under t) (map effect_of one)) g.term ∙ guarded_effects spec one)
    (omega (arith, count, c.guarded_nodes-nodes.ensures, c.if-nodes-gt-MOST_NODES.false)) (omega (arith, c.if-nodes-gt-MOST_NODES.false))
    (reported_guarded spec one _ _ _ not c.earlier.ensures
    (part_clash spec (Some 1) _ _ _ _ _ _ _ _ g c.mismatch.ensures c.earlier-own.ensures) p.clash)
