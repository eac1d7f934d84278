use Rattle.std.proofs.Common.{ap, sym, ◌∙◌, ◌<◌, ◌++◌, ◌∷◌, [], arith, None}
use Rattle.qc_resolve.specs.Effects.{act_of}
use Rattle.qc_widths.specs.Inner.KeptValues.{nodes_in}
use Rattle.qc_widths.proofs.Gathered.{acts_known, acts_large, one_clash, one_nodes, part_clash}
use Rattle.qc_widths.proofs.Seen.{huge_of, parts_of}
use Rattle.qc_widths.proofs.acts.one_act.Goals as goal

pub returns-in-Huge : goal.returns-in-Huge
returns-in-Huge c = λ spec is.
    let h : 4096 < nodes_in spec = huge_of spec (sym c.in-Huge.is ∙ is) in
    sym (acts_large (act_of c.args.to [] spec c.args.wanted ∷ []) (omega (arith, one_nodes c.args.to spec c.args.wanted c.requires)))

pub returns-in_ok-push-in-Known : goal.returns-in_ok-push-in-Known
returns-in_ok-push-in-Known c = λ spec is.
    let p = parts_of _ _ _ _ _ _ spec (sym c.in-Known.is ∙ is) in
    let to = c.args.to in
    let wanted = c.args.wanted in
    acts_known (act_of to [] spec wanted ∷ []) _ _ _
    (c.in_ok-push-in-Known.ensures.ok ∙ ap (λ l. l ++ record { guard = None; to = to; value = c.in-Known.term } ∷ []) c.new-effects.ensures
    ∙ ap (λ t. record { guard = None; to = to; value = t } ∷ []) p.term)
    (p.nodes ∙ sym (one_nodes to spec wanted c.requires)) (omega (arith, p.nodes, p.small))
    (one_clash to spec wanted _ (part_clash spec wanted _ _ _ _ _ _ _ _ p c.mismatch.ensures c.earlier-clash.ensures))
