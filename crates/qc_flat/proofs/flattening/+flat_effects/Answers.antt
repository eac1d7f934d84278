use Rattle.std.proofs.Common.{◌≡◌, ◌∙◌, ◌+◌, ◌-◌, [], ◌∷◌, ◌++◌, ap, arith, length, subst, sym, take}
use Rattle.std.proofs.lemmas.List.{take_all, take_more}
use Rattle.qc_terms.specs.State.{context_of}
use Rattle.qc_flat.specs.Flat.{AreFlatOf}
use Rattle.qc_flat.proofs.Effects.{flat_push}
use Rattle.qc_flat.proofs.flattening.+flat_effects.Goals as goal

pub returns-in_ok-flat_effect-in-len1-up-clause-effects : goal.returns-in_ok-flat_effect-in-len1-up-clause-effects
returns-in_ok-flat_effect-in-len1-up-clause-effects t c =
    let s = c.args.state.now in
    let es = c.args.effects.now in
    let n = length es - 1 in
    let last = c.last-item.result in
    let whole : take n es ++ last ∷ [] ≡ es =
    ap (λ x. take n es ++ x ∷ []) c.last-item.is ∙ sym (take_more es n last (omega (arith, c.in-len1-up.len_at_least)))
    ∙ take_all (n + 1) es (omega (arith, c.in-len1-up.len_at_least)) in
    let flat = c.in_ok-flat-in-len1-up.flat.items in
    let added = c.in_ok-flat_effect-in-len1-up.field-0 in
    rw c.push.ensures.items
    (subst (λ xs. AreFlatOf (context_of s) s.facts.zero c.args.operands.now c.args.after xs (flat ++ added ∷ [])) whole
    (flat_push (context_of s) s.facts.zero c.args.operands.now c.args.after (take n es) flat last added
    c.in_ok-flat-in-len1-up.ensures.effects c.in_ok-flat_effect-in-len1-up.ensures.effect))
