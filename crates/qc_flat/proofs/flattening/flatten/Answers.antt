use Rattle.std.proofs.Common.{◌≡◌, ◌∙◌, false, subst, sym}
use Rattle.std.proofs.lemmas.Option.{IfSome_then}
use Rattle.qc_terms.specs.Effects.{rtl_has_input}
use Rattle.qc_terms.specs.State.{context_of}
use Rattle.qc_flat.specs.Flat.{AreFlatOf}
use Rattle.qc_flat.proofs.Effects.{flat_list}
use Rattle.qc_flat.proofs.flattening.flatten.Goals as goal

pub returns-clause-flat : goal.returns-clause-flat
returns-clause-flat c =
    let s = c.args.state.now in
    let quiet : rtl_has_input c.args.rtl.now ≡ false = sym c.has_input.ensures ∙ c.if-has_input.false in
    IfSome_then c.flat_effects.result c.flat_effects.ensures.effects
    (λ flat are. flat_list (context_of s) s.facts.zero c.args.operands.now c.args.after c.args.rtl.now flat.items quiet
    (subst (λ es. AreFlatOf (context_of s) s.facts.zero c.args.operands.now c.args.after es flat.items) c.as_slice.ensures are))
