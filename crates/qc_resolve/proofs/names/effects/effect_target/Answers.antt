use Rattle.std.proofs.Common.{◌≡◌, List, Option, Some, length, map, sym, ap, ◌∙◌}
use Rattle.std.specs.Option.{option_map, option_copied}
use Rattle.qc_resolve.specs.declared.signatures.Signature as kept
use Rattle.qc_resolve.specs.Scopes.{Names, Signature}
use Rattle.qc_resolve.specs.Expressions.{Expression, expression_of}
use Rattle.qc_resolve.specs.Effects.{effects_named, effect_targets, simple_targets, targets_at, targets_of}
use Rattle.qc_resolve.specs.KeptSignatures.{summary, signature_like, at_most_one, least}
use Rattle.qc_resolve.specs.KeptNames.{names_at}
use Rattle.qc_resolve.proofs.Kept.{targets-kept}
use Rattle.qc_resolve.proofs.names.effects.effect_target.Goals as goal

pub returns-in-Some : goal.returns-in-Some
unfolding effect_targets
returns-in-Some c =
    let s : kept.Signature = c.in-Some.signature.now in
    let names : Names = names_at c.args.names.now in
    let args : List Expression = map expression_of c.in-Use.args in
    let named : Option Signature = effects_named names c.in-Use.used (length c.in-Use.args) in
    let is : option_map summary named ≡ Some s =
    ap (λ n. option_map summary (effects_named names c.in-Use.used n)) (sym c.len.ensures)
    ∙ sym c.effects_named.ensures ∙ ap option_copied c.in-Some.is in
    c.target_at.ensures
    ∙ ap (λ ts. least (targets_at c.args.name.now (map at_most_one ts)
    (map expression_of c.as_slice-in-Some-2.result.now))) c.as_slice-in-Some.ensures
    ∙ ap (λ es. least (targets_at c.args.name.now (map at_most_one s.targets) (map expression_of es)))
    c.as_slice-in-Some-2.ensures
    ∙ ap (λ k. least (targets_of c.args.name.now (option_map signature_like k) args)) (sym is)
    ∙ targets-kept c.args.name.now named args
    ∙ ap (λ simple. least (simple_targets names c.args.name.now simple)) (sym c.in-Use.is)
