use Rattle.std.proofs.Common.{◌≡◌, List, Option, Some, length, map, sym, ap, ◌∙◌}
use Rattle.std.specs.Option.{option_map, option_copied}
use Rattle.qc_facts.specs.Faults.{reported, reported_of_both, token_of, rank_of}
use Rattle.qc_resolve.specs.declared.signatures.Signature as kept
use Rattle.qc_resolve.specs.Scopes.{Names, Signature}
use Rattle.qc_resolve.specs.Expressions.{Expression, expression_of, argument_faults}
use Rattle.qc_resolve.specs.Effects.{effects_named, effects_faults, target_faults}
use Rattle.qc_resolve.specs.KeptSignatures.{summary, signature_like, at_most_one}
use Rattle.qc_resolve.specs.KeptNames.{names_at}
use Rattle.qc_names.specs.Law.Reported.{reported-append}
use Rattle.qc_resolve.proofs.Kept.{use-kept}
use Rattle.qc_resolve.proofs.names.effects.use_fault.Goals as goal

pub returns-in-Some : goal.returns-in-Some
returns-in-Some c =
    let s : kept.Signature = c.in-Some.signature.now in
    let names : Names = names_at c.args.names.now in
    let args : List Expression = map expression_of c.args.args.now in
    let named : Option Signature = effects_named names c.args.name.now (length c.args.args.now) in
    let is : option_map summary named ≡ Some s = sym c.effects_named.ensures ∙ ap option_copied c.in-Some.is in
    let arguments : c.argument_fault.result ≡ reported (argument_faults names s.params args) =
    c.argument_fault.ensures ∙ ap (λ ps. reported (argument_faults names ps args)) c.as_slice.ensures in
    let targets : c.target_fault.result ≡ reported (target_faults names (map at_most_one s.targets) args) =
    c.target_fault.ensures
    ∙ ap (λ ts. reported (target_faults names (map at_most_one ts) args)) c.as_slice-in-Some.ensures in
    c.earlier.ensures ∙ ap (λ f. reported_of_both f c.target_fault.result) arguments
    ∙ ap (reported_of_both (reported (argument_faults names s.params args))) targets
    ∙ sym (reported-append token_of rank_of (argument_faults names s.params args) (target_faults names (map at_most_one s.targets) args))
    ∙ ap (λ k. reported (effects_faults names (option_map signature_like k) c.args.name.now.token args)) (sym is)
    ∙ use-kept names named c.args.name.now.token args
