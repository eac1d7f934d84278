use Rattle.std.proofs.Common.{◌≡◌, ◌++◌, ◌∷◌, [], List, length, map, take, sym, ap, ◌∙◌}
use Rattle.qc_lrtl.specs.declared.syntax.Effect.{Effect}
use Rattle.qc_lrtl.specs.declared.syntax.Param.{Param}
use Rattle.qc_resolve.specs.declared.signatures.Signature as kept
use Rattle.qc_resolve.specs.Scopes.{Signature}
use Rattle.qc_resolve.specs.Declarations.{locals_of_params, names_for, signature_of_item, signatures_in}
use Rattle.qc_resolve.specs.KeptSignatures.{summary, kept_of_effects}
use Rattle.qc_resolve.specs.KeptNames.{names_at}
use Rattle.qc_resolve.proofs.signatures.add_signature.Goals as goal

pub returns-in_ok-push-in-Effects : goal.returns-in_ok-push-in-Effects
unfolding names_at
returns-in_ok-push-in-Effects c =
    let all : List Signature = signatures_in c.args.facts.now c.args.items.now in
    let of_lists : List kept.Signature → List Param → List Param → List Effect → kept.Signature =
    λ signatures own params body.
    kept_of_effects (names_for c.args.facts.now (take (length signatures) all) (locals_of_params own)) params body in
    let signatures : List kept.Signature = c.as_slice-in-Effects.result.now in
    let own : List Param = c.as_slice-in-Effects-2.result.now in
    let params : List Param = c.as_slice-in-Effects-3.result.now in
    let is : c.in_ok-signature-in-Effects.signature
    ≡ of_lists c.args.signatures.now c.in-Effects.params c.in-Effects.params c.in-Effects.body =
    c.in_ok-signature-in-Effects.ensures
    ∙ ap (of_lists signatures own params) c.as_slice-in-Effects-4.ensures
    ∙ ap (λ ps. of_lists signatures own ps c.in-Effects.body) c.as_slice-in-Effects-3.ensures
    ∙ ap (λ ps. of_lists signatures ps c.in-Effects.params c.in-Effects.body) c.as_slice-in-Effects-2.ensures
    ∙ ap (λ ss. of_lists ss c.in-Effects.params c.in-Effects.params c.in-Effects.body) c.as_slice-in-Effects.ensures in
    c.in_ok-push-in-Effects.ensures.ok
    ∙ ap (λ s. c.args.signatures.now ++ s ∷ []) is
    ∙ ap (λ item. c.args.signatures.now ++ map summary (signature_of_item c.args.facts.now
    (take (length c.args.signatures.now) all) item)) (sym c.in-Effects.is)
