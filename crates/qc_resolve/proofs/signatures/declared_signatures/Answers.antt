use Rattle.std.proofs.Common.{ℕ, ◌++◌, [], List, length, map, take, sym, ap, ◌∙◌}
use Rattle.std.proofs.lemmas.List.{map-append}
use Rattle.qc_resolve.specs.Scopes.{Signature}
use Rattle.qc_resolve.specs.Declarations.{signature_of_item, signatures_after, signatures_in}
use Rattle.qc_resolve.specs.KeptSignatures.{summary}
use Rattle.qc_resolve.specs.Law.Earlier.{signatures-next, first_of_all}
use Rattle.qc_resolve.proofs.signatures.declared_signatures.Goals as goal

pub add_signature-requires-clause-first : goal.add_signature-requires-clause-first
add_signature-requires-clause-first c =
    c.loop-item.invariant
    ∙ ap (map summary) (sym (first_of_all c.args.facts.now c.args.items.now c.loop-item.item-index c.loop-item.found
    c.loop-item.invariant))

pub loop-item-preserved : goal.loop-item-preserved
loop-item-preserved c =
    let i : ℕ = c.loop-item.item-index in
    let all : List Signature = signatures_in c.args.facts.now c.args.items.now in
    let earlier : List Signature = signatures_after c.args.facts.now [] (take i c.args.items.now) in
    let of_item : List Signature → List Signature = λ e. signature_of_item c.args.facts.now e c.item-item.result in
    c.in_ok-add_signature.ensures
    ∙ ap (λ found. found ++ map summary (of_item (take (length c.loop-item.found) all))) c.loop-item.invariant
    ∙ ap (λ e. map summary earlier ++ map summary (of_item e)) (first_of_all c.args.facts.now c.args.items.now i
    c.loop-item.found c.loop-item.invariant)
    ∙ sym (map-append summary earlier (of_item earlier))
    ∙ ap (map summary) (sym (signatures-next c.args.facts.now c.args.items.now i c.item-item.result
    c.loop-item-test.true c.item-item.is))
