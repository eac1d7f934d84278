use Rattle.std.proofs.Common.{◌≡◌, ◌<◌, ◌++◌, ◌∙◌, [], ◌∷◌, ap, subst, arith, get_or, length, slice_set}
use Rattle.std.proofs.lemmas.List.{get_or_default}
use Rattle.qc_descr.specs.declared.sketch.Claim.TheVariants.{Free}
use Rattle.qc_join.specs.Alternatives.{both_claim}
use Rattle.qc_join.proofs.Alternatives.{joined_set, joined_kept, joined_push}
use Rattle.qc_join.proofs.alternative.join_claim.Goals as goal

pub returns-in_ok-joined : goal.returns-in_ok-joined
returns-in_ok-joined c start so_far =
    let first = c.args.first.now in
    let second = c.args.second.now in
    let place = c.args.place in
    let own = c.index-as_slice-place.result in
    let other = c.index-second-place-then-not-is_free.result in
    let inside : place < length first = omega (arith, c.if-place-len.true, c.len.ensures) in
    let own_is : own ≡ get_or first place Free =
    c.index-as_slice-place.is ∙ ap (λ xs. get_or xs place own) c.as_slice.ensures ∙ get_or_default first place own Free inside in
    let other_is : other ≡ get_or second place Free =
    c.index-second-place-then-not-is_free.is ∙ get_or_default second place other Free c.requires in
    c.set.ensures
    ∙ ap (λ x. slice_set first place x) (c.in_ok-joined.ensures ∙ ap (λ x. both_claim x other) own_is
    ∙ ap (λ x. both_claim (get_or first place Free) x) other_is)
    ∙ joined_set start second first place Free c.requires so_far inside

pub returns-else-not-is_free : goal.returns-else-not-is_free
returns-else-not-is_free c start so_far =
    let first = c.args.first.now in
    let second = c.args.second.now in
    let place = c.args.place in
    let other = c.index-second-place.result in
    let own = get_or first place Free in
    let other_is : other ≡ get_or second place Free =
    c.index-second-place.is ∙ get_or_default second place other Free c.requires in
    joined_kept start second first place Free c.requires so_far (omega (arith, c.if-place-len.true, c.len.ensures))
    (subst (λ x. both_claim own x ≡ own) other_is (c.is_free.ensures c.if-not-is_free.false own))

pub returns-in_ok-push : goal.returns-in_ok-push
returns-in_ok-push c start so_far =
    let first = c.args.first.now in
    let second = c.args.second.now in
    let place = c.args.place in
    let other = c.index-second-place-else-place-len.result in
    let other_is : other ≡ get_or second place Free =
    c.index-second-place-else-place-len.is ∙ get_or_default second place other Free c.requires in
    c.in_ok-push.ensures.ok
    ∙ ap (λ x. first ++ x ∷ []) (c.in_ok-copied_claim.ensures ∙ other_is)
    ∙ joined_push start second first place Free c.requires so_far (omega (arith, c.if-place-len.false, c.len.ensures))
