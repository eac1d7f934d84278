use Rattle.std.proofs.Common.{◌++◌, ◌∷◌, [], ◌-◌, List, ℕ, length, take, subst, sym, ◌∙◌, ap}
use Rattle.std.specs.List.{AllZip}
use Rattle.std.proofs.lemmas.Result.{on_ok_weaker}
use Rattle.qc_bodies.specs.Meanings.{value_or}
use Rattle.qc_bodies.specs.Nodes.{IsAt, placed}
use Rattle.qc_bodies.specs.Trees.{Core, one, Absent, Wrap}
use Rattle.qc_bodies.proofs.Placed.{keep_all, keeps_trans, places_push}
use Rattle.qc_bodies.proofs.Tasks.{split_last}
use Rattle.qc_bodies.proofs.expand.add_over.Goals as goal

pub returns-clause-found : goal.returns-clause-found
returns-clause-found c =
    on_ok_weaker c.put.result (λ ok us ps are count.
    let old = c.args.nodes.now in
    let mid = c.argument.new.nodes in
    let new = c.add.new.nodes in
    let base = length c.args.done.now.items - 1 in
    let halves = split_last (IsAt old) c.args.done.now.items us ps 1 count are in
    let A : List ℕ → Type 0 = λ l. AllZip (IsAt old) l ps in
    let part = c.in_ok-part.ensures.place ps (subst A (sym (c.as_slice.ensures.value ∙ c.in_ok-args.ensures.last)) halves.1) in
    let N : Core one → Type 0 = λ x. IsAt new c.in_ok-place.place (Wrap c.args.token c.args.wrap c.args.width x) in
    let node = subst N (ap (value_or (Absent 0)) part) c.in_ok-place.ensures.place in
    let rest = keep_all old new (keeps_trans old mid new c.in_ok-part.ensures.keeps c.in_ok-place.ensures.keeps) (take base c.args.done.now.items) us halves.0 in
    let P : List ℕ → Type 0 = λ l. AllZip (IsAt new) l (us ++ Wrap c.args.token c.args.wrap c.args.width (placed ps 0) ∷ []) in
    subst P (sym (ok ∙ ap (λ l. l ++ c.in_ok-place.place ∷ []) c.in_ok-args.ensures.rest)) (places_push new _ us c.in_ok-place.place _ rest node)) c.put.ensures
