use Rattle.std.proofs.Common.{◌++◌, ◌∷◌, [], ◌-◌, List, ℕ, length, take, subst, sym, ◌∙◌, ap}
use Rattle.std.specs.List.{AllZip}
use Rattle.std.proofs.lemmas.Result.{on_ok_weaker}
use Rattle.qc_bodies.specs.Meanings.{operated}
use Rattle.qc_bodies.specs.Nodes.{IsAt}
use Rattle.qc_bodies.specs.Written.{written}
use Rattle.qc_bodies.proofs.Placed.{keep_all, places_push}
use Rattle.qc_bodies.proofs.Tasks.{split_last}
use Rattle.qc_bodies.proofs.expand.operate_over.Goals as goal

pub returns-clause-found : goal.returns-clause-found
returns-clause-found c =
    on_ok_weaker c.put.result (λ ok us ps are count.
    let old = c.args.nodes.now in
    let new = c.operate.new.nodes in
    let base = length c.args.done.now.items - c.args.count in
    let halves = split_last (IsAt old) c.args.done.now.items us ps c.args.count count are in
    let A : List ℕ → Type 0 = λ l. AllZip (IsAt old) l ps in
    let node = c.in_ok-place.ensures.place ps (subst A (sym (c.as_slice.ensures.value ∙ c.in_ok-args.ensures.last)) halves.1) in
    let rest = keep_all old new c.in_ok-place.ensures.keeps (take base c.args.done.now.items) us halves.0 in
    let P : List ℕ → Type 0 = λ l. AllZip (IsAt new) l (us ++ operated written c.args.token c.args.op ps ∷ []) in
    subst P (sym (ok ∙ ap (λ l. l ++ c.in_ok-place.place ∷ []) c.in_ok-args.ensures.rest)) (places_push new _ us c.in_ok-place.place _ rest node)) c.put.ensures
