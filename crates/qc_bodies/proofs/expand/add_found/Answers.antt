use Rattle.std.proofs.Common.{◌++◌, ◌∷◌, [], List, ℕ, subst, sym}
use Rattle.std.specs.List.{AllZip}
use Rattle.std.proofs.lemmas.Result.{on_ok_weaker}
use Rattle.qc_bodies.specs.Nodes.{IsAt, node_over, written_in}
use Rattle.qc_bodies.proofs.Placed.{places_push}
use Rattle.qc_bodies.proofs.expand.add_found.Goals as goal

pub returns-clause-found : goal.returns-clause-found
returns-clause-found c =
    on_ok_weaker c.put.result (λ ok es are.
    let new = c.add.new.nodes in
    let e = node_over (written_in c.args.nodes.now) c.args.node in
    let P : List ℕ → Type 0 = λ l. AllZip (IsAt new) l (es ++ e ∷ []) in
    subst P (sym ok) (places_push new c.args.done.now.items es c.in_ok-place.place e are c.in_ok-place.ensures.place)) c.put.ensures
