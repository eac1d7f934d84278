use Rattle.std.proofs.Common.{◌≡◌, List, ℕ, length, subst, sym, ◌∙◌, ap}
use Rattle.std.specs.List.{AllZip}
use Rattle.std.proofs.lemmas.Result.{IfOk-weaker}
use Rattle.qc_bodies.specs.declared.expand.Scope.{Scope}
use Rattle.qc_bodies.specs.Nodes.{IsAt}
use Rattle.qc_bodies.specs.Law.Related.{related_length}
use Rattle.qc_bodies.proofs.Leading.{begun}
use Rattle.qc_bodies.proofs.Marking.{AreOwn}
use Rattle.qc_bodies.proofs.expand.write_out.Goals as goal

pub returns-clause-place : goal.returns-clause-place
returns-clause-place c =
    IfOk-weaker c.run.result _ _ (λ p h es z.
    let nodes = c.args.nodes.now in
    let scope : Scope = record { level = c.len.result; ranks = c.as_slice.result; places = c.in_ok-places.places } in
    let count : length c.as_slice.result.now ≡ length es =
    ap length c.as_slice.ensures ∙ (c.in_ok-ranks.ensures.count ∙ related_length (IsAt nodes) c.args.places.now es z) in
    let P : List ℕ → Type 0 = λ l. AllZip (IsAt nodes) l es in
    h _ (begun c.args.normals.now nodes scope c.args.body es c.len.ensures count (subst AreOwn (sym c.as_slice.ensures) c.in_ok-ranks.ensures.own)
    (subst P (sym c.in_ok-places.ensures) z) c.new.result c.push.new.self c.new-2.result c.push-2.new.self c.new-3.result.items
    c.new.ensures c.in_ok-push.ensures.ok c.new-2.ensures c.in_ok-push-2.ensures.ok c.new-3.ensures.items)) c.run.ensures.place
