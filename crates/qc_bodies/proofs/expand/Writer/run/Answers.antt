use Rattle.std.proofs.Common.{◌≡◌, ◌∷◌, [], List, ℕ, subst}
use Rattle.std.specs.List.{AllZip}
use Rattle.std.proofs.lemmas.Result.{IfOk-weaker}
use Rattle.qc_bodies.specs.declared.expand.Task.{Task}
use Rattle.qc_bodies.specs.Trees.{Core, one}
use Rattle.qc_bodies.specs.Nodes.{IsAt}
use Rattle.qc_bodies.specs.Inner.Expanding.{AfterAll, Only, written_functions}
use Rattle.qc_bodies.proofs.Tasks.{last_is}
use Rattle.qc_bodies.proofs.expand.Writer.run.Goals as goal

pub returns-in-None-clause-place : goal.returns-in-None-clause-place
returns-in-None-clause-place c =
    IfOk-weaker c.last_of.result _ _ (λ place ok e h.
    let self = c.loop-step.self in
    let nodes = c.loop-step.nodes in
    let g = c.loop-step.invariant.leads e h in
    let P : List Task → Type 0 = λ l. AfterAll (written_functions self.normals.now) g.settings l (Only e) g.found in
    let only : g.found ≡ e ∷ [] = subst P c.in-None.ensures.0 g.ends in
    let Q : List (Core one) → Type 0 = AllZip (IsAt nodes) self.done.items in
    let R : List ℕ → Type 0 = λ l. AllZip (IsAt nodes) l (e ∷ []) in
    last_is (IsAt nodes) c.last_of.new.done.items place e (subst R ok (subst Q only g.done))) c.last_of.ensures
