use Rattle.std.proofs.Common.{◌++◌, ◌∷◌, [], List, sym, ◌∙◌, ap, subst}
use Rattle.std.proofs.lemmas.Result.{on_ok_weaker}
use Rattle.qc_bodies.specs.declared.expand.Task.{Task}
use Rattle.qc_bodies.specs.declared.expand.Task.TheVariants as tasks
use Rattle.qc_bodies.specs.Inner.Expanding.{Leads}
use Rattle.qc_bodies.proofs.Leading.{all_none, all_some}
use Rattle.qc_bodies.proofs.expand.Writer.all.Goals as goal

pub returns-in_ok-push-in-Some : goal.returns-in_ok-push-in-Some
returns-in_ok-push-in-Some c =
    on_ok_weaker c.push-in-Some.result (λ ok e h.
    let self = c.args.self.now in
    let P : List Task → Type 0 = λ l. Leads self.normals.now self.scopes l self.done.items c.args.nodes.now e in
    subst P (sym (ok ∙ ap (λ l. l ++ tasks.One c.args.scope c.in-Some.body ∷ []) c.in_ok-push-in-Some.ensures.ok))
    (all_some self.normals.now self.scopes self.todo self.done.items c.args.nodes.now e c.args.scope c.args.bodies c.args.next c.in-Some.body h (sym c.in-Some.ensures)))
    c.push-in-Some.ensures.ok

pub returns-in-None : goal.returns-in-None
returns-in-None c = λ e h.
    let self = c.args.self.now in
    all_none self.normals.now self.scopes self.todo self.done.items c.args.nodes.now e c.args.scope c.args.bodies c.args.next h (sym c.in-None.ensures)
