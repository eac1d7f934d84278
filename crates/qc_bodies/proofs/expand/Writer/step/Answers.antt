use Rattle.std.proofs.Common.{◌++◌, ◌∷◌, [], subst}
use Rattle.qc_bodies.specs.declared.expand.Task.{Task}
use Rattle.qc_bodies.specs.declared.expand.Task.TheVariants as tasks
use Rattle.qc_bodies.specs.Trees.{Wrap}
use Rattle.qc_bodies.specs.Meanings.{operated}
use Rattle.qc_bodies.specs.Nodes.{placed}
use Rattle.qc_bodies.specs.Written.{written}
use Rattle.qc_bodies.specs.Inner.Expanding.{Leads, Only, written_functions}
use Rattle.qc_bodies.proofs.Leading.{one_made}
use Rattle.qc_bodies.proofs.Tasks.{on_both, popped}
use Rattle.qc_bodies.proofs.expand.Writer.step.Goals as goal

pub returns-in-Wrap-clause-leads : goal.returns-in-Wrap-clause-leads
returns-in-Wrap-clause-leads c =
    on_both _ _ _ c.add_over.result c.add_over.ensures.found c.add_over.ensures.keeps (λ found keeps e h.
    let self = c.args.self.now in
    let t = tasks.Wrap c.in-Wrap.token c.in-Wrap.wrap c.in-Wrap.width in
    let P : Task → Type 0 = λ x. Leads self.normals.now self.scopes (self.todo ++ x ∷ []) self.done.items c.args.nodes.now e in
    let k = subst P c.in-Wrap.is h in
    one_made self.normals.now self.scopes self.todo self.done.items c.args.nodes.now e t k 1
    (λ ps. Wrap c.in-Wrap.token c.in-Wrap.wrap c.in-Wrap.width (placed ps 0))
    (popped (written_functions self.normals.now) k.settings self.todo t (Only e) k.found k.ends)
    c.add_over.new.nodes keeps c.add_over.new.done.items found)

pub returns-in-Operate-clause-leads : goal.returns-in-Operate-clause-leads
returns-in-Operate-clause-leads c =
    on_both _ _ _ c.operate_over.result c.operate_over.ensures.found c.operate_over.ensures.keeps (λ found keeps e h.
    let self = c.args.self.now in
    let t = tasks.Operate c.in-Operate.token c.in-Operate.op c.in-Operate.count in
    let P : Task → Type 0 = λ x. Leads self.normals.now self.scopes (self.todo ++ x ∷ []) self.done.items c.args.nodes.now e in
    let k = subst P c.in-Operate.is h in
    one_made self.normals.now self.scopes self.todo self.done.items c.args.nodes.now e t k c.in-Operate.count
    (operated written c.in-Operate.token c.in-Operate.op)
    (popped (written_functions self.normals.now) k.settings self.todo t (Only e) k.found k.ends)
    c.operate_over.new.nodes keeps c.operate_over.new.done.items found)
