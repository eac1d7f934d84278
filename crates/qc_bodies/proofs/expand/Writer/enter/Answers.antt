use Rattle.std.proofs.Common.{refl}
use Rattle.std.proofs.lemmas.Result.{on_ok_weaker}
use Rattle.qc_bodies.specs.declared.expand.Scope.{Scope}
use Rattle.qc_bodies.proofs.Leading.{entered_as}
use Rattle.qc_bodies.proofs.expand.Writer.enter.Goals as goal

pub returns-clause-leads : goal.returns-clause-leads
returns-clause-leads c =
    on_ok_weaker c.push-2.result (λ ok e h.
    let self = c.args.self.now in
    let scope : Scope = record { level = c.args.number; ranks = c.as_slice.result; places = c.in_ok-places.places } in
    entered_as self.normals.now self.scopes self.todo self.done.items c.args.nodes.now e c.args.number c.args.function c.args.chosen c.args.count h
    c.choose_over.new.nodes c.in_ok-places.ensures.keeps c.choose_over.new.done.items scope _ refl c.as_slice.ensures refl c.in_ok-places.ensures.places
    c.push.new.self c.push-2.new.self c.len-scope.result c.in_ok-push.ensures.ok ok c.len-scope.ensures)
    c.push-2.ensures.ok
