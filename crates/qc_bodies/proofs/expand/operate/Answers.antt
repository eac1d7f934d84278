use Rattle.std.proofs.Common.{IfOk, subst, sym, ◌∙◌}
use Rattle.qc_bodies.specs.Nodes.{IsAt}
use Rattle.qc_bodies.specs.Trees.{Core, one}
use Rattle.qc_bodies.specs.Law.Related.{related_length}
use Rattle.qc_bodies.proofs.Placed.{unfit}
use Rattle.qc_bodies.proofs.expand.operate.Goals as goal

pub returns-then-wanted-args-clause-place : goal.returns-then-wanted-args-clause-place
returns-then-wanted-args-clause-place c = λ es h.
    let P : Core one → Type 0 = λ e. IfOk c.add.result (λ place. IsAt c.add.new.nodes place e) in
    subst P (sym (unfit c.args.token c.args.op es
    (λ same. c.if-wanted-args.true (c.operands-wanted.ensures ∙ (same ∙ sym (related_length (IsAt c.args.nodes.now) c.args.args.now es h)))))) c.add.ensures.place
