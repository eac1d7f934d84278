use Rattle.std.proofs.Common.{subst}
use Rattle.std.proofs.lemmas.Result.{IfOk-weaker}
use Rattle.qc_bodies.specs.Meanings.{meanings}
use Rattle.qc_bodies.specs.Nodes.{IsAt}
use Rattle.qc_bodies.specs.Trees.{Core, one}
use Rattle.qc_bodies.specs.Written.{written}
use Rattle.qc_instances.specs.Instances.{bodies_of, instance_meanings}
use Rattle.qc_instances.proofs.instances.Instances.write_out.Goals as goal

pub returns-clause-place : goal.returns-clause-place
returns-clause-place c =
    IfOk-weaker c.write_out.result _ _ (λ p h es z.
    let uses = instance_meanings written (meanings written (bodies_of c.args.declared.now)) c.plain.new.self.table.made in
    let P : Core one → Type 0 = λ e. IsAt c.write_out.new.nodes p e in
    subst P (c.in_ok-plain.ensures.plain es) (h uses c.in_ok-plain.ensures.are.functions es z)) c.write_out.ensures.place
