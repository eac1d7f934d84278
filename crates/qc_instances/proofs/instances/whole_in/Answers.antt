use Rattle.std.proofs.Common.{◌≡◌, length, sym, ◌∙◌, arith}
use Rattle.std.proofs.lemmas.Result.{IfOk-weaker}
use Rattle.qc_bodies.specs.Meanings.{meanings}
use Rattle.qc_bodies.specs.Written.{written}
use Rattle.qc_instances.specs.Instances.{bodies_of}
use Rattle.qc_instances.proofs.Closed.{length_declared}
use Rattle.qc_instances.proofs.instances.whole_in.Goals as goal

pub returns : goal.returns
returns c =
    IfOk-weaker c.plain_in.result _ _ (λ p h z es.
    let bodies = bodies_of c.args.declared.now in
    let count : length (meanings written bodies) ≡ c.len.result = length_declared written c.args.declared.now.bodies ∙ sym c.len.ensures in
    h z (meanings written bodies) count (omega arith) es)
    c.plain_in.ensures.plain
