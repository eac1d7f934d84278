use Rattle.std.proofs.Common.{[], map, slice_get, ◌∙◌, ap}
use Rattle.qc_bodies.specs.Meanings.{used}
use Rattle.qc_bodies.specs.Plains.{plain_of, plain-use}
use Rattle.qc_bodies.specs.Written.{written}
use Rattle.qc_instances.specs.Instances.{instance_meanings}
use Rattle.qc_instances.specs.Inner.Closing.{plainly}
use Rattle.qc_instances.proofs.Closed.{used_instance, value_each}
use Rattle.qc_instances.proofs.closing.use_of.Goals as goal

pub returns-in-Some-clause-plain : goal.returns-in-Some-clause-plain
returns-in-Some-clause-plain c = λ z ms es.
    let made = c.args.table.now.made in
    let insts = instance_meanings written ms made in
    ap (plainly ms made es) (plain-use c.args.token c.in-Some.number c.args.args)
    ∙ (ap (used written c.args.token (slice_get insts c.in-Some.number) []) (value_each written insts [] es (map plain_of c.args.args))
    ∙ used_instance written ms made c.args.token c.in-Some.number c.args.instance c.in-Some.ensures (map (plainly ms made es) (map plain_of c.args.args)))
