use Rattle.std.proofs.Common.{List, subst, sym, ◌∙◌, ap}
use Rattle.qc_bodies.specs.declared.sizes.Form.{Form}
use Rattle.qc_bodies.specs.Meanings.{meanings}
use Rattle.qc_bodies.specs.Plains.{plain_of}
use Rattle.qc_bodies.specs.Sizes.{AreForms, sizes, stopped}
use Rattle.qc_bodies.specs.Trees.{core_of}
use Rattle.qc_instances.specs.Instances.{bodies_of, instance_meanings}
use Rattle.qc_instances.proofs.Anyhow.{closed_anyhow}
use Rattle.qc_instances.proofs.instances.Instances.size_of.Goals as goal

pub returns-clause-size : goal.returns-clause-size
returns-clause-size c =
    let bodies = bodies_of c.args.declared.now in
    let self = c.plain.new.self in
    let uses = instance_meanings sizes (meanings sizes bodies) self.table.made in
    let P : List Form → Type 0 = λ l. AreForms l uses in
    c.size_with.ensures
    ∙ (sym (c.in_ok-form.ensures uses (subst P (sym c.as_slice.ensures) c.in_ok-plain.ensures.are.forms) c.args.params.now)
    ∙ ap stopped (closed_anyhow sizes bodies self.table.made c.args.site.now (core_of c.args.tree.now) (plain_of c.in_ok-plain.plain) c.in_ok-plain.ensures.plain c.args.params.now))
