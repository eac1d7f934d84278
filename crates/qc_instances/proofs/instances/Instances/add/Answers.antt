use Rattle.std.proofs.Common.{◌∷◌, [], List, subst, sym, ◌∙◌, ap}
use Rattle.std.proofs.lemmas.List.{map-append}
use Rattle.std.proofs.lemmas.Result.{on_ok_weaker}
use Rattle.qc_bodies.specs.declared.sizes.Form.{Form}
use Rattle.qc_bodies.specs.Law.Related.{related_append}
use Rattle.qc_bodies.specs.Meanings.{Meaning, meanings}
use Rattle.qc_bodies.specs.Shapes.{AreFunctions}
use Rattle.qc_bodies.specs.Sizes.{AreForms, IsForm, sizes, stopped}
use Rattle.qc_bodies.specs.Trees.{Core, one}
use Rattle.qc_bodies.specs.Plains.{plain_of}
use Rattle.qc_bodies.specs.Written.{written}
use Rattle.qc_instances.specs.Instances.{instance_meaning, instance_meanings}
use Rattle.qc_instances.proofs.Anyhow.{body_anyhow}
use Rattle.qc_instances.proofs.instances.Instances.add.Goals as goal

pub returns : goal.returns
returns c =
    on_ok_weaker c.add.result (λ more bodies are is.
    let self = c.args.self.now in
    let made = self.table.made in
    let instance = c.args.instance in
    let ms = meanings written bodies in
    let ns = meanings sizes bodies in
    let P : List (Meaning (Core one)) → Type 0 = AreFunctions c.declare.new.self in
    let Q : List Form → Type 0 = λ l. AreForms l (instance_meanings sizes ns made) in
    let form : IsForm c.in_ok-form.form (instance_meaning sizes ns instance) = λ vs.
    ap stopped (body_anyhow sizes bodies made instance (plain_of c.args.body.now) is vs)
    ∙ c.in_ok-form.ensures (instance_meanings sizes ns made) (subst Q (sym c.as_slice.ensures) are.forms) vs in
    record {
      functions = subst P (sym (ap (instance_meanings written ms) more ∙ map-append (instance_meaning written ms) made (instance ∷ [])))
          (c.in_ok-declare.ensures (instance_meanings written ms made) are.functions (instance_meaning written ms instance) (λ es. sym (is es)));
      forms = rw (c.in_ok-push.ensures.ok, more, map-append)
          (related_append IsForm self.forms (instance_meanings sizes ns made) (c.in_ok-form.form ∷ []) (instance_meaning sizes ns instance ∷ []) are.forms (form, tt));
    }) c.add.ensures
