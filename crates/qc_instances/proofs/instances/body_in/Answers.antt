use Rattle.std.proofs.Common.{◌≡◌, length, Some, take, slice_get, sym, ◌∙◌, ap, arith}
use Rattle.std.proofs.lemmas.Result.{IfOk-weaker}
use Rattle.std.proofs.lemmas.Option.{slice_get_within}
use Rattle.qc_bodies.specs.declared.act.Body.TheVariants as code
use Rattle.qc_bodies.specs.Meanings.{meanings, value as value_of_core}
use Rattle.qc_bodies.specs.Plains.{plain-absent}
use Rattle.qc_bodies.specs.Trees.{core_of}
use Rattle.qc_bodies.specs.Written.{written}
use Rattle.qc_instances.specs.Instances.{bodies_of, funs_of}
use Rattle.qc_instances.specs.Inner.Closing.{plainly}
use Rattle.qc_instances.proofs.Closed.{effects_there, function_there, length_declared, nothing_there}
use Rattle.qc_instances.proofs.instances.body_in.Goals as goal

pub returns-in-Some-Function : goal.returns-in-Some-Function
returns-in-Some-Function c =
    IfOk-weaker c.plain_in.result _ _ (λ p h z es.
    let all = c.args.declared.now.bodies in
    let instance = c.args.instance.now in
    let ms = meanings written (bodies_of c.args.declared.now) in
    let value = c.in-Some-Function.value in
    let get : slice_get all instance.number ≡ Some (code.Function value) =
    ap (λ l. slice_get l instance.number) (sym c.as_slice.ensures) ∙ (sym c.in-Some-Function.ensures ∙ ap Some c.in-Some-Function.field-0-is) in
    let within = slice_get_within all instance.number (code.Function value) get in
    let count : length ms ≡ c.len.result = length_declared written all ∙ sym c.len.ensures in
    h z ms count (omega arith) es
    ∙ (ap (λ l. value_of_core written (take instance.number ms) (funs_of written ms l) es (core_of value)) c.as_slice-in-Some-Function.ensures
    ∙ function_there written all instance.number value get (funs_of written ms instance.given) es))
    c.plain_in.ensures.plain

pub returns-in-Some-Effects : goal.returns-in-Some-Effects
returns-in-Some-Effects c = λ z es.
    let all = c.args.declared.now.bodies in
    let instance = c.args.instance.now in
    let ms = meanings written (bodies_of c.args.declared.now) in
    let get : slice_get all instance.number ≡ Some (code.Effects c.in-Some-Effects.field-0-0) =
    ap (λ l. slice_get l instance.number) (sym c.as_slice.ensures) ∙ (sym c.in-Some-Effects.ensures ∙ ap Some c.in-Some-Effects.field-0-is) in
    ap (plainly ms c.args.table.now.made es) (plain-absent 0)
    ∙ effects_there written all instance.number c.in-Some-Effects.field-0-0 get (funs_of written ms instance.given) es

pub returns-in-None : goal.returns-in-None
returns-in-None c = λ z es.
    let all = c.args.declared.now.bodies in
    let instance = c.args.instance.now in
    let ms = meanings written (bodies_of c.args.declared.now) in
    ap (plainly ms c.args.table.now.made es) (plain-absent 0)
    ∙ nothing_there written all instance.number (ap (λ l. slice_get l instance.number) (sym c.as_slice.ensures) ∙ sym c.in-None.ensures)
    (funs_of written ms instance.given) es
