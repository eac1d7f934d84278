use Rattle.std.proofs.Common.{[], map, sym, ◌∙◌, ap, arith}
use Rattle.std.proofs.lemmas.Result.{IfOk-weaker}
use Rattle.qc_bodies.specs.Meanings.{fun_of, operated}
use Rattle.qc_bodies.specs.Plains.{plain_of, plain-absent, plain-operate}
use Rattle.qc_bodies.specs.Written.{written}
use Rattle.qc_instances.specs.Instances.{instance_meaning, instance_meanings}
use Rattle.qc_instances.specs.Inner.Closing.{plainly}
use Rattle.qc_instances.proofs.Closed.{used_alone, used_nowhere, value_each}
use Rattle.qc_instances.proofs.closing.apply.Goals as goal

pub returns-in-Nowhere-clause-plain : goal.returns-in-Nowhere-clause-plain
returns-in-Nowhere-clause-plain c = λ z ms count es.
    let made = c.args.place.now.table.now.made in
    ap (plainly ms made es) (plain-absent c.args.token)
    ∙ ap (λ x. fun_of written ms [] x c.args.token (map (plainly ms made es) (map plain_of c.args.args))) (sym c.in-Nowhere.is)

pub returns-in-Operator-clause-plain : goal.returns-in-Operator-clause-plain
returns-in-Operator-clause-plain c = λ z ms count es.
    let made = c.args.place.now.table.now.made in
    ap (plainly ms made es) (plain-operate c.args.token c.in-Operator.op c.args.args)
    ∙ (ap (operated written c.args.token c.in-Operator.op) (value_each written (instance_meanings written ms made) [] es (map plain_of c.args.args))
    ∙ ap (λ x. fun_of written ms [] x c.args.token (map (plainly ms made es) (map plain_of c.args.args))) (sym c.in-Operator.is))

pub returns-then-number-place-clause-plain : goal.returns-then-number-place-clause-plain
returns-then-number-place-clause-plain c =
    IfOk-weaker c.use_of.result _ _ (λ p h z ms count es.
    let made = c.args.place.now.table.now.made in
    let vs = map (plainly ms made es) (map plain_of c.args.args) in
    h z ms es
    ∙ (ap (λ l. (instance_meaning written ms (record { number = c.in-Declared.number; given = l })).value [] vs) c.new.ensures
    ∙ (used_alone written ms c.args.token c.in-Declared.number (omega (arith, c.if-number-place.true, count)) vs
    ∙ ap (λ x. fun_of written ms [] x c.args.token vs) (sym c.in-Declared.is))))
    c.use_of.ensures.plain

pub returns-else-number-place-clause-plain : goal.returns-else-number-place-clause-plain
returns-else-number-place-clause-plain c = λ z ms count es.
    let made = c.args.place.now.table.now.made in
    let vs = map (plainly ms made es) (map plain_of c.args.args) in
    ap (plainly ms made es) (plain-absent c.args.token)
    ∙ (used_nowhere written ms c.args.token c.in-Declared.number (omega (arith, c.if-number-place.false, count)) vs
    ∙ ap (λ x. fun_of written ms [] x c.args.token vs) (sym c.in-Declared.is))

pub returns-in-Given-clause-plain : goal.returns-in-Given-clause-plain
returns-in-Given-clause-plain c = λ z ms count es.
    let made = c.args.place.now.table.now.made in
    ap (plainly ms made es) (plain-absent c.args.token)
    ∙ ap (λ x. fun_of written ms [] x c.args.token (map (plainly ms made es) (map plain_of c.args.args))) (sym c.in-Given.is)
