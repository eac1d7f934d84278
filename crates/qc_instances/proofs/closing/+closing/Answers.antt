use Rattle.std.proofs.Common.{[], map, take, slice_get, sym, ◌∙◌, ap, arith}
use Rattle.qc_bodies.specs.Trees.{Wrap, core_of, cores_of, core-leaf, core-absent, core-param, core-wrap, core-operate, core-use, core-apply}
use Rattle.qc_bodies.specs.Meanings.{fun_of, nowhere, operated, used, value, value_or}
use Rattle.qc_bodies.specs.Plains.{plain_of, plain-leaf, plain-absent, plain-param, plain-wrap, plain-operate}
use Rattle.qc_bodies.specs.Written.{written}
use Rattle.qc_instances.specs.Instances.{closed, funs_of, instance_meaning, instance_meanings}
use Rattle.qc_instances.specs.Inner.Closing.{inside, plainly}
use Rattle.qc_instances.proofs.Closed.{used_closed, used_past, given_fun, value_each}
use Rattle.qc_instances.proofs.Lists.{both_ok}
use Rattle.qc_instances.proofs.closing.+closing.Goals as goal

pub plain_in-returns-in-Leaf-clause-plain : goal.plain_in-returns-in-Leaf-clause-plain
plain_in-returns-in-Leaf-clause-plain t c = λ z ms count level es.
    let place = c.args.place.now in
    ap (plainly ms place.table.now.made es) (plain-leaf c.in-Leaf.token c.in-Leaf.leaf c.in-Leaf.width)
    ∙ ap (inside place ms es) (sym (ap core_of c.in-Leaf.is ∙ core-leaf c.in-Leaf.token c.in-Leaf.leaf c.in-Leaf.width))

pub plain_in-returns-in-Absent-clause-plain : goal.plain_in-returns-in-Absent-clause-plain
plain_in-returns-in-Absent-clause-plain t c = λ z ms count level es.
    let place = c.args.place.now in
    ap (plainly ms place.table.now.made es) (plain-absent c.in-Absent.token)
    ∙ ap (inside place ms es) (sym (ap core_of c.in-Absent.is ∙ core-absent c.in-Absent.token))

pub plain_in-returns-in-Param-clause-plain : goal.plain_in-returns-in-Param-clause-plain
plain_in-returns-in-Param-clause-plain t c = λ z ms count level es.
    let place = c.args.place.now in
    ap (plainly ms place.table.now.made es) (plain-param c.in-Param.number)
    ∙ ap (inside place ms es) (sym (ap core_of c.in-Param.is ∙ core-param c.in-Param.number))

pub plain_in-returns-in_ok-part-in-Wrap-2-clause-plain : goal.plain_in-returns-in_ok-part-in-Wrap-2-clause-plain
plain_in-returns-in_ok-part-in-Wrap-2-clause-plain t c = λ z ms count level es.
    let place = c.args.place.now in
    ap (plainly ms place.table.now.made es) (plain-wrap c.in-Wrap.token c.in-Wrap.wrap c.in-Wrap.width c.in_ok-part-in-Wrap-2.part)
    ∙ (ap (Wrap c.in-Wrap.token c.in-Wrap.wrap c.in-Wrap.width)
    (ap (λ x. plainly ms place.table.now.made es (plain_of x)) c.in_ok-part-in-Wrap-2.ensures
    ∙ (c.in_ok-part-in-Wrap.ensures.plain z ms count level es ∙ ap (λ x. inside place ms es (core_of x)) c.get.ensures))
    ∙ ap (inside place ms es) (sym (ap core_of c.in-Wrap.is ∙ core-wrap c.in-Wrap.token c.in-Wrap.wrap c.in-Wrap.width c.in-Wrap.part)))

pub plain_in-returns-in_ok-args-in-Operate-clause-plain : goal.plain_in-returns-in_ok-args-in-Operate-clause-plain
plain_in-returns-in_ok-args-in-Operate-clause-plain t c = λ z ms count level es.
    let place = c.args.place.now in
    let insts = instance_meanings written ms place.table.now.made in
    ap (plainly ms place.table.now.made es) (plain-operate c.in-Operate.token c.in-Operate.op c.in_ok-args-in-Operate.args)
    ∙ (ap (operated written c.in-Operate.token c.in-Operate.op)
    (value_each written insts [] es (map plain_of c.in_ok-args-in-Operate.args)
    ∙ ((c.in_ok-args-in-Operate.ensures.plains z ms count level es ∙ ap (λ l. map (inside place ms es) (map core_of l)) c.as_slice.ensures)
    ∙ sym (value_each written (take place.level ms) (funs_of written ms place.given.now) es (map core_of c.in-Operate.args))))
    ∙ ap (inside place ms es) (sym (ap core_of c.in-Operate.is ∙ core-operate c.in-Operate.token c.in-Operate.op c.in-Operate.args)))

pub plain_in-returns-in_ok-given-in-Use-clause-plain : goal.plain_in-returns-in_ok-given-in-Use-clause-plain
plain_in-returns-in_ok-given-in-Use-clause-plain t c =
    both_ok _ _ _ c.use_of.result c.use_of.ensures.plain c.use_of.ensures.before (λ p h before z ms count level es.
    let place = c.args.place.now in
    let callees = c.in-Use.callees in
    let token = c.in-Use.token in
    let number = c.in-Use.number in
    let fs = map (fun_of written (take place.level ms) (funs_of written ms place.given.now)) callees in
    let outs = map (plainly ms place.table.now.made es) (map plain_of c.in_ok-args-in-Use.args) in
    h z ms es
    ∙ (ap (λ l. (instance_meaning written ms (record { number = number; given = l })).value [] outs)
    (c.in_ok-given-in-Use.ensures ∙ ap (map (closed place.level place.given.now)) c.as_slice-then-number-place.ensures)
    ∙ (used_closed written ms place.level place.given.now callees token number c.if-number-place.true (omega arith) outs
    ∙ (ap (used written token (slice_get (take place.level ms) number) fs)
    ((c.in_ok-args-in-Use.ensures.plains (before z) ms count level es ∙ ap (λ l. map (inside place ms es) (map core_of l)) c.as_slice-in-Use.ensures)
    ∙ sym (value_each written (take place.level ms) (funs_of written ms place.given.now) es (map core_of c.in-Use.args)))
    ∙ ap (inside place ms es) (sym (ap core_of c.in-Use.is ∙ core-use token number callees c.in-Use.args))))))

pub plain_in-returns-else-number-place-clause-plain : goal.plain_in-returns-else-number-place-clause-plain
plain_in-returns-else-number-place-clause-plain t c = λ z ms count level es.
    let place = c.args.place.now in
    let callees = c.in-Use.callees in
    let token = c.in-Use.token in
    let number = c.in-Use.number in
    let fs = map (fun_of written (take place.level ms) (funs_of written ms place.given.now)) callees in
    ap (plainly ms place.table.now.made es) (plain-absent token)
    ∙ (used_past written ms place.level token number fs (value written (take place.level ms) (funs_of written ms place.given.now) es (cores_of c.in-Use.args)) c.if-number-place.false
    ∙ ap (inside place ms es) (sym (ap core_of c.in-Use.is ∙ core-use token number callees c.in-Use.args)))

pub plain_in-returns-in_ok-args-in-Apply-clause-plain : goal.plain_in-returns-in_ok-args-in-Apply-clause-plain
plain_in-returns-in_ok-args-in-Apply-clause-plain t c =
    both_ok _ _ _ c.apply.result c.apply.ensures.plain c.apply.ensures.before (λ p h before z ms count level es.
    let place = c.args.place.now in
    let token = c.in-Apply.token in
    let number = c.in-Apply.number in
    let outs = map (plainly ms place.table.now.made es) (map plain_of c.in_ok-args-in-Apply.args) in
    let gs = funs_of written ms place.given.now in
    h z ms count es
    ∙ (ap (λ x. fun_of written ms [] x token outs) c.given_at-callee.ensures
    ∙ (ap (λ f. f token outs) (given_fun written ms place.given.now number)
    ∙ (ap (value_or (nowhere written) (slice_get gs number) token)
    ((c.in_ok-args-in-Apply.ensures.plains (before z) ms count level es ∙ ap (λ l. map (inside place ms es) (map core_of l)) c.as_slice-in-Apply.ensures)
    ∙ sym (value_each written (take place.level ms) gs es (map core_of c.in-Apply.args)))
    ∙ ap (inside place ms es) (sym (ap core_of c.in-Apply.is ∙ core-apply token number c.in-Apply.args))))))
