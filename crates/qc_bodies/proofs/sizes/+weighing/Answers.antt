use Rattle.std.proofs.Common.{◌≡◌, ◌*◌, [], length, slice_get, slice_index_or, OnOk, subst, sym, ◌∙◌, ap, arith}
use Rattle.std.specs.Option.{option_map}
use Rattle.std.proofs.lemmas.Result.{on_ok_weaker}
use Rattle.qc_bodies.specs.Meanings.{operands_of, value, value_or}
use Rattle.qc_bodies.specs.Trees.{Core, one}
use Rattle.qc_bodies.specs.Plains.{plain_of, plains_of, plain-leaf, plain-absent, plain-param, plain-wrap, plain-operate, plain-use}
use Rattle.qc_bodies.specs.Sizes.{size_at, sizes}
use Rattle.qc_bodies.specs.Inner.Weighing.{Grows}
use Rattle.qc_bodies.specs.Law.Several.{length_several, get_several}
use Rattle.qc_bodies.proofs.Weighing.{added_more, operated_size, stopped_factor, stopped_times, unfit_size, unused_size, used_size, weighed_more}
use Rattle.qc_bodies.proofs.sizes.+weighing.Goals as goal

pub weigh-returns-in-Param : goal.weigh-returns-in-Param
weigh-returns-in-Param t c =
    let P : Core one → Type 0 = λ b. OnOk c.count.result (Grows c.args.forms.now c.args.form.now c.count.new.self (λ ms ns. c.args.times * value sizes ms [] ns b)) in
    subst P (sym (ap plain_of c.in-Param.is ∙ plain-param c.in-Param.number))
    (on_ok_weaker c.count.result (λ h ms fits ns. h ns) c.count.ensures)

pub weigh-returns-in-Wrap : goal.weigh-returns-in-Wrap
weigh-returns-in-Wrap t c =
    let P : Core one → Type 0 = λ b. OnOk c.weigh.result (Grows c.args.forms.now c.args.form.now c.weigh.new.form (λ ms ns. c.args.times * value sizes ms [] ns b)) in
    subst P (sym (ap plain_of c.in-Wrap.is ∙ plain-wrap c.in-Wrap.token c.in-Wrap.wrap c.in-Wrap.width c.in-Wrap.part))
    (on_ok_weaker c.weigh.result (λ h ms fits ns. let g = rw c.get.ensures at h ms fits ns in omega (arith, g, c.add-in-Wrap.ensures ns)) c.weigh.ensures)

pub weigh-returns-then-operands-len : goal.weigh-returns-then-operands-len
weigh-returns-then-operands-len t c =
    let P : Core one → Type 0 = λ b. OnOk c.weigh_all.result (Grows c.args.forms.now c.args.form.now c.weigh_all.new.form (λ ms ns. c.args.times * value sizes ms [] ns b)) in
    subst P (sym (ap plain_of c.in-Operate.is ∙ plain-operate c.in-Operate.token c.in-Operate.op c.in-Operate.args))
    (on_ok_weaker c.weigh_all.result (λ h ms fits ns.
    let g = rw c.as_slice.ensures at h ms fits ns in
    let count = length_several sizes ms [] ns plain_of c.in-Operate.args in
    let fit : operands_of c.in-Operate.op ≡ length (value sizes ms [] ns (plains_of c.in-Operate.args)) = omega (arith, count, c.operands.ensures, c.len.ensures, c.if-operands-len.true) in
    let e = ap (λ x. c.args.times * x) (operated_size c.in-Operate.token c.in-Operate.op (value sizes ms [] ns (plains_of c.in-Operate.args)) fit) in
    omega (arith, g, e, c.add-in-Operate.ensures ns)) c.weigh_all.ensures)

pub weigh-returns-else-operands-len : goal.weigh-returns-else-operands-len
weigh-returns-else-operands-len t c =
    let P : Core one → Type 0 = λ b. Grows c.args.forms.now c.args.form.now c.add-in-Operate.new.self (λ ms ns. c.args.times * value sizes ms [] ns b) in
    subst P (sym (ap plain_of c.in-Operate.is ∙ plain-operate c.in-Operate.token c.in-Operate.op c.in-Operate.args))
    (λ ms fits ns.
    let count = length_several sizes ms [] ns plain_of c.in-Operate.args in
    let unfit : operands_of c.in-Operate.op ≡ length (value sizes ms [] ns (plains_of c.in-Operate.args)) → ⊥ = λ same. c.if-operands-len.false (omega (arith, same, count, c.operands.ensures, c.len.ensures)) in
    let e = ap (λ x. c.args.times * x) (unfit_size c.in-Operate.token c.in-Operate.op (value sizes ms [] ns (plains_of c.in-Operate.args)) unfit) in
    omega (arith, e, c.add-in-Operate.ensures ns))

pub weigh-returns-in-Some : goal.weigh-returns-in-Some
weigh-returns-in-Some t c =
    let P : Core one → Type 0 = λ b. OnOk c.weigh_each.result (Grows c.args.forms.now c.args.form.now c.weigh_each.new.form (λ ms ns. c.args.times * value sizes ms [] ns b)) in
    subst P (sym (ap plain_of c.in-Use.is ∙ plain-use c.in-Use.token c.in-Use.number c.in-Use.args))
    (on_ok_weaker c.weigh_each.result (λ h ms fits ns.
    let g = rw (c.as_slice-in-Some.ensures, c.as_slice-in-Some-2.ensures) at h ms fits ns in
    let u = used_size c.args.forms.now ms fits c.in-Use.token c.in-Use.number (value sizes ms [] ns (plains_of c.in-Use.args)) c.in-Some.used.now (sym c.in-Some.ensures) in
    let f = stopped_factor (size_at c.args.form.now ns) c.args.times _ _ u in
    omega (arith, g, f, c.product.ensures, c.add-in-Some.ensures ns)) c.weigh_each.ensures)

pub weigh-returns-in-None : goal.weigh-returns-in-None
weigh-returns-in-None t c =
    let P : Core one → Type 0 = λ b. Grows c.args.forms.now c.args.form.now c.add-in-None.new.self (λ ms ns. c.args.times * value sizes ms [] ns b) in
    subst P (sym (ap plain_of c.in-Use.is ∙ plain-use c.in-Use.token c.in-Use.number c.in-Use.args))
    (λ ms fits ns.
    let e = ap (λ x. c.args.times * x) (unused_size c.args.forms.now ms fits c.in-Use.token c.in-Use.number (value sizes ms [] ns (plains_of c.in-Use.args)) (sym c.in-None.ensures)) in
    omega (arith, e, c.add-in-None.ensures ns))

pub weigh-returns-in-Leaf : goal.weigh-returns-in-Leaf
weigh-returns-in-Leaf t c =
    let P : Core one → Type 0 = λ b. Grows c.args.forms.now c.args.form.now c.add.new.self (λ ms ns. c.args.times * value sizes ms [] ns b) in
    subst P (sym (ap plain_of c.in-Leaf.is ∙ plain-leaf c.in-Leaf.token c.in-Leaf.leaf c.in-Leaf.width))
    (λ ms fits ns. omega (arith, c.add.ensures ns))

pub weigh-returns-in-Absent : goal.weigh-returns-in-Absent
weigh-returns-in-Absent t c =
    let P : Core one → Type 0 = λ b. Grows c.args.forms.now c.args.form.now c.add-in-Absent.new.self (λ ms ns. c.args.times * value sizes ms [] ns b) in
    subst P (sym (ap plain_of c.in-Absent.is ∙ plain-absent c.in-Absent.token))
    (λ ms fits ns. omega (arith, c.add-in-Absent.ensures ns))

pub weigh_all-loop-arg-preserved : goal.weigh_all-loop-arg-preserved
weigh_all-loop-arg-preserved t c = λ ms fits ns.
    let i = c.loop-arg.invariant ms fits ns in
    let h = c.in_ok-weigh.ensures ms fits ns in
    let m = ap (λ x. c.args.times * x) (added_more ms ns c.args.args.now c.loop-arg.arg-index c.arg-item.result c.loop-arg-test.true c.arg-item.is) in
    omega (arith, i, h, m)

pub weigh_each-loop-place-preserved : goal.weigh_each-loop-place-preserved
weigh_each-loop-place-preserved t c = λ ms fits ns.
    let vs = value sizes ms [] ns (plains_of c.args.args.now) in
    let i = c.loop-place.invariant ms fits ns in
    let h = c.in_ok-weigh_at.ensures ms fits ns in
    let m = ap (λ x. c.args.times * x) (weighed_more c.args.counts.now vs c.loop-place.place c.loop-place-test.true) in
    let s = stopped_times (size_at c.loop-place.form ns) (c.args.times * slice_index_or c.args.counts.now c.loop-place.place 0) (value_or 1 (slice_get vs c.loop-place.place)) in
    let p = ap (λ x. x * value_or 1 (slice_get vs c.loop-place.place)) c.product.ensures in
    omega (arith, i, h, m, s, p)

pub weigh_at-returns-else-times-eq0 : goal.weigh_at-returns-else-times-eq0
weigh_at-returns-else-times-eq0 t c =
    on_ok_weaker c.weigh.result (λ h ms fits ns.
    let e = ap (value_or 1) (get_several sizes ms [] ns plain_of c.args.args.now c.args.place ∙ ap (option_map (λ x. value sizes ms [] ns (plain_of x))) (sym c.in-Some.ensures)) in
    let f = ap (λ x. c.args.times * x) e in
    omega (arith, h ms fits ns, f)) c.weigh.ensures

pub weigh_at-returns-in-None : goal.weigh_at-returns-in-None
weigh_at-returns-in-None t c = λ ms fits ns.
    let e = ap (value_or 1) (get_several sizes ms [] ns plain_of c.args.args.now c.args.place ∙ ap (option_map (λ x. value sizes ms [] ns (plain_of x))) (sym c.in-None.ensures)) in
    let f = ap (λ x. c.args.times * x) e in
    omega (arith, c.add.ensures ns, f)
