use Rattle.std.proofs.Common.{◌≡◌, [], map, refl, sym, ◌∙◌, ap, arith}
use Rattle.std.proofs.lemmas.Result.{IfOk-weaker}
use Rattle.std.proofs.lemmas.List.{take_all}
use Rattle.qc_bodies.specs.Trees.{Wrap, Absent, Use, several}
use Rattle.std.proofs.lemmas.Option.{slice_get-map}
use Rattle.std.specs.Option.{option_map}
use Rattle.qc_bodies.specs.Meanings.{operated, value, value_or}
use Rattle.qc_bodies.specs.Nodes.{placed}
use Rattle.qc_bodies.specs.Normals.{at_places, normal_of, normal-leaf, normal-absent, normal-param, normal-wrap, normal-operate, normal-use}
use Rattle.qc_bodies.specs.Plains.{plain_of, plains_of, plain-leaf, plain-absent, plain-param, plain-wrap, plain-operate, plain-use}
use Rattle.qc_bodies.specs.Written.{written}
use Rattle.qc_bodies.proofs.Expanding.{out_places}
use Rattle.qc_bodies.proofs.Placed.{map_more, map_more_at}
use Rattle.qc_bodies.proofs.Reducing.{argument_shape, function_shape, map_push, placed_value, shaped, unshaped, use_of_function, value_all}
use Rattle.qc_bodies.proofs.shape.+normal.Goals as goal

pub normal-returns-in-Leaf : goal.normal-returns-in-Leaf
normal-returns-in-Leaf t c = λ own ms fits es.
    ap (value written own [] es) (normal-leaf c.in-Leaf.token c.in-Leaf.leaf c.in-Leaf.width)
    ∙ ap (value written ms [] es) (sym (ap plain_of c.in-Leaf.is ∙ plain-leaf c.in-Leaf.token c.in-Leaf.leaf c.in-Leaf.width))

pub normal-returns-in-Absent : goal.normal-returns-in-Absent
normal-returns-in-Absent t c = λ own ms fits es.
    ap (value written own [] es) (normal-absent c.in-Absent.token)
    ∙ ap (value written ms [] es) (sym (ap plain_of c.in-Absent.is ∙ plain-absent c.in-Absent.token))

pub normal-returns-in-Param : goal.normal-returns-in-Param
normal-returns-in-Param t c = λ own ms fits es.
    ap (value written own [] es) (normal-param c.in-Param.number)
    ∙ ap (value written ms [] es) (sym (ap plain_of c.in-Param.is ∙ plain-param c.in-Param.number))

pub normal-returns-in_ok-part-in-Wrap-2 : goal.normal-returns-in_ok-part-in-Wrap-2
normal-returns-in_ok-part-in-Wrap-2 t c = λ own ms fits es.
    ap (value written own [] es) (normal-wrap c.in-Wrap.token c.in-Wrap.wrap c.in-Wrap.width c.in_ok-part-in-Wrap-2.part)
    ∙ (ap (Wrap c.in-Wrap.token c.in-Wrap.wrap c.in-Wrap.width)
    (ap (λ x. value written own [] es (normal_of x)) c.in_ok-part-in-Wrap-2.ensures
    ∙ (c.in_ok-part-in-Wrap.ensures own ms fits es ∙ ap (λ x. value written ms [] es (plain_of x)) c.get.ensures))
    ∙ ap (value written ms [] es) (sym (ap plain_of c.in-Wrap.is ∙ plain-wrap c.in-Wrap.token c.in-Wrap.wrap c.in-Wrap.width c.in-Wrap.part)))

pub normal-returns-in_ok-args-in-Operate : goal.normal-returns-in_ok-args-in-Operate
normal-returns-in_ok-args-in-Operate t c = λ own ms fits es.
    ap (value written own [] es) (normal-operate c.in-Operate.token c.in-Operate.op c.in_ok-args-in-Operate.args)
    ∙ (ap (operated written c.in-Operate.token c.in-Operate.op)
    (value_all own es (map normal_of c.in_ok-args-in-Operate.args)
    ∙ ((c.in_ok-args-in-Operate.ensures own ms fits es ∙ ap (λ l. map (value written ms [] es) (map plain_of l)) c.as_slice.ensures)
    ∙ sym (value_all ms es (map plain_of c.in-Operate.args))))
    ∙ ap (value written ms [] es) (sym (ap plain_of c.in-Operate.is ∙ plain-operate c.in-Operate.token c.in-Operate.op c.in-Operate.args)))

pub normal-returns-in-None : goal.normal-returns-in-None
normal-returns-in-None t c = λ own ms fits es.
    ap (value written own [] es) (normal-absent c.in-Use.token)
    ∙ (sym (unshaped own c.args.shapes.now ms fits c.in-Use.token c.in-Use.number (value written ms [] es (plains_of c.in-Use.args)) (sym c.in-None.ensures))
    ∙ ap (value written ms [] es) (sym (ap plain_of c.in-Use.is ∙ plain-use c.in-Use.token c.in-Use.number c.in-Use.args)))

pub normal-returns-in-Some : goal.normal-returns-in-Some
normal-returns-in-Some t c =
    IfOk-weaker c.normal_use.result _ _ (λ e h own ms fits es.
    let s = shaped own c.args.shapes.now ms fits c.in-Use.token c.in-Use.number c.in-Some.shape.now (sym c.in-Some.ensures) in
    h own ms fits s.0 s.1 es
    ∙ ((ap (λ l. s.0.value [] (map (value written ms [] es) (map plain_of l))) c.as_slice-in-Some.ensures
    ∙ ap (s.0.value []) (sym (value_all ms es (map plain_of c.in-Use.args))))
    ∙ (sym (s.2 (value written ms [] es (plains_of c.in-Use.args)))
    ∙ ap (value written ms [] es) (sym (ap plain_of c.in-Use.is ∙ plain-use c.in-Use.token c.in-Use.number c.in-Use.args)))))
    c.normal_use.ensures

pub normal_use-returns-in-Argument : goal.normal_use-returns-in-Argument
normal_use-returns-in-Argument t c =
    IfOk-weaker c.normal_at.result _ _ (λ e h own ms fits m is es.
    h own ms fits es
    ∙ (placed_value ms es (map plain_of c.args.args.now) c.in-Argument.number
    ∙ sym (argument_shape own c.args.shape.now m is c.in-Argument.number c.in-Argument.is (map (value written ms [] es) (map plain_of c.args.args.now)))))
    c.normal_at.ensures

pub normal_use-returns-in_ok-chosen-in-Function : goal.normal_use-returns-in_ok-chosen-in-Function
normal_use-returns-in_ok-chosen-in-Function t c = λ own ms fits m is es.
    let number = c.in-Function.number in
    let needed = c.in-Function.needed in
    let chosen = c.in-Function.chosen in
    let args = c.in_ok-args-in-Function.args in
    let plains = map plain_of c.args.args.now in
    let vs = map (value written ms [] es) plains in
    let same : c.in_ok-chosen-in-Function.chosen ≡ chosen = c.in_ok-chosen-in-Function.ensures ∙ c.as_slice-in-Function.ensures in
    ap (value written own [] es) (normal-use c.args.token number args c.in_ok-chosen-in-Function.chosen
    ∙ ap (λ l. Use c.args.token number [] (several (at_places (map normal_of args) l))) same)
    ∙ use_of_function own c.args.token number needed chosen m (function_shape own c.args.shape.now m is number needed chosen c.in-Function.is)
    es (map normal_of args) vs
    (c.in_ok-args-in-Function.ensures own ms fits es ∙ (ap (λ l. map (value written ms [] es) (at_places plains l)) c.as_slice.ensures
    ∙ out_places (value written ms [] es) refl plains needed))

pub normal_at-returns-in-None : goal.normal_at-returns-in-None
normal_at-returns-in-None t c = λ own ms fits es.
    ap (value written own [] es) (normal-absent 0)
    ∙ ap (λ o. value written ms [] es (value_or (Absent 0) o)) (sym (slice_get-map plain_of c.args.args.now c.args.place ∙ ap (option_map plain_of) (sym c.in-None.ensures)))

pub normals-loop-body-preserved : goal.normals-loop-body-preserved
normals-loop-body-preserved t c = λ own ms fits es.
    rw (c.in_ok-push.ensures.ok, map_more plain_of c.args.bodies.now c.loop-body.body-index c.body-item.result c.loop-body-test.true c.body-item.is)
    (map_push (value written own [] es) (value written ms [] es) normal_of c.loop-body.es c.in_ok-e.e _ _ (c.loop-body.invariant own ms fits es) (c.in_ok-e.ensures own ms fits es))

pub normals-returns : goal.normals-returns
normals-returns t c = λ own ms fits es.
    c.loop-body.invariant own ms fits es
    ∙ ap (λ l. map (value written ms [] es) (map plain_of l)) (take_all c.loop-body.body-index c.args.bodies.now (omega arith))

pub needed_normals-loop-place-preserved : goal.needed_normals-loop-place-preserved
needed_normals-loop-place-preserved t c = λ own ms fits es.
    rw (c.in_ok-push.ensures.ok, map_more_at (placed (map plain_of c.args.args.now)) c.args.needed.now c.loop-place.place-index 0 c.loop-place-test.true)
    (map_push (value written own [] es) (value written ms [] es) normal_of c.loop-place.es c.in_ok-e.e _ _ (c.loop-place.invariant own ms fits es) (c.in_ok-e.ensures own ms fits es))

pub needed_normals-returns : goal.needed_normals-returns
needed_normals-returns t c = λ own ms fits es.
    c.loop-place.invariant own ms fits es
    ∙ ap (λ l. map (value written ms [] es) (at_places (map plain_of c.args.args.now) l)) (take_all c.loop-place.place-index c.args.needed.now (omega arith))
