use Rattle.std.proofs.Common.{List, OnOk, map, take, subst, sym, ◌∙◌, ap}
use Rattle.std.proofs.lemmas.Result.{on_ok_weaker}
use Rattle.qc_bodies.specs.declared.normal.Normal.{Normal}
use Rattle.qc_bodies.specs.Trees.{Core, one, several}
use Rattle.qc_bodies.specs.Normals.{normal_of, normals_of, normal-leaf, normal-absent, normal-param, normal-wrap, normal-operate, normal-use}
use Rattle.qc_bodies.specs.Inner.Marking.{Each, IsMarked, Marked}
use Rattle.qc_bodies.proofs.Marking.{each_chosen, each_mono, each_push}
use Rattle.qc_bodies.proofs.Placed.{map_more}
use Rattle.qc_bodies.proofs.marks.+marking.Goals as goal

pub mark-returns-in-Leaf : goal.mark-returns-in-Leaf
mark-returns-in-Leaf t c = record {
  are = c.requires;
  keeps = λ n h. h;
  holds = let P : Core one → Type 0 = λ e. Each (IsMarked c.args.marks.now) e in
      subst P (sym (ap normal_of c.in-Leaf.is ∙ normal-leaf c.in-Leaf.token c.in-Leaf.leaf c.in-Leaf.width)) tt;
}

pub mark-returns-in-Absent : goal.mark-returns-in-Absent
mark-returns-in-Absent t c = record {
  are = c.requires;
  keeps = λ n h. h;
  holds = let P : Core one → Type 0 = λ e. Each (IsMarked c.args.marks.now) e in
      subst P (sym (ap normal_of c.in-Absent.is ∙ normal-absent c.in-Absent.token)) tt;
}

pub mark-returns-in-Param : goal.mark-returns-in-Param
mark-returns-in-Param t c =
    let P : Core one → Type 0 = λ e. OnOk c.add.result (Marked c.args.marks.now c.add.new.self (Each (IsMarked c.add.new.self) e)) in
    subst P (sym (ap normal_of c.in-Param.is ∙ normal-param c.in-Param.number)) c.add.ensures

pub mark-returns-in-Wrap : goal.mark-returns-in-Wrap
mark-returns-in-Wrap t c =
    let P : Core one → Type 0 = λ e. OnOk c.mark.result (Marked c.args.marks.now c.mark.new.marks (Each (IsMarked c.mark.new.marks) e)) in
    let Q : Normal → Type 0 = λ e. OnOk c.mark.result (Marked c.args.marks.now c.mark.new.marks (Each (IsMarked c.mark.new.marks) (normal_of e))) in
    subst P (sym (ap normal_of c.in-Wrap.is ∙ normal-wrap c.in-Wrap.token c.in-Wrap.wrap c.in-Wrap.width c.in-Wrap.part))
    (subst Q c.get.ensures c.mark.ensures)

pub mark-returns-in-Operate : goal.mark-returns-in-Operate
mark-returns-in-Operate t c =
    let P : Core one → Type 0 = λ e. OnOk c.mark_all.result (Marked c.args.marks.now c.mark_all.new.marks (Each (IsMarked c.mark_all.new.marks) e)) in
    let Q : List Normal → Type 0 = λ l. OnOk c.mark_all.result (Marked c.args.marks.now c.mark_all.new.marks (Each (IsMarked c.mark_all.new.marks) (several (map normal_of l)))) in
    subst P (sym (ap normal_of c.in-Operate.is ∙ normal-operate c.in-Operate.token c.in-Operate.op c.in-Operate.args))
    (subst Q c.as_slice.ensures c.mark_all.ensures)

pub mark-returns-in-Use : goal.mark-returns-in-Use
mark-returns-in-Use t c =
    let P : Core one → Type 0 = λ e. OnOk c.mark_all-in-Use.result (Marked c.args.marks.now c.mark_all-in-Use.new.marks (Each (IsMarked c.mark_all-in-Use.new.marks) e)) in
    let Q : List Normal → Type 0 = λ l. OnOk c.mark_all-in-Use.result (Marked c.args.marks.now c.mark_all-in-Use.new.marks (Each (IsMarked c.mark_all-in-Use.new.marks) (several (map normal_of l)))) in
    subst P (sym (ap normal_of c.in-Use.is ∙ normal-use c.in-Use.token c.in-Use.number c.in-Use.args c.in-Use.chosen))
    (on_ok_weaker c.mark_all-in-Use.result (λ h. record {
      are = h.are;
      keeps = h.keeps;
      holds = each_chosen (IsMarked c.mark_all-in-Use.new.marks) (map normal_of c.in-Use.args) c.in-Use.chosen h.holds;
    }) (subst Q c.as_slice-in-Use.ensures c.mark_all-in-Use.ensures))

pub mark_all-loop-body-preserved : goal.mark_all-loop-body-preserved
mark_all-loop-body-preserved t c = record {
  are = c.in_ok-mark.ensures.are;
  keeps = λ n h. c.in_ok-mark.ensures.keeps n (c.loop-body.invariant.keeps n h);
  holds =
      let before = each_mono (IsMarked c.loop-body.marks) (IsMarked c.mark.new.marks) c.in_ok-mark.ensures.keeps (normals_of (take c.loop-body.body-index c.args.bodies.now)) c.loop-body.invariant.holds in
      rw (map_more normal_of c.args.bodies.now c.loop-body.body-index c.body-item.result c.loop-body-test.true c.body-item.is)
      (each_push (IsMarked c.mark.new.marks) _ _ before c.in_ok-mark.ensures.holds);
}
