use Rattle.std.proofs.Common.{◌≡◌, ◌++◌, ◌∷◌, [], List, ℕ, length, map, take, slice_get, None, sym, ◌∙◌, ap, subst}
use Rattle.std.specs.Option.{option_copied}
use Rattle.std.proofs.lemmas.Result.{on_ok_weaker}
use Rattle.qc_bodies.specs.declared.expand.Task.{Task}
use Rattle.qc_bodies.specs.declared.expand.Task.TheVariants as tasks
use Rattle.qc_bodies.specs.Trees.{Core, one, Leaf, Absent, Wrap}
use Rattle.qc_bodies.specs.Meanings.{operated}
use Rattle.qc_bodies.specs.Nodes.{IsAt}
use Rattle.qc_bodies.specs.Normals.{at_places, normal_of, normal-leaf, normal-absent, normal-param, normal-wrap, normal-operate, normal-use}
use Rattle.qc_bodies.specs.Written.{written}
use Rattle.qc_bodies.specs.Inner.Expanding.{Leads, Only, Parameters, out, out_in, written_functions}
use Rattle.qc_bodies.proofs.Expanding.{function_out, no_function_out, no_parameter_out, out_several, out_use, parameter_out}
use Rattle.qc_bodies.proofs.Leading.{args_first, inside_is, one_found, one_there, part_first, two_tasks}
use Rattle.qc_bodies.proofs.Tasks.{on_both, popped, scope_there}
use Rattle.qc_bodies.proofs.expand.Writer.one.Goals as goal

pub returns-in_default-clause-leads : goal.returns-in_default-clause-leads
returns-in_default-clause-leads c = λ e h.
    let self = c.args.self.now in
    let a = popped (written_functions self.normals.now) h.settings self.todo (tasks.One c.args.scope c.args.body) (Only e) h.found h.ends in
    let there = scope_there c.args.nodes.now self.scopes h.settings c.args.scope a.setting h.fit a.is in
    let none : slice_get self.scopes c.args.scope ≡ None =
    ap (λ l. slice_get l c.args.scope) (sym c.as_slice.ensures) ∙ (sym c.at.ensures ∙ ap option_copied c.in_default.is) in
    absurd (cc (none, there.1))

pub returns-in-Leaf-clause-leads : goal.returns-in-Leaf-clause-leads
returns-in-Leaf-clause-leads c =
    on_both _ _ _ c.add_found.result c.add_found.ensures.found c.add_found.ensures.keeps (λ found keeps e h.
    let self = c.args.self.now in
    let ms = written_functions self.normals.now in
    one_found self.normals.now self.scopes self.todo self.done.items c.args.nodes.now e c.args.scope c.args.body h
    c.add_found.new.nodes keeps c.add_found.new.done.items (Leaf c.in-Leaf.token c.in-Leaf.leaf c.in-Leaf.width)
    (λ s is. sym (ap (out_in ms s) (ap normal_of c.in-Leaf.is ∙ normal-leaf c.in-Leaf.token c.in-Leaf.leaf c.in-Leaf.width))) found)

pub returns-in-Absent-clause-leads : goal.returns-in-Absent-clause-leads
returns-in-Absent-clause-leads c =
    let add = c.add_found-in-Absent in
    on_both _ _ _ add.result add.ensures.found add.ensures.keeps (λ found keeps e h.
    let self = c.args.self.now in
    let ms = written_functions self.normals.now in
    one_found self.normals.now self.scopes self.todo self.done.items c.args.nodes.now e c.args.scope c.args.body h
    add.new.nodes keeps add.new.done.items (Absent c.in-Absent.token)
    (λ s is. sym (ap (out_in ms s) (ap normal_of c.in-Absent.is ∙ normal-absent c.in-Absent.token))) found)

pub returns-in-Some-parameter-clause-leads : goal.returns-in-Some-parameter-clause-leads
returns-in-Some-parameter-clause-leads c =
    on_ok_weaker c.put.result (λ ok e h.
    let self = c.args.self.now in
    let ms = written_functions self.normals.now in
    let inside = c.in-Some.inside.now in
    let place = c.in-Some-parameter.place in
    let P : List ℕ → Type 0 = λ l. Leads self.normals.now self.scopes self.todo l c.args.nodes.now e in
    subst P (sym ok) (one_there self.normals.now self.scopes self.todo self.done.items c.args.nodes.now e c.args.scope c.args.body h place (λ s is.
    let fits = inside_is c.args.nodes.now self.scopes h.settings c.args.scope s h.fit is inside
    (ap (λ l. slice_get l c.args.scope) (sym c.as_slice.ensures) ∙ sym c.in-Some.ensures) in
    let Q : Core one → Type 0 = λ x. IsAt c.args.nodes.now place (out_in ms s x) in
    subst Q (sym (ap normal_of c.in-Param.is ∙ normal-param c.in-Param.number))
    (parameter_out (take s.level ms) c.args.nodes.now s.ranks inside.places s.stand c.in-Param.number place fits.places
    (ap (λ r. Parameters r inside.places c.in-Param.number) (sym fits.ranks) ∙ (sym c.parameter.ensures ∙ c.in-Some-parameter.is)))))) c.put.ensures

pub returns-in-None-clause-leads : goal.returns-in-None-clause-leads
returns-in-None-clause-leads c =
    let add = c.add_found-in-None in
    on_both _ _ _ add.result add.ensures.found add.ensures.keeps (λ found keeps e h.
    let self = c.args.self.now in
    let ms = written_functions self.normals.now in
    let inside = c.in-Some.inside.now in
    one_found self.normals.now self.scopes self.todo self.done.items c.args.nodes.now e c.args.scope c.args.body h
    add.new.nodes keeps add.new.done.items (Absent 0) (λ s is.
    let fits = inside_is c.args.nodes.now self.scopes h.settings c.args.scope s h.fit is inside
    (ap (λ l. slice_get l c.args.scope) (sym c.as_slice.ensures) ∙ sym c.in-Some.ensures) in
    sym (ap (out_in ms s) (ap normal_of c.in-Param.is ∙ normal-param c.in-Param.number)
    ∙ no_parameter_out (take s.level ms) c.args.nodes.now s.ranks inside.places s.stand c.in-Param.number fits.places
    (ap (λ r. Parameters r inside.places c.in-Param.number) (sym fits.ranks) ∙ (sym c.parameter.ensures ∙ c.in-None.is)))) found)

pub returns-in_ok-push-in-Wrap-clause-leads : goal.returns-in_ok-push-in-Wrap-clause-leads
returns-in_ok-push-in-Wrap-clause-leads c =
    on_ok_weaker c.push-in-Wrap.result (λ ok e h.
    let self = c.args.self.now in
    let ms = written_functions self.normals.now in
    let token = c.in-Wrap.token in
    let wrap = c.in-Wrap.wrap in
    let width = c.in-Wrap.width in
    let part = c.get.result in
    let P : List Task → Type 0 = λ l. Leads self.normals.now self.scopes l self.done.items c.args.nodes.now e in
    subst P (sym (ok ∙ ap (λ l. l ++ tasks.One c.args.scope part ∷ []) c.in_ok-push-in-Wrap.ensures.ok))
    (two_tasks self.normals.now self.scopes self.todo self.done.items c.args.nodes.now e c.args.scope c.args.body h
    (tasks.Wrap token wrap width) (tasks.One c.args.scope part) (λ s is Q q.
    part_first ms h.settings c.args.scope s is part token wrap width h.found (out_in ms s (normal_of c.args.body.now))
    (ap (out_in ms s) (ap normal_of c.in-Wrap.is ∙ normal-wrap token wrap width c.in-Wrap.part)
    ∙ ap (λ x. Wrap token wrap width (out_in ms s (normal_of x))) (sym c.get.ensures)) Q q))) c.push-in-Wrap.ensures.ok

pub returns-in_ok-push-in-Operate-clause-leads : goal.returns-in_ok-push-in-Operate-clause-leads
returns-in_ok-push-in-Operate-clause-leads c =
    on_ok_weaker c.push-in-Operate-2.result (λ ok e h.
    let self = c.args.self.now in
    let ms = written_functions self.normals.now in
    let token = c.in-Operate.token in
    let op = c.in-Operate.op in
    let args = c.as_slice-in-Operate.result in
    let P : List Task → Type 0 = λ l. Leads self.normals.now self.scopes l self.done.items c.args.nodes.now e in
    subst P (sym (ok ∙ ap (λ l. l ++ tasks.All c.args.scope args 0 ∷ []) c.in_ok-push-in-Operate.ensures.ok))
    (two_tasks self.normals.now self.scopes self.todo self.done.items c.args.nodes.now e c.args.scope c.args.body h
    (tasks.Operate token op c.len.result) (tasks.All c.args.scope args 0) (λ s is Q q.
    args_first ms h.settings c.args.scope s is args c.len.result (ap length c.as_slice-in-Operate.ensures ∙ sym c.len.ensures)
    (operated written token op) h.found (out_in ms s (normal_of c.args.body.now))
    (ap (out_in ms s) (ap normal_of c.in-Operate.is ∙ normal-operate token op c.in-Operate.args)
    ∙ (ap (operated written token op) (out_several (take s.level ms) s.ranks s.stand (map normal_of c.in-Operate.args))
    ∙ ap (λ l. operated written token op (map (out_in ms s) (map normal_of l))) (sym c.as_slice-in-Operate.ensures))) Q q))) c.push-in-Operate-2.ensures.ok

pub returns-in_ok-push-in-Some-function-clause-leads : goal.returns-in_ok-push-in-Some-function-clause-leads
returns-in_ok-push-in-Some-function-clause-leads c =
    on_ok_weaker c.push-in-Some-function-2.result (λ ok e h.
    let self = c.args.self.now in
    let normals = self.normals.now in
    let ms = written_functions normals in
    let token = c.in-Use.token in
    let number = c.in-Use.number in
    let used = c.in-Some-function.function in
    let chosen = c.as_slice-in-Some-function.result in
    let args = c.as_slice-in-Some-function-2.result in
    let count = c.len-in-Some-function.result in
    let make : List (Core one) → Core one = λ ps. out (take number ms) used.now.ranks (at_places ps chosen.now) (normal_of used.now.body) in
    let P : List Task → Type 0 = λ l. Leads normals self.scopes l self.done.items c.args.nodes.now e in
    subst P (sym (ok ∙ ap (λ l. l ++ tasks.All c.args.scope args 0 ∷ []) c.in_ok-push-in-Some-function.ensures.ok))
    (two_tasks normals self.scopes self.todo self.done.items c.args.nodes.now e c.args.scope c.args.body h
    (tasks.Enter number used chosen count) (tasks.All c.args.scope args 0) (λ s is Q q.
    let fits = inside_is c.args.nodes.now self.scopes h.settings c.args.scope s h.fit is c.in-Some.inside.now
    (ap (λ l. slice_get l c.args.scope) (sym c.as_slice.ensures) ∙ sym c.in-Some.ensures) in
    let outs = map (out_in ms s) (map normal_of c.in-Use.args) in
    let law = function_out normals s.level number token (at_places outs c.in-Use.chosen) used.now
    (ap (λ l. slice_get (take l normals.functions) number) (sym fits.level) ∙ sym c.in-Some-function.ensures) in
    args_first ms h.settings c.args.scope s is args count (ap length c.as_slice-in-Some-function-2.ensures ∙ sym c.len-in-Some-function.ensures)
    make h.found (out_in ms s (normal_of c.args.body.now))
    (ap (out_in ms s) (ap normal_of c.in-Use.is ∙ normal-use token number c.in-Use.args c.in-Use.chosen)
    ∙ (out_use (take s.level ms) s.ranks s.stand token number (map normal_of c.in-Use.args) c.in-Use.chosen
    ∙ (law.1
    ∙ (ap (λ l. out (take number ms) used.now.ranks (at_places outs l) (normal_of used.now.body)) (sym c.as_slice-in-Some-function.ensures)
    ∙ ap (λ l. make (map (out_in ms s) (map normal_of l))) (sym c.as_slice-in-Some-function-2.ensures))))) Q q))) c.push-in-Some-function-2.ensures.ok

pub returns-in-None-function-clause-leads : goal.returns-in-None-function-clause-leads
returns-in-None-function-clause-leads c =
    let add = c.add_found-in-None-function in
    on_both _ _ _ add.result add.ensures.found add.ensures.keeps (λ found keeps e h.
    let self = c.args.self.now in
    let normals = self.normals.now in
    let ms = written_functions normals in
    let token = c.in-Use.token in
    let number = c.in-Use.number in
    one_found normals self.scopes self.todo self.done.items c.args.nodes.now e c.args.scope c.args.body h
    add.new.nodes keeps add.new.done.items (Absent token) (λ s is.
    let fits = inside_is c.args.nodes.now self.scopes h.settings c.args.scope s h.fit is c.in-Some.inside.now
    (ap (λ l. slice_get l c.args.scope) (sym c.as_slice.ensures) ∙ sym c.in-Some.ensures) in
    sym (ap (out_in ms s) (ap normal_of c.in-Use.is ∙ normal-use token number c.in-Use.args c.in-Use.chosen)
    ∙ (out_use (take s.level ms) s.ranks s.stand token number (map normal_of c.in-Use.args) c.in-Use.chosen
    ∙ no_function_out normals s.level number token (at_places (map (out_in ms s) (map normal_of c.in-Use.args)) c.in-Use.chosen)
    (ap (λ l. slice_get (take l normals.functions) number) (sym fits.level) ∙ sym c.in-None-function.ensures)))) found)
