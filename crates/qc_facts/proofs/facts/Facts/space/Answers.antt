use Rattle.std.specs.Prelude.{◌≡◌, ◌≤◌, ◌^◌, Some, None}
use Rattle.std.proofs.Common.{sym, ap, subst, ◌∙◌}
use Rattle.qc_facts.specs.Facts.{Facts, space_named}
use Rattle.qc_facts.specs.Law.Places.{table-some, table-none_at}
use Rattle.qc_facts.proofs.facts.Facts.space.Goals as goal

pub returns-in-None-clause-is : goal.returns-in-None-clause-is
returns-in-None-clause-is c =
    let inside : Facts = record { word = c.self.inside.word; spaces = c.self.inside.spaces } in
    sym (ap (λ f. space_named f c.args.name.now) (sym c.self.view_is)
    ∙ table-none_at inside c.self.inside.table c.args.name.now c.self.invariant c.in-None.ensures)

pub returns-in-None-get-clause-is : goal.returns-in-None-get-clause-is
returns-in-None-get-clause-is c =
    let inside : Facts = record { word = c.self.inside.word; spaces = c.self.inside.spaces } in
    let s = table-some inside c.self.inside.table c.args.name.now c.in-Some.place c.self.invariant c.in-Some.ensures in
    let none : None ≡ Some s.space = c.in-None-get.ensures.value ∙ s.at in
    cc

pub returns-in-Some-get-clause-is : goal.returns-in-Some-get-clause-is
returns-in-Some-get-clause-is c =
    let inside : Facts = record { word = c.self.inside.word; spaces = c.self.inside.spaces } in
    let s = table-some inside c.self.inside.table c.args.name.now c.in-Some.place c.self.invariant c.in-Some.ensures in
    let some : Some c.in-Some-get.facts.now ≡ Some s.space = c.in-Some-get.ensures.value ∙ s.at in
    let same : c.in-Some-get.facts.now ≡ s.space = cc in
    ap (λ x. Some (c.in-Some.place, x)) same ∙ sym s.is ∙ ap (λ f. space_named f c.args.name.now) c.self.view_is

pub returns-in-Some-get-clause-cells : goal.returns-in-Some-get-clause-cells
returns-in-Some-get-clause-cells c =
    let inside : Facts = record { word = c.self.inside.word; spaces = c.self.inside.spaces } in
    let s = table-some inside c.self.inside.table c.args.name.now c.in-Some.place c.self.invariant c.in-Some.ensures in
    let some : Some s.space ≡ Some c.in-Some-get.facts.now = sym (c.in-Some-get.ensures.value ∙ s.at) in
    let same : s.space ≡ c.in-Some-get.facts.now = cc in
    subst (λ x. x.cells ≤ 2 ^ 64) same s.small
