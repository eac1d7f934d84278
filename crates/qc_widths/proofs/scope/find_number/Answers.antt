use Rattle.std.proofs.Common.{ap, sym, ◌∙◌, ◌≡◌, ◌<◌, arith, rules, Some}
use Rattle.qc_facts.specs.Facts.{facts_of_operand}
use Rattle.qc_resolve.specs.Scopes as scopes
use Rattle.qc_resolve.specs.Scopes.{local_bound}
use Rattle.qc_widths.proofs.Places.{got, placed_operand, unplaced_operand, placed_named, operand_name}
use Rattle.qc_widths.proofs.scope.find_number.Goals as goal

pub bounds-operands-place : goal.bounds-operands-place
bounds-operands-place c =
    let r = placed_named operand_name 0 c.in-Some.place c.args.operands.now c.args.name.now (sym c.find_operand.ensures ∙ c.in-Some.is) in
    omega (arith, r.at, r.within)

pub overflow_cast-result : goal.overflow_cast-result
overflow_cast-result c =
    let r = placed_named operand_name 0 c.in-Some.place c.args.operands.now c.args.name.now (sym c.find_operand.ensures ∙ c.in-Some.is) in
    let h : c.in-Some.place < 8 = omega (arith, r.at, r.within, c.requires) in
    search rules

pub offset_bounds-operands-place : goal.offset_bounds-operands-place
offset_bounds-operands-place c =
    let r = placed_named operand_name 0 c.in-Some.place c.args.operands.now c.args.name.now (sym c.find_operand.ensures ∙ c.in-Some.is) in
    let h : c.in-Some.place < 8 = omega (arith, r.at, r.within, c.requires) in
    search rules

pub returns-in-None-clause-found : goal.returns-in-None-clause-found
returns-in-None-clause-found c = λ meanings.
    ap local_bound (unplaced_operand c.args.facts.now c.args.operands.now 0 c.args.name.now (sym c.find_operand.ensures ∙ c.in-None.is))

pub returns-in-Some-clause-found : goal.returns-in-Some-clause-found
returns-in-Some-clause-found c = λ meanings.
    let r = placed_operand c.args.facts.now c.args.operands.now 0 c.in-Some.place c.args.name.now (sym c.find_operand.ensures ∙ c.in-Some.is) in
    let place : c.in-Some.place ≡ r.index = omega (arith, r.at) in
    let item = got c.args.operands.now r.index c.in-Some.place c.index-operands-place.result r.item r.gets place in
    ap local_bound r.is ∙ ap (λ o. Some (scopes.operand c.in-Some.place (facts_of_operand c.args.facts.now o.kind))) (sym item)
    ∙ ap (λ f. Some (scopes.operand c.in-Some.place f)) (sym c.operand.ensures)
