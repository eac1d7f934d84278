use Rattle.std.proofs.Common.{ap, sym, subst, ◌∙◌, ◌≡◌, ◌<◌, arith, rules, length, Some}
use Rattle.qc_widths.specs.declared.scope.Bound.{Bound}
use Rattle.qc_widths.specs.Inner.KeptValues.{IsBound}
use Rattle.qc_resolve.specs.Scopes.{local_bound}
use Rattle.qc_facts.specs.Facts.{named}
use Rattle.qc_widths.proofs.Places.{got, placed_bound, unplaced_bound, placed_named, param_name, bound_name}
use Rattle.qc_widths.proofs.Using.{got_some}
use Rattle.qc_widths.proofs.scope.find_bound.Goals as goal

pub bounds-bounds-place : goal.bounds-bounds-place
bounds-bounds-place c =
    let r = placed_named param_name 0 c.in-Some.place c.args.params.now c.args.name.now (sym c.find_param.ensures ∙ c.in-Some.is) in
    omega (arith, r.at, r.within, c.requires)

pub offset_bounds-bounds-place : goal.offset_bounds-bounds-place
offset_bounds-bounds-place c =
    let r = placed_named param_name 0 c.in-Some.place c.args.params.now c.args.name.now (sym c.find_param.ensures ∙ c.in-Some.is) in
    let h : c.in-Some.place < length c.args.bounds.now = omega (arith, r.at, r.within, c.requires) in
    search rules

pub returns-in-None-clause-found : goal.returns-in-None-clause-found
returns-in-None-clause-found c = λ meanings locals are.
    ap (λ l. local_bound (named bound_name l c.args.name.now)) are.is
    ∙ ap local_bound (unplaced_bound c.args.params.now are.bounds 0 c.args.name.now (sym c.find_param.ensures ∙ c.in-None.is))

pub returns-in-Some-clause-found : goal.returns-in-Some-clause-found
returns-in-Some-clause-found c = λ meanings locals are.
    let r = placed_bound c.args.params.now are.bounds 0 c.in-Some.place c.args.name.now are.count (sym c.find_param.ensures ∙ c.in-Some.is) in
    let place : c.in-Some.place ≡ r.index = omega (arith, r.at) in
    let b = are.bound.each r.index r.within in
    let same : b.0 ≡ c.index-bounds-place.result =
    sym (c.index-bounds-place.is ∙ got c.args.bounds.now r.index c.in-Some.place c.index-bounds-place.result b.0 b.2 place) in
    record {
      spec = b.1;
      is = ap (λ l. local_bound (named bound_name l c.args.name.now)) are.is ∙ ap local_bound r.is ∙ (sym r.gets ∙ b.3);
      bound = let P : Bound → Type 0 = λ x. IsBound meanings x b.1 in subst P same b.4;
    }

pub returns-in-Some-clause-below : goal.returns-in-Some-clause-below
returns-in-Some-clause-below c = λ ceiling are.
    let r = placed_named param_name 0 c.in-Some.place c.args.params.now c.args.name.now (sym c.find_param.ensures ∙ c.in-Some.is) in
    are c.in-Some.place c.index-bounds-place.result
    (got_some c.args.bounds.now c.in-Some.place c.index-bounds-place.result (omega (arith, r.at, r.within, c.requires))
    ∙ ap Some (sym c.index-bounds-place.is))
