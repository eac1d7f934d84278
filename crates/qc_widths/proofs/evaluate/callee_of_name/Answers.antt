use Rattle.std.proofs.Common.{ap, sym, subst, ◌∙◌, ◌≡◌, ℕ, None, Some, List}
use Rattle.qc_widths.specs.Inner.KeptValues.{IsCallee, meanings_of}
use Rattle.qc_resolve.specs.Expressions.{function_of_bound, function_of_operator}
use Rattle.qc_resolve.specs.Scopes.{bound_in, meaning_in}
use Rattle.qc_facts.specs.Facts.{operator_named}
use Rattle.qc_facts.specs.Values as values
use Rattle.qc_widths.proofs.evaluate.callee_of_name.Goals as goal

pub returns-in-Some-clause-below : goal.returns-in-Some-clause-below
returns-in-Some-clause-below c = c.callee_of_operator.ensures.below c.args.scope.now.ceiling

pub returns-in-Some-clause-function : goal.returns-in-Some-clause-function
returns-in-Some-clause-function c = λ spec is.
    let name = c.args.name.now.text in
    let ms = meanings_of c.args.scope.now in
    let arity = c.args.arity in
    let none : bound_in spec name ≡ None = ap (λ n. bound_in spec n) (sym c.as_slice.ensures) ∙ c.in-Absent.ensures.found spec is in
    let op : operator_named name ≡ Some c.in-Some.op = ap (λ n. operator_named n) (sym c.as_slice-in-Absent.ensures) ∙ sym c.operator_named.ensures ∙ c.in-Some.is in
    let P : (ℕ → List values.Value → values.Value) → Type 0 = λ f. IsCallee ms arity c.callee_of_operator.result f in
    subst P (sym (ap (λ x. function_of_bound arity x (operator_named name) (meaning_in spec name)) none
    ∙ ap (λ x. function_of_operator arity x (meaning_in spec name)) op)) (c.callee_of_operator.ensures.function ms (meaning_in spec name))
