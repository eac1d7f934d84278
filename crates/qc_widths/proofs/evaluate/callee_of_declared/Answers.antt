use Rattle.std.proofs.Common.{ap, sym, ◌∙◌, ◌≡◌, Some, slice_get, take}
use Rattle.qc_resolve.specs.Declarations.{meaning_of_function, meanings_in}
use Rattle.qc_widths.specs.Inner.KeptValues.{meanings_of}
use Rattle.qc_resolve.specs.Scopes.{Meaning, is_plain, meaning_in}
use Rattle.qc_widths.proofs.Declared.{function_means, no_function_at}
use Rattle.qc_widths.proofs.Using.{no_callee, unfit_callee, fit_callee, effects_not_plain}
use Rattle.qc_widths.proofs.evaluate.callee_of_declared.Goals as goal

pub returns-in-None-clause-function : goal.returns-in-None-clause-function
returns-in-None-clause-function c = λ spec is.
    no_callee (meanings_of c.args.scope.now) c.args.arity (meaning_in spec c.args.name.now.text)
    (c.in-None.ensures.means spec is)

pub returns-then-are_so_many-clause-function : goal.returns-then-are_so_many-clause-function
returns-then-are_so_many-clause-function c = λ spec is.
    let items = c.args.scope.now.items.now in
    let facts = c.args.scope.now.facts.now in
    let ms = meanings_in facts items in
    let number = c.in-Some.number in
    let m : Meaning = meaning_of_function facts (take number ms) c.in-Function.name c.in-Function.params c.in-Function.body in
    let gets : slice_get ms number ≡ Some m = function_means facts items number c.in-Some.item.now c.in-Function.token c.in-Function.name c.in-Function.params c.in-Function.body c.in-Some.ensures.found.is c.in-Function.is in
    let many : c.are_so_many.result ≡ is_plain m.signature c.args.arity = c.are_so_many.ensures ∙ ap (λ p. is_plain (meaning_of_function facts (take number ms) c.in-Function.name p c.in-Function.body).signature c.args.arity) c.as_slice.ensures in
    fit_callee ms c.args.arity (meaning_in spec c.args.name.now.text) m number (c.in-Some.ensures.means spec is ∙ gets) gets
    (sym many ∙ c.if-are_so_many.true)

pub returns-else-are_so_many-clause-function : goal.returns-else-are_so_many-clause-function
returns-else-are_so_many-clause-function c = λ spec is.
    let items = c.args.scope.now.items.now in
    let facts = c.args.scope.now.facts.now in
    let ms = meanings_in facts items in
    let number = c.in-Some.number in
    let m : Meaning = meaning_of_function facts (take number ms) c.in-Function.name c.in-Function.params c.in-Function.body in
    let gets : slice_get ms number ≡ Some m = function_means facts items number c.in-Some.item.now c.in-Function.token c.in-Function.name c.in-Function.params c.in-Function.body c.in-Some.ensures.found.is c.in-Function.is in
    let many : c.are_so_many.result ≡ is_plain m.signature c.args.arity = c.are_so_many.ensures ∙ ap (λ p. is_plain (meaning_of_function facts (take number ms) c.in-Function.name p c.in-Function.body).signature c.args.arity) c.as_slice.ensures in
    unfit_callee ms c.args.arity (meaning_in spec c.args.name.now.text) m (c.in-Some.ensures.means spec is ∙ gets)
    (sym many ∙ c.if-are_so_many.false)

pub returns-in_default-clause-function : goal.returns-in_default-clause-function
returns-in_default-clause-function c = λ spec is.
    let r = no_function_at c.args.scope.now.facts.now c.args.scope.now.items.now c.in-Some.number c.in-Some.item.now
    c.in-Some.ensures.found.is c.in_default.not-Function in
    unfit_callee (meanings_of c.args.scope.now) c.args.arity (meaning_in spec c.args.name.now.text) r.0
    (c.in-Some.ensures.means spec is ∙ r.1) (effects_not_plain r.0 c.args.arity r.2)
