-- A loop over arguments, by the numbers of their parameters.
use Rattle.std.specs.Prelude.{ℕ, suc, ◌+◌, ◌≡◌, ◌<◌, List, ◌∷◌, ◌++◌, length, drop, slice_get, Option}
use Rattle.std.proofs.Common.{ap, sym, ◌∙◌, arith, get_or}
use Rattle.std.proofs.lemmas.List.{at_drop_more}
use Rattle.qc_cmm.specs.declared.syntax.Expr.{Expr}
use Rattle.qc_names.specs.Law.Reported as law
use Rattle.qc_cmmtype.specs.declared.faults.ProgramFault.{ProgramFault}
use Rattle.qc_cmmtype.specs.Faults.{token_of, rank_of, reported, reported_of_both}
use Rattle.qc_cmmtype.specs.Scopes.{Scope}
use Rattle.qc_cmmtype.specs.Expressions.{expression_faults}
use Rattle.qc_cmmtype.specs.Statements.{arguments_from}

pub arguments_more : (scope : Scope) (params : List ℕ) (args : List Expr) (i : ℕ) (x : Expr)
    (found new next whole : Option ProgramFault) → i < length args → x ≡ get_or args i x
    → new ≡ reported (expression_faults scope (slice_get params i) x) → next ≡ reported_of_both found new
    → reported_of_both found (reported (arguments_from scope params i (drop i args))) ≡ whole
    → reported_of_both next (reported (arguments_from scope params (i + 1) (drop (i + 1) args))) ≡ whole
arguments_more scope params args i x found new next whole within is by joined before =
    let own : List ProgramFault = expression_faults scope (slice_get params i) x in
    let rest : List ProgramFault = arguments_from scope params (i + 1) (drop (i + 1) args) in
    let number : suc i ≡ i + 1 = omega arith in
    let here : arguments_from scope params i (drop i args) ≡ own ++ rest =
    at_drop_more (arguments_from scope params i) args i x within
    ∙ ap (λ y. arguments_from scope params i (y ∷ drop (i + 1) args)) (sym is)
    ∙ ap (λ n. own ++ arguments_from scope params n (drop (i + 1) args)) number in
    ap (λ n. reported_of_both n (reported rest)) joined ∙ law.both_assoc token_of rank_of found new (reported rest)
    ∙ ap (reported_of_both found) (ap (λ n. reported_of_both n (reported rest)) by
    ∙ sym (law.reported-append token_of rank_of own rest) ∙ sym (ap reported here))
    ∙ before
