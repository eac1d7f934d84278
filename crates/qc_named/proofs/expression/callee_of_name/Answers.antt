use Rattle.std.proofs.Common.{ℕ, Option, sym, ap, ◌∙◌}
use Rattle.qc_facts.specs.Facts as known
use Rattle.qc_resolve.specs.Scopes.{Signature}
use Rattle.qc_named.specs.Inner.Scopes.{standing_at}
use Rattle.qc_named.specs.Resolved as spec
use Rattle.qc_named.specs.Standing.{Standing}
use Rattle.qc_named.specs.Standing as stands
use Rattle.qc_named.proofs.expression.callee_of_name.Goals as goal

pub returns-in-Some-operator_named : goal.returns-in-Some-operator_named
returns-in-Some-operator_named c =
    let standing : Standing = standing_at c.args.scope.now.names in
    let s : Option (ℕ × Signature) = stands.placed_in standing c.args.name.now.text in
    c.callee_of_operator.ensures s
    ∙ ap (λ o. spec.callee_of_operator c.args.arity o s)
    (sym c.in-Some-operator_named.is ∙ c.operator_named.ensures ∙ ap known.operator_named c.as_slice-in-None.ensures)
    ∙ ap (λ o. spec.callee_of_own c.args.arity o (known.operator_named c.args.name.now.text) s)
    (sym c.in-None.is ∙ c.own_in.ensures ∙ ap (stands.own_in standing) c.as_slice.ensures)
