use Rattle.std.proofs.Common.{◌≡◌, drop, cond, true, false}
use Rattle.std.specs.List.{list_all}
use Rattle.std.specs.Prelude.{is_some}
use Rattle.qc_named.proofs.standing.all_plain.Given as goal

abbrev pub invariant-loop-param : goal.invariant-loop-param
invariant-loop-param l =
    list_all (λ p. cond (is_some p) false true) (drop l.param-index l.params)
    ≡ list_all (λ p. cond (is_some p) false true) l.params
