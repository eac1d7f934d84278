use Rattle.std.proofs.Common.{◌≡◌, true, false, cond, drop, map}
use Rattle.std.specs.List.{list_all}
use Rattle.std.specs.Prelude.{is_some}
use Rattle.qc_resolve.specs.Declarations.{arity_of}
use Rattle.qc_widths.proofs.evaluate.are_plain.Given as goal

-- it hangs on the rest
abbrev pub invariant-loop-param : goal.invariant-loop-param
invariant-loop-param l = list_all (λ p. cond (is_some p) false true) (map arity_of l.params)
    ≡ list_all (λ p. cond (is_some p) false true) (map arity_of (drop l.param-index l.params))
