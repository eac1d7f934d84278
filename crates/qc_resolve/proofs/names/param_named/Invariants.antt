use Rattle.std.proofs.Common.{◌≡◌, drop, List, ℕ}
use Rattle.qc_facts.specs.declared.facts.Local.{Local}
use Rattle.qc_facts.specs.Facts.{named}
use Rattle.qc_resolve.specs.Declarations.{locals_of_params}
use Rattle.qc_resolve.proofs.names.param_named.Given as goal

abbrev pub invariant-loop-param : goal.invariant-loop-param
invariant-loop-param l =
    named {A = List ℕ × Local} (λ p. p.0) (locals_of_params (drop l.param-index l.params)) l.name
    ≡ named {A = List ℕ × Local} (λ p. p.0) (locals_of_params l.params) l.name
