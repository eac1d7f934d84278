use Rattle.std.proofs.Common.{◌≡◌, drop}
use Rattle.std.specs.List.{flat_map}
use Rattle.qc_cmmtype.specs.Faults.{reported, reported_of_both}
use Rattle.qc_cmmtype.specs.Types.{type_faults}
use Rattle.qc_cmmtype.proofs.procedures.param_type_fault.Given as goal

-- what is left leads to the whole
abbrev pub invariant-loop-param : goal.invariant-loop-param
invariant-loop-param l =
    reported_of_both l.found (reported (flat_map (λ q. type_faults l.word q.type_of) (drop l.param-index l.params)))
    ≡ reported (flat_map (λ q. type_faults l.word q.type_of) l.params)
