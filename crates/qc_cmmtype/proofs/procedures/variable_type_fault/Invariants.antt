use Rattle.std.proofs.Common.{◌≡◌, drop}
use Rattle.std.specs.List.{flat_map}
use Rattle.qc_cmmtype.specs.Faults.{reported, reported_of_both}
use Rattle.qc_cmmtype.specs.Types.{type_faults}
use Rattle.qc_cmmtype.proofs.procedures.variable_type_fault.Given as goal

-- what is left leads to the whole
abbrev pub invariant-loop-declaration : goal.invariant-loop-declaration
invariant-loop-declaration l =
    reported_of_both l.found
    (reported (flat_map (λ d. type_faults l.word d.type_of) (drop l.declaration-index l.declarations)))
    ≡ reported (flat_map (λ d. type_faults l.word d.type_of) l.declarations)
