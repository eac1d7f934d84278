use Rattle.std.proofs.Common.{◌≡◌, drop}
use Rattle.std.specs.List.{flat_map}
use Rattle.qc_cmmtype.specs.Faults.{reported, reported_of_both}
use Rattle.qc_cmmtype.specs.Statements as spec
use Rattle.qc_cmmtype.specs.Tables.{scope_at}
use Rattle.qc_cmmtype.proofs.statements.word_target_list_fault.Given as goal

-- the fault that was found, and what is reported of the rest
abbrev pub invariant-loop-target : goal.invariant-loop-target
invariant-loop-target l =
    reported_of_both l.found (reported (flat_map (spec.word_target_faults (scope_at l.scope)) (drop l.target-index l.targets)))
    ≡ reported (flat_map (spec.word_target_faults (scope_at l.scope)) l.targets)
