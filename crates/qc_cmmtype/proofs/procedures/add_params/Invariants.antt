use Rattle.std.proofs.Common.{◌≡◌, drop, map}
use Rattle.std.specs.List.{fold}
use Rattle.qc_cmmtype.specs.Inner.Locals.{added, local_of_param}
use Rattle.qc_cmmtype.specs.Tables.{globals_at}
use Rattle.qc_cmmtype.proofs.procedures.add_params.Given as goal

-- what is left leads to the whole
abbrev pub invariant-loop-param : goal.invariant-loop-param
invariant-loop-param l =
    fold (added (globals_at l.globals)) l.locals (map local_of_param (drop l.param-index l.params))
    ≡ fold (added (globals_at l.globals)) l.initial.locals (map local_of_param l.params)
