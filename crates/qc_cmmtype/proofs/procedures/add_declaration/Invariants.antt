use Rattle.std.proofs.Common.{◌≡◌, drop, map}
use Rattle.std.specs.List.{fold}
use Rattle.qc_cmmtype.specs.Types.{width_of_type}
use Rattle.qc_cmmtype.specs.Scopes as scopes
use Rattle.qc_cmmtype.specs.Inner.Locals.{added}
use Rattle.qc_cmmtype.specs.Tables.{globals_at}
use Rattle.qc_cmmtype.proofs.procedures.add_declaration.Given as goal

-- what is left leads to the whole
abbrev pub invariant-loop-name : goal.invariant-loop-name
invariant-loop-name l =
    fold (added (globals_at l.globals)) l.locals
    (map (λ n. (n, width_of_type l.declaration.type_of)) (drop l.name-index l.declaration.names))
    ≡ fold (added (globals_at l.globals)) l.initial.locals (scopes.locals_of_declaration l.declaration)
