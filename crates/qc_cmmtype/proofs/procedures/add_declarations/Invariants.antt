use Rattle.std.proofs.Common.{◌≡◌, drop}
use Rattle.std.specs.List.{flat_map, fold}
use Rattle.qc_cmmtype.specs.Scopes as scopes
use Rattle.qc_cmmtype.specs.Inner.Locals.{added}
use Rattle.qc_cmmtype.specs.Tables.{globals_at}
use Rattle.qc_cmmtype.proofs.procedures.add_declarations.Given as goal

-- what is left leads to the whole
abbrev pub invariant-loop-declaration : goal.invariant-loop-declaration
invariant-loop-declaration l =
    fold (added (globals_at l.globals)) l.locals
    (flat_map scopes.locals_of_declaration (drop l.declaration-index l.declarations))
    ≡ fold (added (globals_at l.globals)) l.initial.locals (flat_map scopes.locals_of_declaration l.declarations)
