-- The faults of a procedure.
use Rattle.std.specs.Prelude.{ℕ, nat_eq, if◌then◌else◌, List, [], ◌∷◌, ◌++◌, codes, length, Bool, ◌||◌, Option, None, Some}
use Rattle.std.specs.List.{flat_map}
use Rattle.std.specs.Str.{bytes_eq}
use Rattle.qc_grammar.specs.declared.cursor.Ident.{Ident}
use Rattle.qc_cmm.specs.declared.syntax.Procedure.{Procedure}
use Rattle.qc_names.specs.Reported.{twice_if}
use Rattle.qc_names.specs.Tables.{is_among}
use Rattle.qc_names.specs.Seen.{second_names}
use Rattle.qc_cmmtype.specs.declared.faults.ProgramFault.{ProgramFault}
use Rattle.qc_cmmtype.specs.declared.faults.ProgramFault.TheVariants.{TwiceNamed, FallsOff}
use Rattle.qc_cmmtype.specs.Faults.{unless, arity}
use Rattle.qc_cmmtype.specs.Types.{type_faults}
use Rattle.qc_cmmtype.specs.Scopes.{Globals, locals_of, label_names, is_global, scope_in}
use Rattle.qc_cmmtype.specs.Endings.{first_return_in, body_ends}
use Rattle.qc_cmmtype.specs.Statements.{body_faults}

-- A parameter or variable has not the name of a procedure or of data, and none of those that stand before it.
abbrev pub local_faults : Globals → List (List ℕ) → List (Ident × ℕ) → List ProgramFault
local_faults globals before [] = []
local_faults globals before (l ∷ locals) =
    twice_if TwiceNamed (is_global globals l.0.text || is_among before l.0.text) l.0.token
    ++ local_faults globals (before ++ l.0.text ∷ []) locals

-- No label is declared twice in a procedure.
abbrev pub label_faults : Procedure → List ProgramFault
label_faults p = second_names TwiceNamed [] (label_names p)

-- the types of parameters and variables
abbrev pub declared_type_faults : ℕ → Procedure → List ProgramFault
declared_type_faults word p =
    flat_map (λ q. type_faults word q.type_of) p.params ++ flat_map (λ d. type_faults word d.type_of) p.variables

-- The procedure `main` has no parameters and, where it returns, one result.
abbrev pub main_result_faults : ℕ → Option ℕ → List ProgramFault
main_result_faults token None = []
main_result_faults token (Some results) = unless (nat_eq results 1) (arity token results 1)

abbrev pub is_main : Procedure → Bool
is_main p = bytes_eq p.name.text (codes "main")

abbrev pub main_faults : Procedure → List ProgramFault
main_faults p =
    if is_main p then
    unless (nat_eq (length p.params) 0) (arity p.name.token (length p.params) 0)
    ++ main_result_faults p.name.token (first_return_in p.body)
    else []

-- The body of a procedure ends.
abbrev pub end_faults : Procedure → List ProgramFault
end_faults p = unless (body_ends p.body) (FallsOff p.name.token)

unfoldable pub procedure_faults : Globals → Procedure → List ProgramFault
procedure_faults globals p =
    local_faults globals [] (locals_of p)
    ++ (label_faults p
    ++ (declared_type_faults globals.word p
    ++ (main_faults p ++ (end_faults p ++ body_faults (scope_in globals p) p.body))))
