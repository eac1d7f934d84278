-- The parameters and variables of a procedure, as they are declared one after the other.
use Rattle.std.specs.Prelude.{ℕ, ◌≡◌, ◌||◌, List, [], ◌∷◌, ◌++◌, length, is_some, None}
use Rattle.qc_grammar.specs.declared.cursor.Ident.{Ident}
use Rattle.qc_cmm.specs.declared.syntax.Param.{Param}
use Rattle.qc_names.specs.Reported.{twice_if}
use Rattle.qc_names.specs.Tables.{number_at, entered}
use Rattle.qc_names.specs.ValueTables.{IsTableOf}
use Rattle.qc_cmmtype.specs.declared.faults.ProgramFault.TheVariants.{TwiceNamed}
use Rattle.qc_cmmtype.specs.declared.procedures.Locals.{Locals}
use Rattle.qc_cmmtype.specs.Faults.{reported, reported_of_both}
use Rattle.qc_cmmtype.specs.Types.{width_of_type}
use Rattle.qc_cmmtype.specs.Scopes.{Globals, is_global, named_widths}
use Rattle.qc_cmmtype.specs.Procedures.{local_faults}

-- before any is declared
abbrev pub no_locals : Locals
no_locals = record { variables = record { values = []; numbers = [] }; fault = None }

-- after one more
unfoldable pub added : Globals → Locals → Ident × ℕ → Locals
added g s l = record {
  variables = record {
    values = s.variables.values ++ l.1 ∷ [];
    numbers = entered s.variables.numbers l.0.text (length s.variables.values);
  };
  fault = reported_of_both s.fault (reported
      (twice_if TwiceNamed (is_global g l.0.text || is_some (number_at s.variables.numbers l.0.text)) l.0.token));
}

abbrev pub local_of_param : Param → Ident × ℕ
local_of_param q = (q.name, width_of_type q.type_of)

-- What was declared is in the table, and the fault is that of what was declared twice.
pub record HasLocals (g : Globals) (locals : List (Ident × ℕ)) (s : Locals) : Type 0 where
  pub table : IsTableOf (named_widths locals) s.variables.values s.variables.numbers
  pub fault : s.fault ≡ reported (local_faults g [] locals)
