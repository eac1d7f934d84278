-- What the tables of names say that a check looks names up in.
use Rattle.std.specs.Prelude.{ℕ, List, slice_get, is_some, Option, None, Some}
use Rattle.qc_names.specs.Tables.{number_at}
use Rattle.qc_cmmtype.specs.declared.scope.Globals as declared_globals
use Rattle.qc_cmmtype.specs.declared.scope.Scope as declared_scope
use Rattle.qc_cmmtype.specs.Scopes.{Globals, Scope}

-- the value of a number
abbrev pub value_of : {A : Type 0} → List A → Option ℕ → Option A
value_of values None = None
value_of values (Some number) = slice_get values number

-- what a table has for a name: the values, and the number of each name
abbrev pub looked_up : {A : Type 0} → List A → List (List ℕ × ℕ) → List ℕ → Option A
looked_up values numbers name = value_of values (number_at numbers name)

-- what the tables of a program say
abbrev pub globals_at : declared_globals.Globals → Globals
globals_at g = record {
  word = g.word;
  callee = looked_up g.procedures.values g.procedures.numbers;
  is_data = λ name. is_some (number_at g.data_names name);
}

-- what those of a procedure say
abbrev pub scope_at : declared_scope.Scope → Scope
scope_at s = record {
  globals = globals_at s.globals.now;
  variable = looked_up s.variables.now.values s.variables.now.numbers;
  is_label = λ name. is_some (number_at s.labels.now name);
  results = s.results;
}
