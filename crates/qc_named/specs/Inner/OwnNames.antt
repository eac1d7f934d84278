-- Parameters while their names are entered in a table.
use Rattle.std.specs.Prelude.{ℕ, ◌≡◌, List, [], ◌∷◌}
use Rattle.qc_lrtl.specs.declared.syntax.Param.{Param}
use Rattle.qc_names.specs.ValueTables.{IsTableOf}
use Rattle.qc_resolve.specs.Declarations.{arity_of}
use Rattle.qc_named.specs.declared.bodies.OwnNames.{OwnNames}
use Rattle.qc_named.specs.Standing.{own_params, values_after, functions_after}

-- how many values, and how many functions, there are after these parameters
abbrev pub values_past : ℕ → List Param → ℕ
values_past values [] = values
values_past values (p ∷ params) = values_past (values_after values (arity_of p)) params

abbrev pub functions_past : ℕ → List Param → ℕ
functions_past functions [] = functions
functions_past functions (p ∷ params) = functions_past (functions_after functions (arity_of p)) params

pub record AreOwn (params : List Param) (found : OwnNames) : Type 0 where
  pub table : IsTableOf (own_params params) found.own.values found.own.numbers
  pub values : found.values ≡ values_past 0 params
  pub functions : found.functions ≡ functions_past 0 params
