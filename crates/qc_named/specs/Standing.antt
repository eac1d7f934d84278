-- What names stand for in a body, without what that comes to.
use Rattle.std.specs.Prelude.{ℕ, suc, List, [], ◌∷◌, Option, None, Some}
use Rattle.qc_lrtl.specs.declared.syntax.Param.{Param}
use Rattle.qc_lrtl.specs.declared.syntax.Operand.{Operand}
use Rattle.qc_facts.specs.Facts.{Facts, facts_of_operand, named, placed_from}
use Rattle.qc_named.specs.declared.standing.Own.{Own}
use Rattle.qc_named.specs.declared.standing.Own.TheVariants as own
use Rattle.qc_resolve.specs.Scopes.{Signature, local_bound}
use Rattle.qc_resolve.specs.Declarations.{arity_of}

-- the names that a body may use: its own ones, and the functions and named effects before it
pub record Standing : Type 0 where
  pub facts : Facts
  pub own : List (List ℕ × Own)
  pub functions : List Signature

-- what a parameter is before which there are so many values and so many functions, and how many there are after it
abbrev pub own_of_arity : ℕ → ℕ → Option ℕ → Own
own_of_arity values functions None = own.Value values
own_of_arity values functions (Some arity) = own.Function functions arity

abbrev pub values_after : ℕ → Option ℕ → ℕ
values_after values None = suc values
values_after values (Some arity) = values

abbrev pub functions_after : ℕ → Option ℕ → ℕ
functions_after functions None = functions
functions_after functions (Some arity) = suc functions

abbrev pub own_params_from : ℕ → ℕ → List Param → List (List ℕ × Own)
own_params_from values functions [] = []
own_params_from values functions (p ∷ params) =
    (p.name.text, own_of_arity values functions (arity_of p))
    ∷ own_params_from (values_after values (arity_of p)) (functions_after functions (arity_of p)) params

abbrev pub own_params : List Param → List (List ℕ × Own)
own_params params = own_params_from 0 0 params

abbrev pub own_operands_from : Facts → ℕ → List Operand → List (List ℕ × Own)
own_operands_from facts number [] = []
own_operands_from facts number (o ∷ operands) =
    (o.name.text, own.Operand number (facts_of_operand facts o.kind)) ∷ own_operands_from facts (suc number) operands

abbrev pub own_operands : Facts → List Operand → List (List ℕ × Own)
own_operands facts operands = own_operands_from facts 0 operands

abbrev pub standing_for : Facts → List Signature → List (List ℕ × Own) → Standing
standing_for facts functions own = record { facts = facts; own = own; functions = functions }

abbrev pub own_in : Standing → List ℕ → Option Own
own_in standing name = local_bound (named (λ p. p.0) standing.own name)

-- the first function or named effects of a name, with its number
abbrev pub placed_in : Standing → List ℕ → Option (ℕ × Signature)
placed_in standing name = placed_from 0 (λ s. s.name) standing.functions name
