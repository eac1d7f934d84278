-- Arguments as the code has them.
use Rattle.std.specs.Prelude.{ℕ, ◌≡◌, ◌++◌, List, map, Option}
use Rattle.qc_bodies.specs.Trees.{core_of}
use Rattle.qc_named.specs.declared.expression.Arguments.{Arguments}
use Rattle.qc_named.specs.Resolved.{Resolved, callees_of, values_of, aims_of, one_callee, one_value, one_aim}
use Rattle.qc_named.specs.Standing.{Standing}

-- These are the arguments for parameters: those that are functions, those that are values, and the registers that these are.
pub record AreArguments (standing : Standing) (params : List (Option ℕ)) (args : List Resolved) (found : Arguments) : Type 0 where
  pub callees : found.callees ≡ callees_of standing params args
  pub aims : found.aims ≡ aims_of standing params args
  pub values : map core_of found.values ≡ values_of standing params args

-- One argument more, for this parameter.
pub record HasAlso (standing : Standing) (param : Option ℕ) (arg : Resolved) (old new : Arguments) : Type 0 where
  pub callees : new.callees ≡ old.callees ++ one_callee standing param arg
  pub aims : new.aims ≡ old.aims ++ one_aim standing param arg
  pub values : map core_of new.values ≡ map core_of old.values ++ one_value standing param arg
