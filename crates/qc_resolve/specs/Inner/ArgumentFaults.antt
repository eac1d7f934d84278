-- What is reported of one argument.
use Rattle.std.specs.Prelude.{ℕ, if◌then◌else◌, List, [], map, Option, None, Some}
use Rattle.qc_facts.specs.Faults.{unknown_unless}
use Rattle.qc_facts.specs.declared.faults.WidthFault.{WidthFault}
use Rattle.qc_facts.specs.declared.faults.WidthFault.TheVariants.{UnknownName}
use Rattle.qc_resolve.specs.Scopes.{Names}
use Rattle.qc_resolve.specs.Expressions.{Expression, is_function}
use Rattle.qc_resolve.specs.Effects.{fits_target, is_named}

-- the faults of an argument for a plain parameter, or for one that is a function
abbrev pub one_argument_faults : Names → Option ℕ → Expression → List WidthFault
one_argument_faults names None arg = arg.faults names
one_argument_faults names (Some arity) arg = unknown_unless (is_function names arity arg.bare) arg.first

-- the faults of an argument for a parameter that stands for the targets at these tokens
abbrev pub one_target_faults : Names → List ℕ → Expression → List WidthFault
one_target_faults names tokens arg = if fits_target names arg.bare then [] else map UnknownName tokens

-- the targets at these tokens that an argument of a name stands for
abbrev pub one_target_at : List ℕ → List ℕ → Expression → List ℕ
one_target_at name tokens arg = if is_named name arg.bare then tokens else []
