-- What code keeps of values: no more of a term with more than 4,096 nodes than that it is one.
use Rattle.std.specs.Prelude.{ℕ, ◌≡◌, ◌<◌, ◌≤◌, true, nat_lt, if◌then◌else◌, List, length, map, take, slice_get, Option, None, Some}
use Rattle.qc_terms.specs.Tree.{tree_of, nodes_of}
use Rattle.qc_lrtl.specs.declared.syntax.Item.{Item}
use Rattle.qc_lrtl.specs.declared.syntax.Param.{Param}
use Rattle.qc_facts.specs.declared.facts.Target.{Target}
use Rattle.qc_widths.specs.declared.scope.Bound.{Bound}
use Rattle.qc_widths.specs.declared.scope.Bound.TheVariants.{Argument, Function}
use Rattle.qc_widths.specs.declared.scope.Callee.{Callee}
use Rattle.qc_widths.specs.declared.scope.Callee.TheVariants.{Unknown, Operator, Declared}
use Rattle.qc_widths.specs.declared.scope.Found.{Found}
use Rattle.qc_widths.specs.declared.scope.Found.TheVariants as kind
use Rattle.qc_widths.specs.declared.scope.Found.TheVariants.{Absent}
use Rattle.qc_widths.specs.declared.scope.Locals.{Locals}
use Rattle.qc_widths.specs.declared.scope.Locals.TheVariants.{Params, Operands}
use Rattle.qc_widths.specs.declared.scope.Scope.{Scope}
use Rattle.qc_widths.specs.declared.value.Value.{Value}
use Rattle.qc_widths.specs.declared.value.Value.TheVariants.{Huge, Known}
use Rattle.qc_facts.specs.Faults.{reported}
use Rattle.qc_facts.specs.Values as values
use Rattle.qc_facts.specs.Facts.{Facts as SpecFacts}
use Rattle.qc_resolve.specs.Scopes as scopes
use Rattle.qc_resolve.specs.Scopes.{Meaning, argument, operand, function, is_plain}
use Rattle.qc_resolve.specs.Declarations.{bound_params, bound_operands, function_items, meanings_in}
use Rattle.qc_resolve.specs.Expressions.{Expression, function_of, target_of}
use Rattle.qc_resolve.specs.FunctionTables.{IsTableOf}

-- the nodes of a value's term
abbrev pub nodes_in : values.Value → ℕ
nodes_in v = nodes_of (tree_of v.term)

-- what is kept of a value
unfoldable pub seen : values.Value → Value
seen v = if nat_lt 4096 (nodes_in v) then Huge else Known v.token v.term (nodes_in v) v.width v.sound (reported v.clashes)

-- the code's value is what is kept of this one
abbrev pub IsValue : Value → values.Value → Type 0
IsValue kept v = kept ≡ seen v

-- what a number of a function or of named effects stands for, if there is one
abbrev pub meaning_of_number : List Meaning → Option ℕ → Option Meaning
meaning_of_number meanings None = None
meaning_of_number meanings (Some number) = slice_get meanings number

-- what a declared function comes to at a token for plain arguments, if it is there
abbrev pub apply_of_meaning : Option Meaning → ℕ → List values.Value → values.Value
apply_of_meaning None token args = values.faulty token
apply_of_meaning (Some m) token args = m.apply token (map (λ v. argument v None) args)

-- what a callee comes to at a token for plain arguments
abbrev pub apply_of : List Meaning → Callee → ℕ → List values.Value → values.Value
apply_of meanings Unknown token args = values.faulty token
apply_of meanings (Operator op) token args = values.operator_at op token args
apply_of meanings (Declared number) token args = apply_of_meaning (slice_get meanings number) token args

-- a declared function has a number below this one
abbrev pub IsBelow : ℕ → Callee → Type 0
IsBelow ceiling Unknown = Unit {0}
IsBelow ceiling (Operator op) = Unit {0}
IsBelow ceiling (Declared number) = number < ceiling

-- the functions that parameters stand for have numbers below this one
abbrev pub IsBoundBelow : ℕ → Bound → Type 0
IsBoundBelow ceiling (Argument value target) = Unit {0}
IsBoundBelow ceiling (Function arity callee) = IsBelow ceiling callee

-- a declared function is one of so many plain arguments
abbrev pub IsPlain : List Meaning → ℕ → Callee → Type 0
IsPlain meanings arity Unknown = Unit {0}
IsPlain meanings arity (Operator op) = Unit {0}
IsPlain meanings arity (Declared number) =
    (m : Meaning) × (slice_get meanings number ≡ Some m) × (is_plain m.signature arity ≡ true)

-- an argument that was evaluated is this one
pub record IsArgument (kept : Value) (target : Option Target) (b : scopes.Bound) : Type 0 where
  pub spec : values.Value
  pub is : b ≡ argument spec target
  pub value : IsValue kept spec

-- a callee is this function of so many plain arguments
pub record IsCallee (meanings : List Meaning) (arity : ℕ) (callee : Callee) (apply : ℕ → List values.Value → values.Value)
    : Type 0 where
  pub applies : (token : ℕ) (args : List values.Value) → apply token args ≡ apply_of meanings callee token args
  pub plain : IsPlain meanings arity callee

-- a parameter that is a function stands for this one
pub record IsFunction (meanings : List Meaning) (arity : ℕ) (callee : Callee) (b : scopes.Bound) : Type 0 where
  pub apply : ℕ → List values.Value → values.Value
  pub is : b ≡ function arity apply
  pub same : IsCallee meanings arity callee apply

-- what is bound in code is what the definitions bind
abbrev pub IsBound : List Meaning → Bound → scopes.Bound → Type 0
IsBound meanings (Argument value target) b = IsArgument value target b
IsBound meanings (Function arity callee) b = IsFunction meanings arity callee b

-- the first so many are bound to the same
pub record AreBound (meanings : List Meaning) (count : ℕ) (kept : List Bound) (bounds : List scopes.Bound) : Type 0 where
  pub each : (k : ℕ) → k < count → (b : Bound) × (s : scopes.Bound) × (slice_get kept k ≡ Some b)
      × (slice_get bounds k ≡ Some s) × IsBound meanings b s

-- the functions that any of these parameters stands for have numbers below this one
abbrev pub AreBelow : ℕ → List Bound → Type 0
AreBelow ceiling kept = (k : ℕ) (b : Bound) → slice_get kept k ≡ Some b → IsBoundBelow ceiling b

-- what code needs of the names of a scope to evaluate in it
abbrev pub AreSettled : ℕ → Locals → Type 0
AreSettled ceiling (Params params bounds) = (length bounds.now ≡ length params.now) × AreBelow ceiling bounds.now
AreSettled ceiling (Operands operands) = length operands.now ≤ 8

-- What code needs of a scope to evaluate in it, whatever the definitions say.
pub record IsSettled (kept : Scope) : Type 0 where
  pub table : IsTableOf kept.items.now kept.functions.now
  pub level : kept.level ≤ kept.ceiling
  pub ceiling : kept.ceiling ≤ length (function_items kept.items.now)
  pub locals : AreSettled kept.ceiling kept.locals

-- parameters with what they stand for are these names of the definitions
pub record AreParams (meanings : List Meaning) (params : List Param) (kept : List Bound)
    (locals : List (List ℕ × scopes.Bound)) : Type 0 where
  pub bounds : List scopes.Bound
  pub is : locals ≡ bound_params params bounds
  pub count : length bounds ≡ length params
  pub bound : AreBound meanings (length params) kept bounds

-- parameters, or operands, with what they stand for are these names of the definitions
abbrev pub AreLocals : SpecFacts → List Meaning → Locals → List (List ℕ × scopes.Bound) → Type 0
AreLocals facts meanings (Params params bounds) locals = AreParams meanings params.now bounds.now locals
AreLocals facts meanings (Operands operands) locals = locals ≡ bound_operands facts 0 operands.now

-- the meanings of all functions of the scope's machine
abbrev pub meanings_of : Scope → List Meaning
meanings_of kept = meanings_in kept.facts.now kept.items.now

-- code's scope is this one of the definitions
pub record IsScope (kept : Scope) (scope : scopes.Scope) : Type 0 where
  pub facts : scope.facts ≡ kept.facts.now
  pub functions : scope.functions ≡ take kept.level (meanings_of kept)
  pub locals : AreLocals kept.facts.now (meanings_of kept) kept.locals scope.locals

-- what was found for a name of a parameter is what it stands for
pub record IsFoundBound (meanings : List Meaning) (kept : Bound) (found : Option scopes.Bound) : Type 0 where
  pub spec : scopes.Bound
  pub is : found ≡ Some spec
  pub bound : IsBound meanings kept spec

-- what was found for any name is what it stands for
abbrev pub IsFound : List Meaning → Found → Option scopes.Bound → Type 0
IsFound meanings Absent found = found ≡ None
IsFound meanings (kind.Bound bound) found = IsFoundBound meanings bound.now found
IsFound meanings (kind.Operand number facts) found = found ≡ Some (operand number facts)

-- what one parameter stands for at an argument
abbrev pub binding : scopes.Scope → Option ℕ → Expression → scopes.Bound
binding scope None arg = argument (arg.value scope) (target_of scope arg.bare)
binding scope (Some arity) arg = function arity (function_of scope arity arg.bare)

-- a function that was found has a number below this one
abbrev pub IsFoundBelow : ℕ → Found → Type 0
IsFoundBelow ceiling Absent = Unit {0}
IsFoundBelow ceiling (kind.Bound bound) = IsBoundBelow ceiling bound.now
IsFoundBelow ceiling (kind.Operand number facts) = Unit {0}

-- The function or the named effects of this number may be used in a scope.
pub record IsDeclared (kept : Scope) (number : ℕ) (item : Item) : Type 0 where
  pub below : number < kept.level
  pub is : slice_get (function_items kept.items.now) number ≡ Some item
