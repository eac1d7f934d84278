-- What effects come to where they are written, and the faults that are reported of them without their uses.
use Rattle.std.specs.Prelude.{ℕ, Bool, true, false, if◌then◌else◌, List, [], ◌∷◌, ◌++◌, length, map, Option, None, Some}
use Rattle.std.specs.List.{flat_map}
use Rattle.std.specs.Str.{bytes_eq}
use Rattle.qc_words.specs.declared.operator.Op.{Op}
use Rattle.qc_words.specs.declared.operator.Op.TheVariants as op
use Rattle.qc_terms.specs.declared.term.Dest.{Dest}
use Rattle.qc_terms.specs.declared.term.Dest.TheVariants as dest
use Rattle.qc_terms.specs.declared.term.Effect as terms
use Rattle.qc_terms.specs.declared.term.Term.{Term}
use Rattle.qc_terms.specs.declared.term.Term.TheVariants as term
use Rattle.qc_grammar.specs.declared.cursor.Ident.{Ident}
use Rattle.qc_grammar.specs.declared.cursor.Number.{Number}
use Rattle.qc_lrtl.specs.declared.syntax.Expr.{Expr}
use Rattle.qc_lrtl.specs.declared.syntax.Guard.{Guard}
use Rattle.qc_lrtl.specs.declared.syntax.Effect.{Effect}
use Rattle.qc_lrtl.specs.declared.syntax.Simple.{Simple}
use Rattle.qc_lrtl.specs.declared.syntax.Simple.TheVariants.{Pc, Out, Halt, Trap, Mem, Name, Cell, Use}
use Rattle.qc_facts.specs.declared.faults.WidthFault.{WidthFault}
use Rattle.qc_facts.specs.declared.faults.WidthFault.TheVariants.{UnknownName}
use Rattle.qc_facts.specs.Numbers.{access_faults, access_width}
use Rattle.qc_facts.specs.Values.{Value, bits_of, test}
use Rattle.qc_facts.specs.declared.facts.Local.TheVariants.{Plain as plain}
use Rattle.qc_facts.specs.declared.facts.Local.{Local}
use Rattle.qc_facts.specs.declared.facts.Target.{Target}
use Rattle.qc_resolve.specs.Scopes.{Act, Bound, Signature, Meaning, Scope, Names, bound_in, local_in, meaning_in, signature_in, takes}
use Rattle.qc_facts.specs.Facts.{operator_named, cell_named, cell_faults}
use Rattle.qc_resolve.specs.Expressions.{Expression, expression_of, value_of, faults_in, target_of, bindings, argument_faults, plain_faults}

-- an effect without a guard, that gives a place of this width a value
abbrev pub act_of : Dest → List WidthFault → Value → Option ℕ → Act
act_of to address value width = record {
  guard = None;
  guards = [];
  to = to;
  value = value.term;
  rest = address ++ (value.clashes ++ test value width);
}

-- an effect on a register; where there is none its fault is reported elsewhere
abbrev pub act_on : Option Target → Value → Act
act_on None value = act_of dest.Pc [] value None
act_on (Some target) value = act_of (dest.Reg target.place) [] value target.width

-- an effect on memory, whose address is a word
abbrev pub act_on_memory : Option ℕ → Number → Value → Value → Act
act_on_memory word bits address value =
    act_of (dest.Mem (bits_of (access_width word bits)) address.term) (address.clashes ++ test address word)
    value (access_width word bits)

-- The use of named effects: they are hidden by a parameter, an operand or an operator of their name.
abbrev pub acts_of_meaning : Scope → Option Bound → Option Op → Option Meaning → List Expression → List Act
acts_of_meaning scope None None (Some m) args =
    if takes true m.signature (length args) then m.acts (bindings scope m.signature.params args) else []
acts_of_meaning scope _ _ _ args = []

abbrev pub acts_of_use : Scope → Ident → List Expr → List Act
acts_of_use scope name args =
    acts_of_meaning scope (bound_in scope name.text) (operator_named name.text) (meaning_in scope name.text)
    (map expression_of args)

abbrev pub acts_of_simple : Scope → Simple → List Act
acts_of_simple scope (Pc token value) = act_of dest.Pc [] (value_of scope value) scope.facts.word ∷ []
acts_of_simple scope (Out token value) = act_of dest.Out [] (value_of scope value) scope.facts.word ∷ []
acts_of_simple scope (Halt token value) = act_of dest.Halt [] (value_of scope value) scope.facts.word ∷ []
acts_of_simple scope (Trap token value) = act_of dest.Trap [] (value_of scope value) (Some 8) ∷ []
acts_of_simple scope (Mem token bits address value) =
    act_on_memory scope.facts.word bits (value_of scope address) (value_of scope value) ∷ []
acts_of_simple scope (Name name value) = act_on (target_of scope (Some name)) (value_of scope value) ∷ []
acts_of_simple scope (Cell space cell value) =
    act_on (cell_named scope.facts space cell) (value_of scope value) ∷ []
acts_of_simple scope (Use name args) = acts_of_use scope name args

-- the guard of a use, and that of an effect of it
abbrev pub joined : Term → Option Term → Term
joined guard None = guard
joined guard (Some inner) = term.Bin op.And guard inner

-- A guard has width 1.
abbrev pub guarded : Value → Act → Act
guarded guard act = record {
  guard = Some (joined guard.term act.guard);
  guards = (guard.clashes ++ test guard (Some 1)) ++ act.guards;
  to = act.to;
  value = act.value;
  rest = act.rest;
}

abbrev pub acts_under : Scope → Option Guard → List Act → List Act
acts_under scope None acts = acts
acts_under scope (Some guard) acts = map (guarded (value_of scope guard.condition)) acts

-- what one effect, which may be a use of named ones, comes to
unfoldable pub acts_of_effect : Scope → Effect → List Act
acts_of_effect scope e = acts_under scope e.guard (acts_of_simple scope e.simple)

abbrev pub acts_of : Scope → List Effect → List Act
acts_of scope effects = flat_map (acts_of_effect scope) effects

-- effects as a register transfer list has them, and their clashes, guards first
abbrev pub effect_of : Act → terms.Effect
effect_of act = record { guard = act.guard; to = act.to; value = act.value }

abbrev pub clashes_of_act : Act → List WidthFault
clashes_of_act act = act.guards ++ act.rest

-- a name that may be a target: a register operand, or a plain parameter of named effects
abbrev pub fits_target_of : Option Local → Bool
fits_target_of (Some (plain fits)) = fits
fits_target_of _ = false

abbrev pub fits_target : Names → Option Ident → Bool
fits_target names None = false
fits_target names (Some name) = fits_target_of (local_in names name.text)

-- The targets that a parameter stands for are unknown names where its argument is no register.
abbrev pub target_faults : Names → List (List ℕ) → List Expression → List WidthFault
target_faults names [] args = []
target_faults names (tokens ∷ targets) [] = []
target_faults names (tokens ∷ targets) (arg ∷ args) =
    (if fits_target names arg.bare then [] else map UnknownName tokens) ++ target_faults names targets args

-- the named effects that a name with so many arguments stands for, if it stands for some
abbrev pub effects_of : Option Local → Option Op → Option Signature → ℕ → Option Signature
effects_of None None (Some s) count = if takes true s count then Some s else None
effects_of _ _ _ count = None

abbrev pub effects_named : Names → Ident → ℕ → Option Signature
effects_named names name count =
    effects_of (local_in names name.text) (operator_named name.text) (signature_in names name.text) count

abbrev pub effects_faults : Names → Option Signature → ℕ → List Expression → List WidthFault
effects_faults names None token args = UnknownName token ∷ plain_faults names args
effects_faults names (Some s) token args = argument_faults names s.params args ++ target_faults names s.targets args

abbrev pub simple_faults : Names → Simple → List WidthFault
simple_faults names (Pc token value) = faults_in names value
simple_faults names (Out token value) = faults_in names value
simple_faults names (Halt token value) = faults_in names value
simple_faults names (Trap token value) = faults_in names value
simple_faults names (Mem token bits address value) =
    access_faults names.facts.word bits ++ (faults_in names address ++ faults_in names value)
simple_faults names (Name name value) =
    (if fits_target names (Some name) then [] else UnknownName name.token ∷ []) ++ faults_in names value
simple_faults names (Cell space cell value) = cell_faults names.facts space cell ++ faults_in names value
simple_faults names (Use name args) =
    effects_faults names (effects_named names name (length args)) name.token (map expression_of args)

abbrev pub guard_faults : Names → Option Guard → List WidthFault
guard_faults names None = []
guard_faults names (Some guard) = faults_in names guard.condition

unfoldable pub effect_faults : Names → Effect → List WidthFault
effect_faults names e = guard_faults names e.guard ++ simple_faults names e.simple

-- The tokens of the effects that show something, in order, those of named effects at their uses.
abbrev pub events_of : Option Signature → List ℕ
events_of None = []
events_of (Some s) = s.events

abbrev pub simple_events : Names → Simple → List ℕ
simple_events names (Out token value) = token ∷ []
simple_events names (Halt token value) = token ∷ []
simple_events names (Trap token value) = token ∷ []
simple_events names (Use name args) = events_of (effects_named names name (length args))
simple_events names _ = []

unfoldable pub effect_events : Names → Effect → List ℕ
effect_events names e = simple_events names e.simple

-- The tokens of the targets that a parameter of this name stands for, those of named effects at their uses.
abbrev pub is_named : List ℕ → Option Ident → Bool
is_named name None = false
is_named name (Some other) = bytes_eq other.text name

abbrev pub targets_at : List ℕ → List (List ℕ) → List Expression → List ℕ
targets_at name [] args = []
targets_at name (tokens ∷ targets) [] = []
targets_at name (tokens ∷ targets) (arg ∷ args) =
    (if is_named name arg.bare then tokens else []) ++ targets_at name targets args

abbrev pub targets_of : List ℕ → Option Signature → List Expression → List ℕ
targets_of name None args = []
targets_of name (Some s) args = targets_at name s.targets args

abbrev pub simple_targets : Names → List ℕ → Simple → List ℕ
simple_targets names name (Name target value) = if bytes_eq target.text name then target.token ∷ [] else []
simple_targets names name (Use used args) =
    targets_of name (effects_named names used (length args)) (map expression_of args)
simple_targets names name _ = []

unfoldable pub effect_targets : Names → List ℕ → Effect → List ℕ
effect_targets names name e = simple_targets names name e.simple
