-- The facts and the functions that a machine's items declare.
use Rattle.std.specs.Prelude.{ℕ, suc, Bool, true, false, if◌then◌else◌, List, [], ◌∷◌, ◌++◌, map, is_some, Option, None, Some}
use Rattle.std.specs.List.{flat_map}
use Rattle.std.specs.Option.{option_map}
use Rattle.qc_grammar.specs.declared.cursor.Ident.{Ident}
use Rattle.qc_lrtl.specs.declared.syntax.Expr.{Expr}
use Rattle.qc_lrtl.specs.declared.syntax.Effect.{Effect}
use Rattle.qc_lrtl.specs.declared.syntax.Param.{Param}
use Rattle.qc_lrtl.specs.declared.syntax.Operand.{Operand}
use Rattle.qc_lrtl.specs.declared.syntax.OperandKind.{OperandKind}
use Rattle.qc_lrtl.specs.declared.syntax.OperandKind.TheVariants.{Register}
use Rattle.qc_lrtl.specs.declared.syntax.Item.{Item}
use Rattle.qc_lrtl.specs.declared.syntax.Item.TheVariants.{Space, Function, Effects, Instruction}
use Rattle.qc_facts.specs.Values.{faulty}
use Rattle.qc_facts.specs.declared.facts.Local.TheVariants.{Plain as plain, Applied as applied}
use Rattle.qc_facts.specs.declared.facts.Local.{Local}
use Rattle.qc_facts.specs.Facts.{Facts, placed_from, place_of, facts_of_operand}
use Rattle.qc_resolve.specs.Scopes.{Bound, operand, Signature, Meaning, Scope, Names}
use Rattle.qc_resolve.specs.Expressions.{value_of}
use Rattle.qc_resolve.specs.Effects.{acts_of, effect_events, effect_targets}

-- what a parameter is
abbrev pub arity_of : Param → Option ℕ
arity_of p = option_map (λ n. n.value) p.arity

abbrev pub local_of_arity : Option ℕ → Local
local_of_arity None = plain true
local_of_arity (Some arity) = applied arity

abbrev pub local_of_param : Param → List ℕ × Local
local_of_param p = (p.name.text, local_of_arity (arity_of p))

abbrev pub locals_of_params : List Param → List (List ℕ × Local)
locals_of_params params = map local_of_param params

-- parameters with what they stand for, in order
abbrev pub bound_params : List Param → List Bound → List (List ℕ × Bound)
bound_params [] bounds = []
bound_params (p ∷ params) [] = []
bound_params (p ∷ params) (b ∷ bounds) = (p.name.text, b) ∷ bound_params params bounds

abbrev pub fits_as_target : OperandKind → Bool
fits_as_target (Register space) = true
fits_as_target _ = false

abbrev pub locals_of_operands : List Operand → List (List ℕ × Local)
locals_of_operands operands = map (λ o. (o.name.text, plain (fits_as_target o.kind))) operands

-- operands with their numbers, the first of which is this one
abbrev pub bound_operands : Facts → ℕ → List Operand → List (List ℕ × Bound)
bound_operands facts number [] = []
bound_operands facts number (o ∷ operands) =
    (o.name.text, operand number (facts_of_operand facts o.kind)) ∷ bound_operands facts (suc number) operands

-- the names that a body after these functions may use
abbrev pub names_for : Facts → List Signature → List (List ℕ × Local) → Names
names_for facts functions locals = record { facts = facts; locals = locals; functions = functions }

abbrev pub scope_for : Facts → List Meaning → List (List ℕ × Bound) → Scope
scope_for facts functions locals = record { facts = facts; locals = locals; functions = functions }

-- The names of spaces, of functions and named effects, and of instructions are three kinds.
abbrev pub space_name : Item → List Ident
space_name (Space token name cells bits flags) = name ∷ []
space_name _ = []

abbrev pub function_name : Item → List Ident
function_name (Function token name params body) = name ∷ []
function_name (Effects token name params body) = name ∷ []
function_name _ = []

abbrev pub instruction_name : Item → List Ident
instruction_name (Instruction token name operands body) = name ∷ []
instruction_name _ = []

-- the items that declare functions or named effects
abbrev pub function_item : Item → List Item
function_item (Function token name params body) = Function token name params body ∷ []
function_item (Effects token name params body) = Effects token name params body ∷ []
function_item _ = []

abbrev pub function_items : List Item → List Item
function_items items = flat_map function_item items

abbrev pub place_of_function : List Item → List ℕ → Option ℕ
place_of_function items name = place_of (placed_from 0 (λ n. n.text) (flat_map function_name items) name)

-- the targets that a parameter of named effects stands for
abbrev pub targets_of_param : Names → List Effect → Param → List ℕ
targets_of_param names body p =
    if is_some (arity_of p) then [] else flat_map (effect_targets names p.name.text) body

abbrev pub signature_of_function : Ident → List Param → Signature
signature_of_function name params = record {
  name = name.text;
  params = map arity_of params;
  effects = false;
  targets = [];
  events = [];
}

abbrev pub signature_of_effects : Facts → List Signature → Ident → List Param → List Effect → Signature
signature_of_effects facts earlier name params body = record {
  name = name.text;
  params = map arity_of params;
  effects = true;
  targets = map (targets_of_param (names_for facts earlier (locals_of_params params)) body) params;
  events = flat_map (effect_events (names_for facts earlier (locals_of_params params))) body;
}

-- what an item declares after these functions
abbrev pub signature_of_item : Facts → List Signature → Item → List Signature
signature_of_item facts earlier (Function token name params body) = signature_of_function name params ∷ []
signature_of_item facts earlier (Effects token name params body) =
    signature_of_effects facts earlier name params body ∷ []
signature_of_item facts earlier _ = []

-- All functions and named effects in order, behind earlier ones. A body uses only those before it.
abbrev pub signatures_after : Facts → List Signature → List Item → List Signature
signatures_after facts earlier [] = earlier
signatures_after facts earlier (item ∷ items) =
    signatures_after facts (earlier ++ signature_of_item facts earlier item) items

abbrev pub signatures_in : Facts → List Item → List Signature
signatures_in facts items = signatures_after facts [] items

-- the signatures of functions that have meanings
abbrev pub signatures_of : List Meaning → List Signature
signatures_of meanings = map (λ m. m.signature) meanings

-- What a function comes to: its body, with its parameters as they are bound.
abbrev pub meaning_of_function : Facts → List Meaning → Ident → List Param → Expr → Meaning
meaning_of_function facts earlier name params body = record {
  signature = signature_of_function name params;
  apply = λ token bounds. value_of (scope_for facts earlier (bound_params params bounds)) body;
  acts = λ bounds. [];
}

abbrev pub meaning_of_effects : Facts → List Meaning → Ident → List Param → List Effect → Meaning
meaning_of_effects facts earlier name params body = record {
  signature = signature_of_effects facts (signatures_of earlier) name params body;
  apply = λ token bounds. faulty token;
  acts = λ bounds. acts_of (scope_for facts earlier (bound_params params bounds)) body;
}

abbrev pub meaning_of_item : Facts → List Meaning → Item → List Meaning
meaning_of_item facts earlier (Function token name params body) =
    meaning_of_function facts earlier name params body ∷ []
meaning_of_item facts earlier (Effects token name params body) =
    meaning_of_effects facts earlier name params body ∷ []
meaning_of_item facts earlier _ = []

abbrev pub meanings_after : Facts → List Meaning → List Item → List Meaning
meanings_after facts earlier [] = earlier
meanings_after facts earlier (item ∷ items) =
    meanings_after facts (earlier ++ meaning_of_item facts earlier item) items

abbrev pub meanings_in : Facts → List Item → List Meaning
meanings_in facts items = meanings_after facts [] items
