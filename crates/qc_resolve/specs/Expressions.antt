-- What an expression comes to where it is written, and the faults that are reported of it without its uses.
use Rattle.std.specs.Prelude.{ℕ, ◌≡◌, Bool, false, nat_eq, if◌then◌else◌, List, [], ◌∷◌, ◌++◌, length, map, Option, None, Some}
use Rattle.std.specs.List.{flat_map}
use Rattle.std.proofs.Common.{ap, sym, ◌∙◌}
use Rattle.qc_facts.specs.Faults.{unknown_unless}
use Rattle.qc_words.specs.declared.operator.Op.{Op}
use Rattle.qc_words.specs.declared.operator.Op.TheVariants.{Zx, Sx}
use Rattle.qc_terms.specs.declared.term.Term.TheVariants as term
use Rattle.qc_grammar.specs.declared.cursor.Ident.{Ident}
use Rattle.qc_grammar.specs.declared.cursor.Number.{Number}
use Rattle.qc_lrtl.specs.declared.syntax.Expr.{Expr, fold-Expr, fold-roll-Expr}
use Rattle.qc_lrtl.specs.declared.syntax.Expr.TheVariants as expr
use Rattle.qc_lrtl.specs.declared.syntax.Expr.TheOpen.{Expr-F, Literal, Input, After, Mem, Zx as ZxF, Sx as SxF, Slice, Name, Call, Cell}
use Rattle.qc_facts.specs.declared.faults.WidthFault.{WidthFault}
use Rattle.qc_facts.specs.declared.faults.WidthFault.TheVariants.{UnknownName}
use Rattle.qc_facts.specs.Numbers.{width_faults, literal_faults, access_faults}
use Rattle.qc_facts.specs.Values.{Value, bits_of, faulty, leaf, literal, input, after, load, extension, slice, operator_at}
use Rattle.qc_facts.specs.declared.facts.Local.TheVariants.{Plain as plain, Applied as applied}
use Rattle.qc_facts.specs.declared.facts.Local.{Local}
use Rattle.qc_facts.specs.declared.facts.Target.{Target}
use Rattle.qc_resolve.specs.Scopes.{Bound, argument, operand, function, Signature, Meaning, Scope, Names, bound_in, local_in, meaning_in, signature_in, is_plain, takes, operand_value, target_of_operand}
use Rattle.qc_facts.specs.Facts.{operator_named, operands_of, cell_named, cell_faults}

-- An expression as it is written: the number of its first token, the name that it is, if it is one alone, what it comes
-- to in a scope, and its faults among names.
pub record Expression : Type 0 where
  pub first : ℕ
  pub bare : Option Ident
  pub value : Scope → Value
  pub faults : Names → List WidthFault

-- what a name that stands alone comes to
abbrev pub value_of_bound : Option ℕ → Option Bound → ℕ → Value
value_of_bound word None token = faulty token
value_of_bound word (Some (argument v target)) token = v
value_of_bound word (Some (operand number facts)) token = operand_value word number facts token
value_of_bound word (Some (function arity apply)) token = faulty token

abbrev pub value_of_cell : Option Target → ℕ → Value
value_of_cell None token = faulty token
value_of_cell (Some target) token = leaf token (term.Reg target.place (bits_of target.width)) target.width

-- the register that a name stands for, if it stands for one
abbrev pub target_of_bound : Option Bound → Option Target
target_of_bound None = None
target_of_bound (Some (argument v target)) = target
target_of_bound (Some (operand number facts)) = target_of_operand number facts
target_of_bound (Some (function arity apply)) = None

abbrev pub target_of : Scope → Option Ident → Option Target
target_of scope None = None
target_of scope (Some name) = target_of_bound (bound_in scope name.text)

-- the function of so many plain arguments that a name stands for, if it stands for one
abbrev pub function_of_meaning : ℕ → Option Meaning → ℕ → List Value → Value
function_of_meaning arity None token args = faulty token
function_of_meaning arity (Some m) token args =
    if is_plain m.signature arity then m.apply token (map (λ v. argument v None) args) else faulty token

abbrev pub function_of_operator : ℕ → Option Op → Option Meaning → ℕ → List Value → Value
function_of_operator arity None m token args = function_of_meaning arity m token args
function_of_operator arity (Some op) m token args =
    if nat_eq (operands_of op) arity then operator_at op token args else faulty token

abbrev pub function_of_bound : ℕ → Option Bound → Option Op → Option Meaning → ℕ → List Value → Value
function_of_bound arity None op m token args = function_of_operator arity op m token args
function_of_bound arity (Some (function n apply)) op m token args =
    if nat_eq n arity then apply token args else faulty token
function_of_bound arity (Some (argument v target)) op m token args = faulty token
function_of_bound arity (Some (operand number facts)) op m token args = faulty token

abbrev pub function_of : Scope → ℕ → Option Ident → ℕ → List Value → Value
function_of scope arity None token args = faulty token
function_of scope arity (Some name) token args =
    function_of_bound arity (bound_in scope name.text) (operator_named name.text) (meaning_in scope name.text) token args

-- what parameters stand for at these arguments
abbrev pub bindings : Scope → List (Option ℕ) → List Expression → List Bound
bindings scope [] args = []
bindings scope (param ∷ params) [] = []
bindings scope (None ∷ params) (arg ∷ args) =
    argument (arg.value scope) (target_of scope arg.bare) ∷ bindings scope params args
bindings scope (Some arity ∷ params) (arg ∷ args) =
    function arity (function_of scope arity arg.bare) ∷ bindings scope params args

-- The use of a function: of a parameter, else of an operator, else of a declared one, each with as many arguments as it
-- has.
abbrev pub use_of_meaning : Scope → Option Meaning → ℕ → List Expression → Value
use_of_meaning scope None token args = faulty token
use_of_meaning scope (Some m) token args =
    if takes false m.signature (length args) then m.apply token (bindings scope m.signature.params args)
    else faulty token

abbrev pub use_of_operator : Scope → Option Op → Option Meaning → ℕ → List Expression → Value
use_of_operator scope None m token args = use_of_meaning scope m token args
use_of_operator scope (Some op) m token args = operator_at op token (map (λ arg. arg.value scope) args)

abbrev pub use_of_bound : Scope → Option Bound → Option Op → Option Meaning → ℕ → List Expression → Value
use_of_bound scope None op m token args = use_of_operator scope op m token args
use_of_bound scope (Some (function arity apply)) op m token args =
    if nat_eq arity (length args) then apply token (map (λ arg. arg.value scope) args) else faulty token
use_of_bound scope (Some (argument v target)) op m token args = faulty token
use_of_bound scope (Some (operand number facts)) op m token args = faulty token

abbrev pub use_of : Scope → Ident → List Expression → Value
use_of scope name args =
    use_of_bound scope (bound_in scope name.text) (operator_named name.text) (meaning_in scope name.text) name.token args

-- a name that stands alone is that of a plain parameter or of an operand
abbrev pub alone_faults : Option Local → ℕ → List WidthFault
alone_faults (Some (plain fits)) token = []
alone_faults _ token = UnknownName token ∷ []

-- the name stands for a function of so many plain arguments
abbrev pub is_function_of_signature : ℕ → Option Signature → Bool
is_function_of_signature arity None = false
is_function_of_signature arity (Some s) = is_plain s arity

abbrev pub is_function_of_operator : ℕ → Option Op → Option Signature → Bool
is_function_of_operator arity None s = is_function_of_signature arity s
is_function_of_operator arity (Some op) s = nat_eq (operands_of op) arity

abbrev pub is_function_of_local : ℕ → Option Local → Option Op → Option Signature → Bool
is_function_of_local arity None op s = is_function_of_operator arity op s
is_function_of_local arity (Some (applied n)) op s = nat_eq n arity
is_function_of_local arity (Some (plain fits)) op s = false

abbrev pub is_function : Names → ℕ → Option Ident → Bool
is_function names arity None = false
is_function names arity (Some name) =
    is_function_of_local arity (local_in names name.text) (operator_named name.text) (signature_in names name.text)

abbrev pub plain_faults : Names → List Expression → List WidthFault
plain_faults names args = flat_map (λ arg. arg.faults names) args

-- An argument for a function is the bare name of one. Its fault is at its first token, whatever it is.
abbrev pub argument_faults : Names → List (Option ℕ) → List Expression → List WidthFault
argument_faults names [] args = []
argument_faults names (param ∷ params) [] = []
argument_faults names (None ∷ params) (arg ∷ args) = arg.faults names ++ argument_faults names params args
argument_faults names (Some arity ∷ params) (arg ∷ args) =
    (if is_function names arity arg.bare then [] else UnknownName arg.first ∷ []) ++ argument_faults names params args

-- a use of a name that is no function of so many arguments, and the faults of the arguments
abbrev pub use_faults_of_signature : Names → Bool → Option Signature → ℕ → List Expression → List WidthFault
use_faults_of_signature names effects None token args = UnknownName token ∷ plain_faults names args
use_faults_of_signature names effects (Some s) token args =
    if takes effects s (length args) then argument_faults names s.params args
    else UnknownName token ∷ plain_faults names args

abbrev pub use_faults_of_operator : Names → Option Op → Option Signature → ℕ → List Expression → List WidthFault
use_faults_of_operator names None s token args = use_faults_of_signature names false s token args
use_faults_of_operator names (Some op) s token args =
    unknown_unless (nat_eq (operands_of op) (length args)) token ++ plain_faults names args

abbrev pub use_faults_of_local : Names → Option Local → Option Op → Option Signature → ℕ → List Expression → List WidthFault
use_faults_of_local names None op s token args = use_faults_of_operator names op s token args
use_faults_of_local names (Some (applied arity)) op s token args =
    unknown_unless (nat_eq arity (length args)) token ++ plain_faults names args
use_faults_of_local names (Some (plain fits)) op s token args = UnknownName token ∷ plain_faults names args

abbrev pub use_faults : Names → Ident → List Expression → List WidthFault
use_faults names name args =
    use_faults_of_local names (local_in names name.text) (operator_named name.text) (signature_in names name.text)
    name.token args

abbrev pub expression_layer : Expr-F Expression → Expression
expression_layer (Literal value bits) = record {
  first = value.token;
  bare = None;
  value = λ scope. literal value bits;
  faults = λ names. literal_faults value bits;
}
expression_layer (Input token) = record {
  first = token;
  bare = None;
  value = λ scope. input scope.facts.word token;
  faults = λ names. [];
}
expression_layer (After token) = record {
  first = token;
  bare = None;
  value = λ scope. after scope.facts.word token;
  faults = λ names. [];
}
expression_layer (Mem token bits address) = record {
  first = token;
  bare = None;
  value = λ scope. load scope.facts.word token bits (address.value scope);
  faults = λ names. access_faults names.facts.word bits ++ address.faults names;
}
expression_layer (ZxF token bits arg) = record {
  first = token;
  bare = None;
  value = λ scope. extension Zx token bits (arg.value scope);
  faults = λ names. width_faults bits ++ arg.faults names;
}
expression_layer (SxF token bits arg) = record {
  first = token;
  bare = None;
  value = λ scope. extension Sx token bits (arg.value scope);
  faults = λ names. width_faults bits ++ arg.faults names;
}
expression_layer (Slice token low bits arg) = record {
  first = token;
  bare = None;
  value = λ scope. slice token low bits (arg.value scope);
  faults = λ names. width_faults bits ++ arg.faults names;
}
expression_layer (Name name) = record {
  first = name.token;
  bare = Some name;
  value = λ scope. value_of_bound scope.facts.word (bound_in scope name.text) name.token;
  faults = λ names. alone_faults (local_in names name.text) name.token;
}
expression_layer (Call name args) = record {
  first = name.token;
  bare = None;
  value = λ scope. use_of scope name args;
  faults = λ names. use_faults names name args;
}
expression_layer (Cell space cell) = record {
  first = space.token;
  bare = None;
  value = λ scope. value_of_cell (cell_named scope.facts space cell) space.token;
  faults = λ names. cell_faults names.facts space cell;
}

unfoldable pub expression_of : Expr → Expression
expression_of = fold-Expr Expression expression_layer

abbrev pub first_token : Expr → ℕ
first_token e = (expression_of e).first

abbrev pub bare_name : Expr → Option Ident
bare_name e = (expression_of e).bare

abbrev pub value_of : Scope → Expr → Value
value_of scope e = (expression_of e).value scope

abbrev pub faults_in : Names → Expr → List WidthFault
faults_in names e = (expression_of e).faults names

-- the expression of each variant
pub expression-literal : (value bits : Number)
    → expression_of (expr.Literal value bits) ≡ expression_layer (Literal value bits)
unfolding expression_of
expression-literal value bits = ap expression_of (sym (expr.rolls-Literal value bits))
    ∙ fold-roll-Expr Expression expression_layer (Literal value bits)

pub expression-input : (token : ℕ) → expression_of (expr.Input token) ≡ expression_layer (Input token)
unfolding expression_of
expression-input token = ap expression_of (sym (expr.rolls-Input token))
    ∙ fold-roll-Expr Expression expression_layer (Input token)

pub expression-after : (token : ℕ) → expression_of (expr.After token) ≡ expression_layer (After token)
unfolding expression_of
expression-after token = ap expression_of (sym (expr.rolls-After token))
    ∙ fold-roll-Expr Expression expression_layer (After token)

pub expression-mem : (token : ℕ) (bits : Number) (address : Expr)
    → expression_of (expr.Mem token bits address) ≡ expression_layer (Mem token bits (expression_of address))
unfolding expression_of
expression-mem token bits address = ap expression_of (sym (expr.rolls-Mem token bits address))
    ∙ fold-roll-Expr Expression expression_layer (Mem token bits address)

pub expression-zx : (token : ℕ) (bits : Number) (arg : Expr)
    → expression_of (expr.Zx token bits arg) ≡ expression_layer (ZxF token bits (expression_of arg))
unfolding expression_of
expression-zx token bits arg = ap expression_of (sym (expr.rolls-Zx token bits arg))
    ∙ fold-roll-Expr Expression expression_layer (ZxF token bits arg)

pub expression-sx : (token : ℕ) (bits : Number) (arg : Expr)
    → expression_of (expr.Sx token bits arg) ≡ expression_layer (SxF token bits (expression_of arg))
unfolding expression_of
expression-sx token bits arg = ap expression_of (sym (expr.rolls-Sx token bits arg))
    ∙ fold-roll-Expr Expression expression_layer (SxF token bits arg)

pub expression-slice : (token : ℕ) (low bits : Number) (arg : Expr)
    → expression_of (expr.Slice token low bits arg) ≡ expression_layer (Slice token low bits (expression_of arg))
unfolding expression_of
expression-slice token low bits arg = ap expression_of (sym (expr.rolls-Slice token low bits arg))
    ∙ fold-roll-Expr Expression expression_layer (Slice token low bits arg)

pub expression-name : (name : Ident) → expression_of (expr.Name name) ≡ expression_layer (Name name)
unfolding expression_of
expression-name name = ap expression_of (sym (expr.rolls-Name name))
    ∙ fold-roll-Expr Expression expression_layer (Name name)

pub expression-call : (name : Ident) (args : List Expr)
    → expression_of (expr.Call name args) ≡ expression_layer (Call name (map expression_of args))
unfolding expression_of
expression-call name args = ap expression_of (sym (expr.rolls-Call name args))
    ∙ fold-roll-Expr Expression expression_layer (Call name args)

pub expression-cell : (space : Ident) (cell : Number)
    → expression_of (expr.Cell space cell) ≡ expression_layer (Cell space cell)
unfolding expression_of
expression-cell space cell = ap expression_of (sym (expr.rolls-Cell space cell))
    ∙ fold-roll-Expr Expression expression_layer (Cell space cell)
