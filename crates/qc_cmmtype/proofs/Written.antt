-- The parts of what each sort of expression is.
use Rattle.std.specs.Prelude.{ℕ, ◌≡◌, ◌++◌, Option, None, Some}
use Rattle.std.specs.Option.{option_or}
use Rattle.std.proofs.Common.{ap, sym, ◌∙◌}
use Rattle.qc_grammar.specs.declared.cursor.Ident.{Ident}
use Rattle.qc_cmm.specs.declared.syntax.Literal.{Literal}
use Rattle.qc_cmm.specs.declared.syntax.WordType.{WordType}
use Rattle.qc_cmm.specs.declared.syntax.Expr.{Expr, fold-roll-Expr}
use Rattle.qc_cmm.specs.declared.syntax.Expr.TheVariants as expr
use Rattle.qc_cmm.specs.declared.syntax.Expr.TheOpen as layer
use Rattle.qc_names.specs.Law.Reported.{reported-append, both_assoc, both-none}
use Rattle.qc_cmmtype.specs.Types.{width_of_type, token_of_type, token_of_literal, literal_faults}
use Rattle.qc_cmmtype.specs.Prims.{prim_named}
use Rattle.qc_cmmtype.specs.Scopes.{Scope}
use Rattle.qc_cmmtype.specs.Expressions.{Expression, expression_layer, expression_of, first_token, own_width, expression_faults, width_of_name, width_of_prim, wanted_inside, name_faults, load_faults, unary_faults, binary_faults}

-- the expression of each variant
pub expression-literal : (value : Literal) → expression_of (expr.Literal value) ≡ expression_layer (layer.Literal value)
unfolding expression_of
expression-literal value = ap expression_of (sym (expr.rolls-Literal value))
    ∙ fold-roll-Expr Expression expression_layer (layer.Literal value)

pub expression-name : (name : Ident) → expression_of (expr.Name name) ≡ expression_layer (layer.Name name)
unfolding expression_of
expression-name name = ap expression_of (sym (expr.rolls-Name name))
    ∙ fold-roll-Expr Expression expression_layer (layer.Name name)

pub expression-load : (t : WordType) (address : Expr) → expression_of (expr.Load t address) ≡ expression_layer (layer.Load t (expression_of address))
unfolding expression_of
expression-load t address = ap expression_of (sym (expr.rolls-Load t address))
    ∙ fold-roll-Expr Expression expression_layer (layer.Load t address)

pub expression-unary : (name : Ident) (arg : Expr) → expression_of (expr.Unary name arg) ≡ expression_layer (layer.Unary name (expression_of arg))
unfolding expression_of
expression-unary name arg = ap expression_of (sym (expr.rolls-Unary name arg))
    ∙ fold-roll-Expr Expression expression_layer (layer.Unary name arg)

pub expression-binary : (name : Ident) (left right : Expr) → expression_of (expr.Binary name left right) ≡ expression_layer (layer.Binary name (expression_of left) (expression_of right))
unfolding expression_of
expression-binary name left right = ap expression_of (sym (expr.rolls-Binary name left right))
    ∙ fold-roll-Expr Expression expression_layer (layer.Binary name left right)

pub first-literal : (value : Literal) → first_token (expr.Literal value) ≡ token_of_literal value
first-literal value = ap (λ e. e.first) (expression-literal value)

pub first-name : (name : Ident) → first_token (expr.Name name) ≡ name.token
first-name name = ap (λ e. e.first) (expression-name name)

pub first-load : (t : WordType) (address : Expr) → first_token (expr.Load t address) ≡ token_of_type t
first-load t address = ap (λ e. e.first) (expression-load t address)

pub first-unary : (name : Ident) (arg : Expr) → first_token (expr.Unary name arg) ≡ name.token
first-unary name arg = ap (λ e. e.first) (expression-unary name arg)

pub first-binary : (name : Ident) (left right : Expr) → first_token (expr.Binary name left right) ≡ name.token
first-binary name left right = ap (λ e. e.first) (expression-binary name left right)

pub ruleset first_tokens = (first-literal, first-name, first-load, first-unary, first-binary)

pub own-literal : (scope : Scope) (value : Literal) → own_width scope (expr.Literal value)
    ≡ None
own-literal scope value = ap (λ e. e.own scope) (expression-literal value)

pub own-name : (scope : Scope) (name : Ident) → own_width scope (expr.Name name)
    ≡ width_of_name scope name.text
own-name scope name = ap (λ e. e.own scope) (expression-name name)

pub own-load : (scope : Scope) (t : WordType) (address : Expr) → own_width scope (expr.Load t address)
    ≡ Some (width_of_type t)
own-load scope t address = ap (λ e. e.own scope) (expression-load t address)

pub own-unary : (scope : Scope) (name : Ident) (arg : Expr) → own_width scope (expr.Unary name arg)
    ≡ width_of_prim scope.globals.word (prim_named scope.globals.word name.text) (own_width scope arg)
own-unary scope name arg = ap (λ e. e.own scope) (expression-unary name arg)

pub own-binary : (scope : Scope) (name : Ident) (left right : Expr) → own_width scope (expr.Binary name left right)
    ≡ width_of_prim scope.globals.word (prim_named scope.globals.word name.text)
    (option_or (own_width scope left) (own_width scope right))
own-binary scope name left right = ap (λ e. e.own scope) (expression-binary name left right)

pub ruleset own_widths = (own-literal, own-name, own-load, own-unary, own-binary)

pub faults-literal : (scope : Scope) (wanted : Option ℕ) (value : Literal) → expression_faults scope wanted (expr.Literal value)
    ≡ literal_faults value wanted
faults-literal scope wanted value = ap (λ e. e.faults scope wanted) (expression-literal value)

pub faults-name : (scope : Scope) (wanted : Option ℕ) (name : Ident) → expression_faults scope wanted (expr.Name name)
    ≡ name_faults name.token (width_of_name scope name.text) wanted
faults-name scope wanted name = ap (λ e. e.faults scope wanted) (expression-name name)

pub faults-load : (scope : Scope) (wanted : Option ℕ) (t : WordType) (address : Expr) → expression_faults scope wanted (expr.Load t address)
    ≡ load_faults scope.globals.word (token_of_type t) (width_of_type t) wanted
    ++ expression_faults scope (Some scope.globals.word) address
faults-load scope wanted t address = ap (λ e. e.faults scope wanted) (expression-load t address)

pub faults-unary : (scope : Scope) (wanted : Option ℕ) (name : Ident) (arg : Expr) → expression_faults scope wanted (expr.Unary name arg)
    ≡ unary_faults scope name (prim_named scope.globals.word name.text) (expression_of arg) wanted
faults-unary scope wanted name arg = ap (λ e. e.faults scope wanted) (expression-unary name arg)

pub faults-binary : (scope : Scope) (wanted : Option ℕ) (name : Ident) (left right : Expr) → expression_faults scope wanted (expr.Binary name left right)
    ≡ binary_faults scope name (prim_named scope.globals.word name.text) (expression_of left)
    (expression_of right) wanted (wanted_inside scope.globals.word (prim_named scope.globals.word name.text) wanted
    (option_or (own_width scope left) (own_width scope right)))
faults-binary scope wanted name left right = ap (λ e. e.faults scope wanted) (expression-binary name left right)

pub ruleset faults =
    (faults-literal, faults-name, faults-load, faults-unary, faults-binary, reported-append, both_assoc, both-none)
