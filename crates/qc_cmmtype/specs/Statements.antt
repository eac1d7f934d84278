-- The faults of statements.
use Rattle.std.specs.Prelude.{ℕ, suc, nat_eq, List, [], ◌∷◌, ◌++◌, length, map, slice_get, is_some, Option, None, Some}
use Rattle.std.specs.List.{flat_map}
use Rattle.qc_grammar.specs.declared.cursor.Ident.{Ident}
use Rattle.qc_cmm.specs.declared.syntax.Expr.{Expr}
use Rattle.qc_cmm.specs.declared.syntax.Source.{Source}
use Rattle.qc_cmm.specs.declared.syntax.Source.TheVariants as assigned
use Rattle.qc_cmm.specs.declared.syntax.Statement.{Statement, fold-Statement}
use Rattle.qc_cmm.specs.declared.syntax.Statement.TheOpen as one
use Rattle.qc_cmm.specs.declared.syntax.Statement.TheOpen.{Statement-F}
use Rattle.qc_cmm.specs.declared.syntax.BodyItem.{BodyItem}
use Rattle.qc_cmm.specs.declared.syntax.BodyItem.TheVariants as line
use Rattle.qc_cmmtype.specs.declared.faults.ProgramFault.{ProgramFault}
use Rattle.qc_cmmtype.specs.declared.faults.ProgramFault.TheVariants.{UnknownName}
use Rattle.qc_cmmtype.specs.declared.scope.Signature.{Signature}
use Rattle.qc_cmmtype.specs.Faults.{unless, unknown_unless, arity}
use Rattle.qc_cmmtype.specs.Types.{width_of_type, type_faults}
use Rattle.qc_cmmtype.specs.Scopes.{Scope}
use Rattle.qc_cmmtype.specs.Expressions.{expression_faults, place_faults}

-- expressions at places that want the word's width
abbrev pub word_faults : Scope → List Expr → List ProgramFault
word_faults scope values = flat_map (expression_faults scope (Some scope.globals.word)) values

-- An argument has the width of the parameter of its number. One for which there is no parameter has any. The first of these
-- arguments has this number.
abbrev pub arguments_from : Scope → List ℕ → ℕ → List Expr → List ProgramFault
arguments_from scope params number [] = []
arguments_from scope params number (arg ∷ args) =
    expression_faults scope (slice_get params number) arg ++ arguments_from scope params (suc number) args

abbrev pub argument_faults : Scope → List ℕ → List Expr → List ProgramFault
argument_faults scope params args = arguments_from scope params 0 args

-- A call names a procedure, and has its numbers of parameters and results.
abbrev pub count_faults : ℕ → Signature → ℕ → ℕ → List ProgramFault
count_faults token s args targets =
    unless (nat_eq args (length s.params)) (arity token args (length s.params))
    ++ unless (nat_eq targets s.results) (arity token targets s.results)

abbrev pub callee_faults : Scope → ℕ → Option Signature → List Expr → ℕ → List ProgramFault
callee_faults scope token None args targets = UnknownName token ∷ argument_faults scope [] args
callee_faults scope token (Some s) args targets =
    count_faults token s (length args) targets ++ argument_faults scope s.params args

abbrev pub call_faults : Scope → Ident → List Expr → ℕ → List ProgramFault
call_faults scope name args targets = callee_faults scope name.token (scope.globals.callee name.text) args targets

-- A target is a parameter or variable.
abbrev pub target_faults : Scope → Ident → List ProgramFault
target_faults scope name = unknown_unless (is_some (scope.variable name.text)) name.token

-- The targets of a call and of `%in` have the word's width.
abbrev pub word_target_faults_of : ℕ → Option ℕ → ℕ → List ProgramFault
word_target_faults_of token None word = UnknownName token ∷ []
word_target_faults_of token (Some own) word = place_faults token own (Some word)

abbrev pub word_target_faults : Scope → Ident → List ProgramFault
word_target_faults scope name =
    word_target_faults_of name.token (scope.variable name.text) scope.globals.word

-- One value has one target. The fault of more stands at the second.
abbrev pub one_target_faults : List Ident → List ProgramFault
one_target_faults [] = []
one_target_faults (target ∷ []) = []
one_target_faults (target ∷ second ∷ targets) = arity second.token (suc (suc (length targets))) 1 ∷ []

-- the width of what is assigned is that of the first target
abbrev pub assigned_width : Scope → List Ident → Option ℕ
assigned_width scope [] = None
assigned_width scope (target ∷ targets) = scope.variable target.text

abbrev pub assignment_faults : Scope → List Ident → Source → List ProgramFault
assignment_faults scope targets (assigned.Input token) =
    flat_map (word_target_faults scope) targets ++ one_target_faults targets
assignment_faults scope targets (assigned.Value value) =
    flat_map (target_faults scope) targets
    ++ (one_target_faults targets ++ expression_faults scope (assigned_width scope targets) value)
assignment_faults scope targets (assigned.Call name args) =
    flat_map (word_target_faults scope) targets ++ call_faults scope name args (length targets)

-- All returns of a procedure have one number of results.
abbrev pub return_faults : Scope → ℕ → List Expr → List ProgramFault
return_faults scope token results =
    unless (nat_eq (length results) scope.results) (arity token (length results) scope.results)
    ++ word_faults scope results

abbrev pub store_faults : Scope → ℕ → Expr → Expr → List ProgramFault
store_faults scope width address value =
    expression_faults scope (Some scope.globals.word) address ++ expression_faults scope (Some width) value

-- the faults of the statements of a block, by those of each
abbrev pub of_block : Scope → List (Scope → List ProgramFault) → List ProgramFault
of_block scope body = flat_map (λ faults. faults scope) body

abbrev pub statement_layer : Statement-F (Scope → List ProgramFault) → Scope → List ProgramFault
statement_layer (one.Goto token label) scope = unknown_unless (scope.is_label label.text) label.token
statement_layer (one.Return token results) scope = return_faults scope token results
statement_layer (one.If token condition body) scope =
    expression_faults scope (Some scope.globals.word) condition ++ of_block scope body
statement_layer (one.IfElse token condition body otherwise) scope =
    expression_faults scope (Some scope.globals.word) condition ++ (of_block scope body ++ of_block scope otherwise)
statement_layer (one.Out token value) scope = expression_faults scope (Some scope.globals.word) value
statement_layer (one.Store t address value) scope =
    type_faults scope.globals.word t ++ store_faults scope (width_of_type t) address value
statement_layer (one.Call name args) scope = call_faults scope name args 0
statement_layer (one.Assign targets source) scope = assignment_faults scope targets source

-- the faults of a statement and of those in its blocks
unfoldable pub statement_faults_of : Statement → Scope → List ProgramFault
statement_faults_of = fold-Statement (Scope → List ProgramFault) statement_layer

abbrev pub statement_faults : Scope → Statement → List ProgramFault
statement_faults scope s = statement_faults_of s scope

abbrev pub block_faults : Scope → List Statement → List ProgramFault
block_faults scope body = of_block scope (map statement_faults_of body)

abbrev pub item_faults : Scope → BodyItem → List ProgramFault
item_faults scope (line.Label name) = []
item_faults scope (line.Statement statement) = statement_faults scope statement

abbrev pub body_faults : Scope → List BodyItem → List ProgramFault
body_faults scope body = flat_map (item_faults scope) body
