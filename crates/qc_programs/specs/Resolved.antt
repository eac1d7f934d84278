-- What a program's text comes to when each name has its number and each literal its word: expressions, statements, bodies and data.
use Rattle.std.specs.Prelude.{ℕ, suc, ◌+◌, ◌-◌, ◌%◌, ◌^◌, if◌then◌else◌, List, [], ◌∷◌, ◌++◌, codes, length, map, replicate, slice_index, is_some, Option, None, Some}
use Rattle.std.specs.List.{flat_map}
use Rattle.std.specs.Option.{option_or}
use Rattle.qc_words.specs.declared.operator.Op.TheVariants as op
use Rattle.qc_terms.specs.declared.state.Order.{Order}
use Rattle.qc_terms.specs.Memory.{digits_of, in_order}
use Rattle.qc_grammar.specs.declared.cursor.Ident.{Ident}
use Rattle.qc_names.specs.Tables.{first_place}
use Rattle.qc_names.specs.Seen.{texts_of}
use Rattle.qc_cmm.specs.declared.syntax.Expr.{Expr, fold-Expr}
use Rattle.qc_cmm.specs.declared.syntax.Expr.TheOpen as layer
use Rattle.qc_cmm.specs.declared.syntax.Expr.TheOpen.{Expr-F}
use Rattle.qc_cmm.specs.declared.syntax.Literal.{Literal}
use Rattle.qc_cmm.specs.declared.syntax.Literal.TheVariants.{Plain, Negative}
use Rattle.qc_cmm.specs.declared.syntax.Source.{Source}
use Rattle.qc_cmm.specs.declared.syntax.Source.TheVariants as assigned
use Rattle.qc_cmm.specs.declared.syntax.Statement.{Statement, fold-Statement}
use Rattle.qc_cmm.specs.declared.syntax.Statement.TheOpen as one
use Rattle.qc_cmm.specs.declared.syntax.Statement.TheOpen.{Statement-F}
use Rattle.qc_cmm.specs.declared.syntax.BodyItem.{BodyItem}
use Rattle.qc_cmm.specs.declared.syntax.BodyItem.TheVariants as line
use Rattle.qc_cmm.specs.declared.syntax.Datum.{Datum}
use Rattle.qc_cmm.specs.declared.syntax.Datum.TheVariants as datum
use Rattle.qc_cmm.specs.declared.syntax.Procedure.{Procedure}
use Rattle.qc_cmm.specs.declared.syntax.Program.{Program}
use Rattle.qc_cmmtype.specs.declared.prims.Prim.{Prim}
use Rattle.qc_cmmtype.specs.declared.prims.Prim.TheVariants.{Operation, Comparison, ZeroExtension, SignExtension, LowBits8, LowBits16, LowBits32}
use Rattle.qc_cmmtype.specs.declared.scope.Ground.{Ground}
use Rattle.qc_cmmtype.specs.declared.scope.Signature.{Signature}
use Rattle.qc_cmmtype.specs.Types.{width_of_type}
use Rattle.qc_cmmtype.specs.Prims.{prim_named}
use Rattle.qc_cmmtype.specs.Scopes.{Scope, globals_of, label_names, locals_of, scope_in}
use Rattle.qc_cmmtype.specs.Expressions.{width_of_name, width_of_prim, or_word}
use Rattle.qc_cmmtype.specs.Data.{address_of, bytes_of, bytes_of_type, data_in}
use Rattle.qc_cmmtype.specs.Measures.{procedures_of}
use Rattle.qc_programs.specs.Values.{Expression, Constant, Variable, Load, Unary, Binary}
use Rattle.qc_programs.specs.Todo.{Action, Todo, Assign, Input, Output, Store, Label, Goto, Call, Return, Nothing, Do, If}
use Rattle.qc_programs.specs.Steps.{Bodies, Body}

-- ---- names

-- What names stand for in a procedure's body: their widths and signatures, and their numbers. What is none of these has the
-- number 0, and doesn't stand in a typed program.
pub record Names : Type 0 where
  pub scope : Scope
  pub variable : List ℕ → ℕ
  pub label : List ℕ → ℕ
  pub procedure : List ℕ → ℕ
  pub address : List ℕ → ℕ

abbrev pub or_zero : Option ℕ → ℕ
or_zero None = 0
or_zero (Some n) = n

abbrev pub place_in : List Ident → List ℕ → ℕ
place_in names name = or_zero (first_place (texts_of names) name)

-- The labels of a procedure have numbers from one on.
abbrev pub names_in : Ground → Program → ℕ → Procedure → Names
names_in g program labels p = record {
  scope = scope_in (globals_of g.word program) p;
  variable = place_in (map (λ l. l.0) (locals_of p));
  label = λ name. labels + place_in (label_names p) name;
  procedure = place_in (map (λ q. q.name) (procedures_of program));
  address = λ name. or_zero (address_of g.data_start program name);
}

-- ---- expressions

-- the word of a literal at a width
abbrev pub word_of_literal : ℕ → Literal → ℕ
word_of_literal width (Plain n) = n.value % 2 ^ width
word_of_literal width (Negative token n) = (2 ^ width - n.value % 2 ^ width) % 2 ^ width

abbrev pub resolved_name : Names → List ℕ → Expression
resolved_name names name =
    if is_some (names.scope.variable name) then Variable (names.variable name) else Constant (names.address name)

-- A Prim of one operand, which has a width of its own or none, at a place that wants a width. An extension extends the operand
-- from its own width.
abbrev pub resolved_unary : ℕ → Option Prim → Option ℕ → (ℕ → Expression) → ℕ → Expression
resolved_unary word (Some (Operation o)) own arg wanted = Unary o wanted (arg wanted)
resolved_unary word (Some ZeroExtension) own arg wanted = Unary (op.Zx word) (or_zero own) (arg (or_zero own))
resolved_unary word (Some SignExtension) own arg wanted = Unary (op.Sx word) (or_zero own) (arg (or_zero own))
resolved_unary word (Some LowBits8) own arg wanted = Unary (op.Slice 0 8) word (arg word)
resolved_unary word (Some LowBits16) own arg wanted = Unary (op.Slice 0 16) word (arg word)
resolved_unary word (Some LowBits32) own arg wanted = Unary (op.Slice 0 32) word (arg word)
resolved_unary word _ own arg wanted = Constant 0

-- A Prim of two operands. A comparison compares them at the first width that one of them has, or at the word's.
abbrev pub compared_at : ℕ → Option ℕ → ℕ
compared_at word own = or_zero (or_word word own)

abbrev pub resolved_binary : ℕ → Option Prim → Option ℕ → (left right : ℕ → Expression) → ℕ → Expression
resolved_binary word (Some (Operation o)) own left right wanted = Binary o wanted (left wanted) (right wanted)
resolved_binary word (Some (Comparison o)) own left right wanted =
    Binary o (compared_at word own) (left (compared_at word own)) (right (compared_at word own))
resolved_binary word _ own left right wanted = Constant 0

-- an expression by its own width, if it has one, and what it is at a place that wants a width
pub record Resolving : Type 0 where
  pub own : Scope → Option ℕ
  pub at : Names → (wanted : ℕ) → Expression

abbrev pub prim_in : Scope → List ℕ → Option Prim
prim_in scope name = prim_named scope.globals.word name

abbrev pub expression_layer : Expr-F Resolving → Resolving
expression_layer (layer.Literal value) = record {
  own = λ scope. None;
  at = λ names wanted. Constant (word_of_literal wanted value);
}
expression_layer (layer.Name name) = record {
  own = λ scope. width_of_name scope name.text;
  at = λ names wanted. resolved_name names name.text;
}
expression_layer (layer.Load t address) = record {
  own = λ scope. Some (width_of_type t);
  at = λ names wanted. Load (bytes_of_type t) (address.at names names.scope.globals.word);
}
expression_layer (layer.Unary name arg) = record {
  own = λ scope. width_of_prim scope.globals.word (prim_in scope name.text) (arg.own scope);
  at = λ names wanted. resolved_unary names.scope.globals.word (prim_in names.scope name.text) (arg.own names.scope)
      (arg.at names) wanted;
}
expression_layer (layer.Binary name left right) = record {
  own = λ scope. width_of_prim scope.globals.word (prim_in scope name.text) (option_or (left.own scope) (right.own scope));
  at = λ names wanted. resolved_binary names.scope.globals.word (prim_in names.scope name.text)
      (option_or (left.own names.scope) (right.own names.scope)) (left.at names) (right.at names) wanted;
}

unfoldable pub resolving : Expr → Resolving
resolving = fold-Expr Resolving expression_layer

-- an expression at a place that wants a width
abbrev pub resolved : Names → (wanted : ℕ) → Expr → Expression
resolved names wanted e = (resolving e).at names wanted

abbrev pub resolved_word : Names → Expr → Expression
resolved_word names e = resolved names names.scope.globals.word e

-- ---- statements

-- arguments at the widths of the parameters, from one of a number on
abbrev pub arguments_from : Names → List ℕ → ℕ → List Expr → List Expression
arguments_from names params number [] = []
arguments_from names params number (arg ∷ args) =
    resolved names (slice_index params number) arg ∷ arguments_from names params (suc number) args

abbrev pub params_of : Option Signature → List ℕ
params_of None = []
params_of (Some s) = s.params

abbrev pub arguments : Names → Ident → List Expr → List Expression
arguments names callee args = arguments_from names (params_of (names.scope.globals.callee callee.text)) 0 args

abbrev pub first_target : List Ident → List ℕ
first_target [] = []
first_target (target ∷ targets) = target.text

abbrev pub resolved_source : Names → List Ident → Source → Action
resolved_source names targets (assigned.Input token) = Input (names.variable (first_target targets))
resolved_source names targets (assigned.Value value) =
    Assign (names.variable (first_target targets))
    (resolved names (or_zero (names.scope.variable (first_target targets))) value)
resolved_source names targets (assigned.Call callee args) =
    Call (map (λ t. names.variable t.text) targets) (names.procedure callee.text) (arguments names callee args)

-- a block of statements, each of which comes before what is to be done after it
abbrev pub in_turn : Names → List (Names → Todo → Todo) → Todo → Todo
in_turn names [] rest = rest
in_turn names (f ∷ fs) rest = f names (in_turn names fs rest)

abbrev pub statement_layer : Statement-F (Names → Todo → Todo) → Names → Todo → Todo
statement_layer (one.Goto token label) names rest = Do (Goto (names.label label.text)) rest
statement_layer (one.Return token results) names rest = Do (Return (map (resolved_word names) results)) rest
statement_layer (one.If token condition body) names rest =
    If (resolved_word names condition) (in_turn names body Nothing) Nothing rest
statement_layer (one.IfElse token condition body otherwise) names rest =
    If (resolved_word names condition) (in_turn names body Nothing) (in_turn names otherwise Nothing) rest
statement_layer (one.Out token value) names rest = Do (Output (resolved_word names value)) rest
statement_layer (one.Store t address value) names rest =
    Do (Store (bytes_of_type t) (resolved_word names address) (resolved names (width_of_type t) value)) rest
statement_layer (one.Call callee args) names rest =
    Do (Call [] (names.procedure callee.text) (arguments names callee args)) rest
statement_layer (one.Assign targets source) names rest = Do (resolved_source names targets source) rest

-- a statement before what is to be done after it
unfoldable pub statement_first : Statement → Names → Todo → Todo
statement_first = fold-Statement (Names → Todo → Todo) statement_layer

abbrev pub item_first : Names → BodyItem → Todo → Todo
item_first names (line.Label name) rest = Do (Label (names.label name.text)) rest
item_first names (line.Statement statement) rest = statement_first statement names rest

abbrev pub body_todo : Names → List BodyItem → Todo
body_todo names [] = Nothing
body_todo names (item ∷ items) = item_first names item (body_todo names items)

-- ---- programs

-- the bodies of procedures, whose labels have numbers from one on
abbrev pub bodies_from : Ground → Program → ℕ → List Procedure → List Body
bodies_from g program labels [] = []
bodies_from g program labels (p ∷ ps) =
    record { variables = length (locals_of p); todo = body_todo (names_in g program labels p) p.body }
    ∷ bodies_from g program (labels + length (label_names p)) ps

-- the bytes of a word of so many bytes
abbrev pub bytes_of_word : Order → (count word : ℕ) → List ℕ
bytes_of_word order count word = in_order order (digits_of count word)

abbrev pub datum_bytes : Order → Datum → List ℕ
datum_bytes order (datum.Label name) = []
datum_bytes order (datum.Zeros element count) = replicate (bytes_of (datum.Zeros element count)) 0
datum_bytes order (datum.Values element values) =
    flat_map (λ v. bytes_of_word order (bytes_of_type element) (word_of_literal (width_of_type element) v)) values

abbrev pub data_bytes : Order → Program → List ℕ
data_bytes order program = flat_map (datum_bytes order) (data_in program)

-- the data, and 0 in the rest of the region
abbrev pub region_bytes : Ground → Program → List ℕ
region_bytes g program =
    data_bytes g.order program ++ replicate (g.data_end - g.data_start - length (data_bytes g.order program)) 0

unfoldable pub bodies_of : Ground → Program → Bodies
bodies_of g program = record {
  procedures = bodies_from g program 0 (procedures_of program);
  main = place_in (map (λ p. p.name) (procedures_of program)) (codes "main");
  bytes = region_bytes g program;
}
