-- What is printed for a program.
use Rattle.std.specs.Prelude.{ℕ, List, [], ◌∷◌, ◌++◌, map, codes, ◌≡◌}
use Rattle.std.specs.List.{flat_map}
use Rattle.std.proofs.Common.{ap, sym, ◌∙◌}
use Rattle.std.proofs.lemmas.List.Folds.{flat_map-map}
use Rattle.qc_text.specs.PrintedWords.{Words}
use Rattle.qc_grammar.specs.declared.cursor.Ident.{Ident}
use Rattle.qc_grammar.specs.Printing.{digits, separated_words}
use Rattle.qc_cmm.specs.declared.syntax.Literal.{Literal}
use Rattle.qc_cmm.specs.declared.syntax.Literal.TheVariants.{Plain, Negative}
use Rattle.qc_cmm.specs.declared.syntax.WordType.{WordType}
use Rattle.qc_cmm.specs.declared.syntax.WordType.TheVariants.{Bits8, Bits16, Bits32, Bits64}
use Rattle.qc_cmm.specs.declared.syntax.Expr.{Expr, fold-Expr, fold-roll-Expr}
use Rattle.qc_cmm.specs.declared.syntax.Expr.TheVariants as expression
use Rattle.qc_cmm.specs.declared.syntax.Expr.TheOpen as layer
use Rattle.qc_cmm.specs.declared.syntax.Expr.TheOpen.{Expr-F}
use Rattle.qc_cmm.specs.declared.syntax.Source.{Source}
use Rattle.qc_cmm.specs.declared.syntax.Source.TheVariants as assigned
use Rattle.qc_cmm.specs.declared.syntax.Statement.{Statement, fold-Statement, fold-roll-Statement}
use Rattle.qc_cmm.specs.declared.syntax.Statement.TheVariants as step
use Rattle.qc_cmm.specs.declared.syntax.Statement.TheOpen as one
use Rattle.qc_cmm.specs.declared.syntax.Statement.TheOpen.{Statement-F}
use Rattle.qc_cmm.specs.declared.syntax.BodyItem.{BodyItem}
use Rattle.qc_cmm.specs.declared.syntax.BodyItem.TheVariants as line
use Rattle.qc_cmm.specs.declared.syntax.Declaration.{Declaration}
use Rattle.qc_cmm.specs.declared.syntax.Param.{Param}
use Rattle.qc_cmm.specs.declared.syntax.Procedure.{Procedure}
use Rattle.qc_cmm.specs.declared.syntax.Datum.{Datum}
use Rattle.qc_cmm.specs.declared.syntax.Datum.TheVariants as datum_of
use Rattle.qc_cmm.specs.declared.syntax.Part.{Part}
use Rattle.qc_cmm.specs.declared.syntax.Part.TheVariants as part_of
use Rattle.qc_cmm.specs.declared.syntax.ByteOrder.{ByteOrder}
use Rattle.qc_cmm.specs.declared.syntax.ByteOrder.TheVariants.{Little, Big}
use Rattle.qc_cmm.specs.declared.syntax.Target.{Target}
use Rattle.qc_cmm.specs.declared.syntax.Program.{Program}
use Rattle.qc_cmm.specs.Cmm.{Rule, TreeOf, any_expr, any_statement, any_body}

abbrev pub type_word : WordType → List ℕ
type_word (Bits8 token) = codes "bits8"
type_word (Bits16 token) = codes "bits16"
type_word (Bits32 token) = codes "bits32"
type_word (Bits64 token) = codes "bits64"

abbrev pub type_words : WordType → Words
type_words t = type_word t ∷ []

abbrev pub literal_words : Literal → Words
literal_words (Plain value) = digits value ∷ []
literal_words (Negative token value) = codes "-" ∷ digits value ∷ []

abbrev pub name_words : Ident → Words
name_words name = name.text ∷ []

-- something in brackets
abbrev pub indexed : Words → Words
indexed words = codes "[" ∷ (words ++ codes "]" ∷ [])

-- one operand, or two, after a Prim
abbrev pub applied_to : Words → Words
applied_to words = codes "(" ∷ (words ++ codes ")" ∷ [])

abbrev pub applied_to_both : Words → Words → Words
applied_to_both first second = codes "(" ∷ (first ++ codes "," ∷ (second ++ codes ")" ∷ []))

abbrev pub expr_layer : Expr-F Words → Words
expr_layer (layer.Literal value) = literal_words value
expr_layer (layer.Name name) = name.text ∷ []
expr_layer (layer.Load t address) = type_word t ∷ indexed address
expr_layer (layer.Unary prim arg) = prim.text ∷ applied_to arg
expr_layer (layer.Binary prim left right) = prim.text ∷ applied_to_both left right

-- the words of an expression
unfoldable pub expr_words : Expr → Words
expr_words = fold-Expr Words expr_layer

pub expr_words-literal : (value : Literal) → expr_words (expression.Literal value) ≡ literal_words value
unfolding expr_words
expr_words-literal value = ap expr_words (sym (expression.rolls-Literal value))
    ∙ fold-roll-Expr Words expr_layer (layer.Literal value)

pub expr_words-name : (name : Ident) → expr_words (expression.Name name) ≡ name.text ∷ []
unfolding expr_words
expr_words-name name = ap expr_words (sym (expression.rolls-Name name))
    ∙ fold-roll-Expr Words expr_layer (layer.Name name)

pub expr_words-load : (t : WordType) (address : Expr)
    → expr_words (expression.Load t address) ≡ type_word t ∷ indexed (expr_words address)
unfolding expr_words
expr_words-load t address = ap expr_words (sym (expression.rolls-Load t address))
    ∙ fold-roll-Expr Words expr_layer (layer.Load t address)

pub expr_words-unary : (prim : Ident) (arg : Expr)
    → expr_words (expression.Unary prim arg) ≡ prim.text ∷ applied_to (expr_words arg)
unfolding expr_words
expr_words-unary prim arg = ap expr_words (sym (expression.rolls-Unary prim arg))
    ∙ fold-roll-Expr Words expr_layer (layer.Unary prim arg)

pub expr_words-binary : (prim : Ident) (left right : Expr)
    → expr_words (expression.Binary prim left right)
    ≡ prim.text ∷ applied_to_both (expr_words left) (expr_words right)
unfolding expr_words
expr_words-binary prim left right = ap expr_words (sym (expression.rolls-Binary prim left right))
    ∙ fold-roll-Expr Words expr_layer (layer.Binary prim left right)

-- expressions with commas between them, and the bracket that closes them
abbrev pub arguments_words : List Expr → Words
arguments_words args = separated_words (codes ",") expr_words args ++ codes ")" ∷ []

abbrev pub call_words : Ident → List Expr → Words
call_words name args = name.text ∷ codes "(" ∷ arguments_words args

-- what is assigned
unfoldable pub source_words : Source → Words
source_words (assigned.Input token) = codes "%in" ∷ codes "(" ∷ codes ")" ∷ []
source_words (assigned.Value value) = expr_words value
source_words (assigned.Call name args) = call_words name args

abbrev pub in_braces : Words → Words
in_braces words = codes "{" ∷ (words ++ codes "}" ∷ [])

abbrev pub statement_layer : Statement-F Words → Words
statement_layer (one.Goto token label) = codes "goto" ∷ label.text ∷ codes ";" ∷ []
statement_layer (one.Return token results) = codes "return" ∷ codes "(" ∷ (arguments_words results ++ codes ";" ∷ [])
statement_layer (one.If token condition body) =
    codes "if" ∷ (expr_words condition ++ in_braces (flat_map (λ words. words) body))
statement_layer (one.IfElse token condition body otherwise) =
    codes "if" ∷ (expr_words condition ++ (in_braces (flat_map (λ words. words) body)
    ++ codes "else" ∷ in_braces (flat_map (λ words. words) otherwise)))
statement_layer (one.Out token value) = codes "%out" ∷ (applied_to (expr_words value) ++ codes ";" ∷ [])
statement_layer (one.Store t address value) =
    type_word t ∷ (indexed (expr_words address) ++ codes "=" ∷ (expr_words value ++ codes ";" ∷ []))
statement_layer (one.Call name args) = call_words name args ++ codes ";" ∷ []
statement_layer (one.Assign targets source) =
    separated_words (codes ",") name_words targets ++ codes "=" ∷ (source_words source ++ codes ";" ∷ [])

-- the words of a statement
unfoldable pub statement_words : Statement → Words
statement_words = fold-Statement Words statement_layer

abbrev pub block_words : List Statement → Words
block_words statements = in_braces (flat_map statement_words statements)

pub statement_words-goto : (token : ℕ) (label : Ident)
    → statement_words (step.Goto token label) ≡ codes "goto" ∷ label.text ∷ codes ";" ∷ []
unfolding statement_words
statement_words-goto token label = ap statement_words (sym (step.rolls-Goto token label))
    ∙ fold-roll-Statement Words statement_layer (one.Goto token label)

pub statement_words-return : (token : ℕ) (results : List Expr)
    → statement_words (step.Return token results)
    ≡ codes "return" ∷ codes "(" ∷ (arguments_words results ++ codes ";" ∷ [])
unfolding statement_words
statement_words-return token results = ap statement_words (sym (step.rolls-Return token results))
    ∙ fold-roll-Statement Words statement_layer (one.Return token results)

pub statement_words-out : (token : ℕ) (value : Expr)
    → statement_words (step.Out token value) ≡ codes "%out" ∷ (applied_to (expr_words value) ++ codes ";" ∷ [])
unfolding statement_words
statement_words-out token value = ap statement_words (sym (step.rolls-Out token value))
    ∙ fold-roll-Statement Words statement_layer (one.Out token value)

pub statement_words-store : (t : WordType) (address value : Expr)
    → statement_words (step.Store t address value)
    ≡ type_word t ∷ (indexed (expr_words address) ++ codes "=" ∷ (expr_words value ++ codes ";" ∷ []))
unfolding statement_words
statement_words-store t address value = ap statement_words (sym (step.rolls-Store t address value))
    ∙ fold-roll-Statement Words statement_layer (one.Store t address value)

pub statement_words-call : (name : Ident) (args : List Expr)
    → statement_words (step.Call name args) ≡ call_words name args ++ codes ";" ∷ []
unfolding statement_words
statement_words-call name args = ap statement_words (sym (step.rolls-Call name args))
    ∙ fold-roll-Statement Words statement_layer (one.Call name args)

pub statement_words-assign : (targets : List Ident) (source : Source)
    → statement_words (step.Assign targets source)
    ≡ separated_words (codes ",") name_words targets ++ codes "=" ∷ (source_words source ++ codes ";" ∷ [])
unfolding statement_words
statement_words-assign targets source = ap statement_words (sym (step.rolls-Assign targets source))
    ∙ fold-roll-Statement Words statement_layer (one.Assign targets source)

pub statement_words-if : (token : ℕ) (condition : Expr) (body : List Statement)
    → statement_words (step.If token condition body)
    ≡ codes "if" ∷ (expr_words condition ++ block_words body)
unfolding statement_words
statement_words-if token condition body =
    ap statement_words (sym (step.rolls-If token condition body))
    ∙ fold-roll-Statement Words statement_layer (one.If token condition body)
    ∙ ap (λ ws. codes "if" ∷ (expr_words condition ++ in_braces ws))
    (flat_map-map (λ words. words) statement_words body)

pub statement_words-if_else : (token : ℕ) (condition : Expr) (body otherwise : List Statement)
    → statement_words (step.IfElse token condition body otherwise)
    ≡ codes "if" ∷ (expr_words condition ++ (block_words body ++ codes "else" ∷ block_words otherwise))
unfolding statement_words
statement_words-if_else token condition body otherwise =
    ap statement_words (sym (step.rolls-IfElse token condition body otherwise))
    ∙ fold-roll-Statement Words statement_layer (one.IfElse token condition body otherwise)
    ∙ ap (λ ws. codes "if" ∷ (expr_words condition
    ++ (in_braces ws ++ codes "else" ∷ in_braces (flat_map (λ words. words) (map statement_words otherwise)))))
    (flat_map-map (λ words. words) statement_words body)
    ∙ ap (λ ws. codes "if" ∷ (expr_words condition ++ (block_words body ++ codes "else" ∷ in_braces ws)))
    (flat_map-map (λ words. words) statement_words otherwise)

-- a label, or a statement
unfoldable pub body_item_words : BodyItem → Words
body_item_words (line.Label name) = name.text ∷ codes ":" ∷ []
body_item_words (line.Statement statement) = statement_words statement

abbrev pub body_items_words : List BodyItem → Words
body_items_words items = flat_map body_item_words items ++ codes "}" ∷ []

unfoldable pub declaration_words : Declaration → Words
declaration_words d = type_word d.type_of ∷ (separated_words (codes ",") name_words d.names ++ codes ";" ∷ [])

-- what comes in a procedure after the brace that opens it
abbrev pub body_words : List Declaration → List BodyItem → Words
body_words variables items = flat_map declaration_words variables ++ body_items_words items

unfoldable pub param_words : Param → Words
param_words p = type_word p.type_of ∷ p.name.text ∷ []

abbrev pub params_words : List Param → Words
params_words params = codes "(" ∷ (separated_words (codes ",") param_words params ++ codes ")" ∷ [])

abbrev pub procedure_words : Procedure → Words
procedure_words p = p.name.text ∷ (params_words p.params ++ codes "{" ∷ body_words p.variables p.body)

-- data, or a name for their place
unfoldable pub datum_words : Datum → Words
datum_words (datum_of.Label name) = name.text ∷ codes ":" ∷ []
datum_words (datum_of.Zeros t count) = type_word t ∷ codes "[" ∷ digits count ∷ codes "]" ∷ codes ";" ∷ []
datum_words (datum_of.Values t values) =
    type_word t ∷ codes "{" ∷ ((separated_words (codes ",") literal_words values ++ codes "}" ∷ []) ++ codes ";" ∷ [])

-- a section, or a procedure
unfoldable pub part_words : Part → Words
part_words (part_of.Section token name data_of) =
    codes "section" ∷ name.text ∷ in_braces (flat_map datum_words data_of)
part_words (part_of.Procedure p) = procedure_words p

abbrev pub order_word : ByteOrder → List ℕ
order_word (Little token) = codes "little"
order_word (Big token) = codes "big"

abbrev pub target_words : Target → Words
target_words t =
    codes "target" ∷ codes "byteorder" ∷ order_word t.order ∷ codes "wordsize" ∷ digits t.word_size ∷ codes ";" ∷ []

-- the words of a program
abbrev pub program_words : Program → Words
program_words p = target_words p.target ++ flat_map part_words p.parts

abbrev pub rule_words : (r : Rule) → TreeOf r → Words
rule_words any_expr = expr_words
rule_words any_statement = statement_words
rule_words any_body = λ tree. body_words tree.0 tree.1
