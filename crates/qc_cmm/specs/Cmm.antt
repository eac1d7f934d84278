-- The grammar of C-- programs, rule by rule. Words in quotes are reserved, and no names.
use Rattle.std.specs.Prelude.{ℕ, List, [], ◌∷◌, codes, ◌≡◌, refl}
use Rattle.qc_text.specs.declared.token.Kind.TheVariants as kind
use Rattle.qc_grammar.specs.declared.cursor.Ident.{Ident}
use Rattle.qc_grammar.specs.declared.lists.ItemOrLast.{ItemOrLast}
use Rattle.qc_grammar.specs.declared.lists.ItemOrLast.TheVariants.{Item, Last}
use Rattle.qc_grammar.specs.Lexeme.{Class, Word, Lexeme}
use Rattle.qc_grammar.specs.Grammar.{Grammar, nonterminal, empty, repetition, ◌<+>◌, ◌*>◌, ◌<*◌, ◌<|>◌, ◌<$>◌, word, ident, name, number, headed, separated, items_then_last, Syntax}
use Rattle.qc_grammar.specs.Lists.{items_then_last_reading}
use Rattle.qc_grammar.specs.Reading.{reads}
use Rattle.qc_grammar.specs.Law.LL1.{IsReadable}
use Rattle.qc_grammar.specs.Law.Lists.{Shortens, shortens_of}
use Rattle.qc_grammar.specs.Law.Fuel.{unroll}
use Rattle.qc_grammar.specs.Law.UntilLast.{ItemsShorten, items_shorten, until_last_unrolls}
use Rattle.qc_cmm.specs.declared.syntax.Literal.{Literal}
use Rattle.qc_cmm.specs.declared.syntax.Literal.TheVariants.{Plain, Negative}
use Rattle.qc_cmm.specs.declared.syntax.WordType.{WordType}
use Rattle.qc_cmm.specs.declared.syntax.WordType.TheVariants.{Bits8, Bits16, Bits32, Bits64}
use Rattle.qc_cmm.specs.declared.syntax.Expr.{Expr}
use Rattle.qc_cmm.specs.declared.syntax.Expr.TheVariants as expression
use Rattle.qc_cmm.specs.declared.syntax.Source.{Source}
use Rattle.qc_cmm.specs.declared.syntax.Source.TheVariants as assigned
use Rattle.qc_cmm.specs.declared.syntax.Statement.{Statement}
use Rattle.qc_cmm.specs.declared.syntax.Statement.TheVariants as step
use Rattle.qc_cmm.specs.declared.syntax.BodyItem.{BodyItem}
use Rattle.qc_cmm.specs.declared.syntax.BodyItem.TheVariants as line
use Rattle.qc_cmm.specs.declared.syntax.Declaration.{Declaration}
use Rattle.qc_cmm.specs.declared.syntax.Param.{Param}
use Rattle.qc_cmm.specs.declared.syntax.Procedure.{Procedure}
use Rattle.qc_cmm.specs.declared.syntax.Datum.{Datum}
use Rattle.qc_cmm.specs.declared.syntax.Datum.TheVariants as datum_of
use Rattle.qc_cmm.specs.declared.syntax.Part.{Part}
use Rattle.qc_cmm.specs.declared.syntax.Part.TheVariants as part_of
use Rattle.qc_cmm.specs.declared.syntax.ByteOrder.{ByteOrder}
use Rattle.qc_cmm.specs.declared.syntax.ByteOrder.TheVariants.{Little, Big}
use Rattle.qc_cmm.specs.declared.syntax.Target.{Target}
use Rattle.qc_cmm.specs.declared.syntax.Program.{Program}

-- the rules that may come inside themselves
pub data Rule : Type 0 where
  any_expr any_statement any_body : Rule

abbrev pub TreeOf : Rule → Type 0
TreeOf any_expr = Expr
TreeOf any_statement = Statement
TreeOf any_body = List Declaration × List BodyItem

-- type_of = "bits8" | "bits16" | "bits32" | "bits64"
unfoldable pub type_of : Grammar Rule TreeOf WordType
type_of =
    Bits8 <$> word (codes "bits8")
    <|> Bits16 <$> word (codes "bits16")
    <|> Bits32 <$> word (codes "bits32")
    <|> Bits64 <$> word (codes "bits64")

-- literal = number | "-" number
unfoldable pub literal : Grammar Rule TreeOf Literal
literal = Plain <$> number <|> (λ p. Negative p.0 p.1) <$> word (codes "-") <+> number

-- address = "[" expr "]"
unfoldable pub address : Grammar Rule TreeOf Expr
address = word (codes "[") *> nonterminal any_expr <* word (codes "]")

-- after_operand = "," expr ")" | ")", after the first operand
unfoldable pub after_operand : Grammar Rule TreeOf (Expr → Ident → Expr)
after_operand =
    (λ second first prim. expression.Binary prim first second)
    <$> word (codes ",") *> nonterminal any_expr <* word (codes ")")
    <|> (λ _ first prim. expression.Unary prim first) <$> word (codes ")")

-- operands = expr after_operand, after a Prim and the bracket behind it
unfoldable pub operands : Grammar Rule TreeOf (Ident → Expr)
operands = headed (nonterminal any_expr) after_operand

-- input = "%in"
unfoldable pub input : Grammar Rule TreeOf Ident
input = (λ n. record { token = n; text = codes "%in" }) <$> word (codes "%in")

-- prim = Prim | "%out", the Prims but "%in"
unfoldable pub prim : Grammar Rule TreeOf Ident
prim = ident kind.Prim <|> (λ n. record { token = n; text = codes "%out" }) <$> word (codes "%out")

-- load = type_of address
unfoldable pub load : Grammar Rule TreeOf Expr
load = (λ p. expression.Load p.0 p.1) <$> type_of <+> address

-- applied_prim = prim "(" operands
unfoldable pub applied_prim : Grammar Rule TreeOf Expr
applied_prim = headed prim (word (codes "(") *> operands)

-- applied_input = input "(" operands
unfoldable pub applied_input : Grammar Rule TreeOf Expr
applied_input = headed input (word (codes "(") *> operands)

-- plain = literal | load | applied_prim, the expressions that begin with no name and not with "%in"
unfoldable pub plain : Grammar Rule TreeOf Expr
plain = expression.Literal <$> literal <|> load <|> applied_prim

-- expr = name | applied_input | plain
unfoldable pub expr : Grammar Rule TreeOf Expr
expr = expression.Name <$> name <|> applied_input <|> plain

-- arguments = [ expr { "," expr } ] ")", after the bracket before them
unfoldable pub arguments : Grammar Rule TreeOf (List Expr)
arguments =
    (λ _. []) <$> word (codes ")") <|> separated (nonterminal any_expr) (codes ",") <* word (codes ")")

-- after_name = [ "(" arguments ], after a name that is assigned
unfoldable pub after_name : Grammar Rule TreeOf (Ident → Source)
after_name =
    (λ args n. assigned.Call n args) <$> word (codes "(") *> arguments
    <|> empty (λ n. assigned.Value (expression.Name n))

-- after_input = ")" | operands, after "%in" and the bracket behind it
unfoldable pub after_input : Grammar Rule TreeOf (Ident → Source)
after_input =
    (λ _ prim. assigned.Input prim.token) <$> word (codes ")")
    <|> (λ applied prim. assigned.Value (applied prim)) <$> operands

-- from_input = input "(" after_input
unfoldable pub from_input : Grammar Rule TreeOf Source
from_input = headed input (word (codes "(") *> after_input)

-- source = name after_name | from_input | plain
unfoldable pub source : Grammar Rule TreeOf Source
source = headed name after_name <|> from_input <|> assigned.Value <$> plain

-- named = "(" arguments ";" | { "," name } "=" source ";", after a name that begins a statement
unfoldable pub named : Grammar Rule TreeOf (Ident → Statement)
named =
    (λ args n. step.Call n args) <$> word (codes "(") *> arguments <* word (codes ";")
    <|> (λ p n. step.Assign (n ∷ p.0) p.1)
    <$> repetition (word (codes ",") *> name) <+> (word (codes "=") *> source <* word (codes ";"))

-- stored = address "=" expr ";", after the type of what is stored
unfoldable pub stored : Grammar Rule TreeOf (WordType → Statement)
stored = (λ p t. step.Store t p.0 p.1) <$> address <+> (word (codes "=") *> nonterminal any_expr <* word (codes ";"))

-- store = type_of stored
unfoldable pub store : Grammar Rule TreeOf Statement
store = headed type_of stored

-- statements = { statement }
unfoldable pub statements : Grammar Rule TreeOf (List Statement)
statements = repetition (nonterminal any_statement)

-- block = "{" statements "}"
unfoldable pub block : Grammar Rule TreeOf (List Statement)
block = word (codes "{") *> statements <* word (codes "}")

-- after_block = [ "else" block ], after the block of an `if`
unfoldable pub after_block : Grammar Rule TreeOf (ℕ → Expr → List Statement → Statement)
after_block =
    (λ otherwise token condition body. step.IfElse token condition body otherwise) <$> word (codes "else") *> block
    <|> empty (λ token condition body. step.If token condition body)

-- conditional = "if" expr block after_block
unfoldable pub conditional : Grammar Rule TreeOf Statement
conditional =
    (λ p. p.1.1.1 p.0 p.1.0 p.1.1.0) <$> word (codes "if") <+> nonterminal any_expr <+> block <+> after_block

-- keyed = "goto" name ";" | "return" "(" arguments ";" | "%out" "(" expr ")" ";" | conditional
unfoldable pub keyed : Grammar Rule TreeOf Statement
keyed =
    (λ p. step.Goto p.0 p.1) <$> word (codes "goto") <+> name <* word (codes ";")
    <|> (λ p. step.Return p.0 p.1) <$> word (codes "return") <+> (word (codes "(") *> arguments <* word (codes ";"))
    <|> (λ p. step.Out p.0 p.1)
    <$> word (codes "%out") <+> (word (codes "(") *> nonterminal any_expr <* word (codes ")") <* word (codes ";"))
    <|> conditional

-- statement = name named | keyed | store
unfoldable pub statement : Grammar Rule TreeOf Statement
statement = headed name named <|> keyed <|> store

-- after_label = ":" | named, after a name in a body
unfoldable pub after_label : Grammar Rule TreeOf (Ident → BodyItem)
after_label = (λ _ n. line.Label n) <$> word (codes ":") <|> (λ f n. line.Statement (f n)) <$> named

-- untyped = name after_label | keyed, what may stand in a body and begins with no type
unfoldable pub untyped : Grammar Rule TreeOf BodyItem
untyped = headed name after_label <|> line.Statement <$> keyed

-- body_item = untyped | store
unfoldable pub body_item : Grammar Rule TreeOf BodyItem
body_item = untyped <|> line.Statement <$> store

-- body_items = { body_item } "}"
unfoldable pub body_items : Grammar Rule TreeOf (List BodyItem)
body_items = repetition body_item <* word (codes "}")

-- declared = name { "," name } ";", after the type of variables
unfoldable pub declared : Grammar Rule TreeOf (WordType → Declaration)
declared = (λ names t. record { type_of = t; names = names }) <$> separated name (codes ",") <* word (codes ";")

-- first_stored = stored body_items, after the type of what is stored
unfoldable pub first_stored : Grammar Rule TreeOf (WordType → List BodyItem)
first_stored = (λ p t. line.Statement (p.0 t) ∷ p.1) <$> stored <+> body_items

-- untyped_items = untyped body_items
unfoldable pub untyped_items : Grammar Rule TreeOf (List BodyItem)
untyped_items = (λ p. p.0 ∷ p.1) <$> untyped <+> body_items

-- untyped_first = untyped_items | "}"
unfoldable pub untyped_first : Grammar Rule TreeOf (List BodyItem)
untyped_first = untyped_items <|> (λ _. []) <$> word (codes "}")

-- typed_next = type_of ( declared | first_stored )
unfoldable pub typed_next : Grammar Rule TreeOf (ItemOrLast Declaration (List BodyItem))
typed_next = headed type_of ((λ f t. Item (f t)) <$> declared <|> (λ f t. Last (f t)) <$> first_stored)

-- next_of_body = typed_next | untyped_first
unfoldable pub next_of_body : Grammar Rule TreeOf (ItemOrLast Declaration (List BodyItem))
next_of_body = typed_next <|> Last <$> untyped_first

-- body = { type_of declared } ( type_of first_stored | untyped_first )
unfoldable pub body : Grammar Rule TreeOf (List Declaration × List BodyItem)
body = items_then_last type_of declared first_stored untyped_first (nonterminal any_body)

-- param = type_of name
unfoldable pub param : Grammar Rule TreeOf Param
param = (λ p. record { type_of = p.0; name = p.1 }) <$> type_of <+> name

-- params = "(" [ param { "," param } ] ")"
unfoldable pub params : Grammar Rule TreeOf (List Param)
params = word (codes "(") *> ((λ _. []) <$> word (codes ")") <|> separated param (codes ",") <* word (codes ")"))

-- procedure = name params "{" body
unfoldable pub procedure : Grammar Rule TreeOf Procedure
procedure =
    (λ p. record { name = p.0; params = p.1.0; variables = p.1.1.0; body = p.1.1.1 })
    <$> name <+> params <+> (word (codes "{") *> nonterminal any_body)

-- elements = "[" number "]" ";" | "{" literal { "," literal } "}" ";", after their type
unfoldable pub elements : Grammar Rule TreeOf (WordType → Datum)
elements =
    (λ count t. datum_of.Zeros t count) <$> word (codes "[") *> number <* word (codes "]") <* word (codes ";")
    <|> (λ values t. datum_of.Values t values)
    <$> word (codes "{") *> separated literal (codes ",") <* word (codes "}") <* word (codes ";")

-- typed_data = type_of elements
unfoldable pub typed_data : Grammar Rule TreeOf Datum
typed_data = headed type_of elements

-- datum = name ":" | typed_data
unfoldable pub datum : Grammar Rule TreeOf Datum
datum = datum_of.Label <$> name <* word (codes ":") <|> typed_data

-- section = "section" Str "{" { datum } "}"
unfoldable pub section : Grammar Rule TreeOf Part
section =
    (λ p. part_of.Section p.0 p.1.0 p.1.1)
    <$> word (codes "section") <+> ident kind.Str <+> (word (codes "{") *> repetition datum <* word (codes "}"))

-- part = section | procedure
unfoldable pub part : Grammar Rule TreeOf Part
part = section <|> part_of.Procedure <$> procedure

-- order = "little" | "big"
unfoldable pub order : Grammar Rule TreeOf ByteOrder
order = Little <$> word (codes "little") <|> Big <$> word (codes "big")

-- target = "target" "byteorder" order "wordsize" number ";"
unfoldable pub target : Grammar Rule TreeOf Target
target =
    (λ p. record { token = p.0; order = p.1.0; word_size = p.1.1 })
    <$> word (codes "target") <+> (word (codes "byteorder") *> order) <+>
    (word (codes "wordsize") *> number <* word (codes ";"))

-- parts = { part }
unfoldable pub parts : Grammar Rule TreeOf (List Part)
parts = repetition part

-- program = target parts
unfoldable pub program : Grammar Rule TreeOf Program
program = (λ p. record { target = p.0; parts = p.1 }) <$> target <+> parts

abbrev pub rule : (r : Rule) → Grammar Rule TreeOf (TreeOf r)
rule any_expr = expr
rule any_statement = statement
rule any_body = body

-- an `if` may go on with `else`
abbrev pub goes_on : Rule → List Class
goes_on any_expr = []
goes_on any_statement = Word (codes "else") ∷ []
goes_on any_body = []

abbrev pub cmm : Syntax Rule TreeOf
cmm = record { rule = rule; goes_on = goes_on }

pub cmm_is_readable : IsReadable cmm program
unfolding type_of literal address after_operand operands input prim load applied_prim applied_input plain expr arguments after_name after_input from_input source
    named stored store statements block after_block conditional keyed statement after_label untyped body_item body_items declared
    first_stored untyped_items untyped_first body param params procedure elements typed_data datum section part order target parts program
cmm_is_readable = record {
  rules = record { depth = 2; rules = elim [ any_expr ↦ refl | any_statement ↦ refl | any_body ↦ refl ] };
  start = refl;
}

-- the rules are read as their grammars are
pub expr_unrolls : (tokens : List Lexeme) → reads cmm (nonterminal any_expr) tokens ≡ reads cmm expr tokens
expr_unrolls = unroll cmm cmm_is_readable.rules any_expr

pub statement_unrolls : (tokens : List Lexeme)
    → reads cmm (nonterminal any_statement) tokens ≡ reads cmm statement tokens
statement_unrolls = unroll cmm cmm_is_readable.rules any_statement

pub body_unrolls : (tokens : List Lexeme)
    → reads cmm (nonterminal any_body) tokens ≡ items_then_last_reading (reads cmm next_of_body) tokens
unfolding type_of literal address after_operand operands input prim load applied_prim applied_input plain expr arguments after_name after_input from_input source
    named stored store statements block after_block conditional keyed statement after_label untyped body_item body_items
    declared first_stored untyped_items untyped_first typed_next next_of_body body
body_unrolls =
    until_last_unrolls cmm cmm_is_readable.rules type_of declared first_stored untyped_first refl refl
    (nonterminal any_body) (unroll cmm cmm_is_readable.rules any_body) refl refl

-- each phrase of a list has a token
pub literal_shortens : Shortens (reads cmm literal)
unfolding literal
literal_shortens = shortens_of cmm cmm_is_readable.rules literal refl refl

pub expr_shortens : Shortens (reads cmm (nonterminal any_expr))
expr_shortens = shortens_of cmm cmm_is_readable.rules (nonterminal any_expr) refl refl

pub body_item_shortens : Shortens (reads cmm body_item)
unfolding type_of literal address after_operand operands input prim load applied_prim applied_input plain expr arguments after_name after_input from_input source
    named stored store statements block after_block conditional keyed statement after_label untyped body_item
body_item_shortens = shortens_of cmm cmm_is_readable.rules body_item refl refl

-- a declaration has a token
pub next_of_body_shortens : ItemsShorten (reads cmm next_of_body)
unfolding type_of literal address after_operand operands input prim load applied_prim applied_input plain expr arguments after_name after_input from_input source
    named stored store statements block after_block conditional keyed statement after_label untyped body_item body_items
    declared first_stored untyped_items untyped_first typed_next next_of_body
next_of_body_shortens =
    items_shorten cmm cmm_is_readable.rules type_of declared first_stored untyped_first refl refl

pub param_shortens : Shortens (reads cmm param)
unfolding type_of param
param_shortens = shortens_of cmm cmm_is_readable.rules param refl refl

pub datum_shortens : Shortens (reads cmm datum)
unfolding type_of literal elements typed_data datum
datum_shortens = shortens_of cmm cmm_is_readable.rules datum refl refl

pub part_shortens : Shortens (reads cmm part)
unfolding type_of literal param params procedure elements typed_data datum section part
part_shortens = shortens_of cmm cmm_is_readable.rules part refl refl
