-- The grammar of texts of tables, rule by rule. Words in quotes are reserved, and no names but where a rule says so.
use Rattle.std.specs.Prelude.{ℕ, List, [], ◌∷◌, Option, codes, ◌≡◌, refl}
use Rattle.qc_grammar.specs.declared.cursor.Ident.{Ident}
use Rattle.qc_grammar.specs.declared.cursor.Number.{Number}
use Rattle.qc_grammar.specs.Lexeme.{Class, Word, Lexeme}
use Rattle.qc_grammar.specs.Grammar.{Grammar, nonterminal, empty, repetition, ◌<+>◌, ◌*>◌, ◌<*◌, ◌<|>◌, ◌<$>◌, word, value, name, number, optional, headed, separated, Syntax}
use Rattle.qc_grammar.specs.Reading.{reads}
use Rattle.qc_grammar.specs.Law.LL1.{IsReadable}
use Rattle.qc_grammar.specs.Lists.{Shortens}
use Rattle.qc_grammar.specs.Law.Lists.{shortens_of}
use Rattle.qc_grammar.specs.Law.Fuel.{unroll}
use Rattle.qc_lrtl.specs.declared.syntax.Expr.{Expr}
use Rattle.qc_lrtl.specs.declared.syntax.Expr.TheVariants as expression
use Rattle.qc_tabletext.specs.declared.syntax.RawBinding.{RawBinding}
use Rattle.qc_tabletext.specs.declared.syntax.RawBinding.TheVariants as bound
use Rattle.qc_tabletext.specs.declared.syntax.RawDerivation.{RawDerivation, roll-RawDerivation}
use Rattle.qc_tabletext.specs.declared.syntax.RawStep.{RawStep}
use Rattle.qc_tabletext.specs.declared.syntax.StepPlace.{StepPlace}
use Rattle.qc_tabletext.specs.declared.syntax.StepPlace.TheVariants.{Whole, Part}
use Rattle.qc_tabletext.specs.declared.syntax.Rest.{Rest}
use Rattle.qc_tabletext.specs.declared.syntax.TileEntry.{TileEntry}
use Rattle.qc_tabletext.specs.declared.syntax.TileEntry.TheVariants.{Found, Missing}
use Rattle.qc_tabletext.specs.declared.syntax.Version.{Version}
use Rattle.qc_tabletext.specs.declared.syntax.Version.TheVariants.{First, Second}
use Rattle.qc_tabletext.specs.declared.syntax.RawTables.{RawTables}

-- The rules that may come inside themselves: an expression, and what a derivation has after its instruction and the
-- bracket behind that.
pub data Rule : Type 0 where
  any_expr any_rest : Rule

abbrev pub TreeOf : Rule → Type 0
TreeOf any_expr = Expr
TreeOf any_rest = Rest

-- the derivation by an instruction of this name, with this after it
abbrev pub derivation_of : Ident → Rest → RawDerivation
derivation_of instruction rest =
    roll-RawDerivation
    (record { instruction = instruction; steps = rest.steps; bindings = rest.bindings; after = rest.after })

-- ---- reserved words that are names, since a bracket comes after them

abbrev pub reserved_name : List ℕ → Grammar Rule TreeOf Ident
reserved_name text = (λ n. record { token = n; text = text }) <$> word text

-- table_word = "tables" | "tile" | "missing" | "e"
unfoldable pub table_word : Grammar Rule TreeOf Ident
table_word =
    reserved_name (codes "tables") <|> reserved_name (codes "tile") <|> reserved_name (codes "missing")
    <|> reserved_name (codes "e")

-- term_word = "after" | "input" | "mem" | "zx" | "sx" | "slice", the words with which expressions begin
unfoldable pub term_word : Grammar Rule TreeOf Ident
term_word =
    reserved_name (codes "after") <|> reserved_name (codes "input") <|> reserved_name (codes "mem")
    <|> reserved_name (codes "zx") <|> reserved_name (codes "sx") <|> reserved_name (codes "slice")

-- binding_word = "own" | "par" | "cell" | "const" | "spare", the words with which bindings begin
unfoldable pub binding_word : Grammar Rule TreeOf Ident
binding_word =
    reserved_name (codes "own") <|> reserved_name (codes "par") <|> reserved_name (codes "cell")
    <|> reserved_name (codes "const") <|> reserved_name (codes "spare")

-- space_word = table_word | binding_word, the words with which no expression begins but one that names a cell
unfoldable pub space_word : Grammar Rule TreeOf Ident
space_word = table_word <|> binding_word

-- plain_head = name | table_word | term_word, the instructions by which it is told that a binding is a derivation
unfoldable pub plain_head : Grammar Rule TreeOf Ident
plain_head = name <|> table_word <|> term_word

-- instruction = plain_head | binding_word
unfoldable pub instruction : Grammar Rule TreeOf Ident
instruction = plain_head <|> binding_word

-- ---- expressions

-- exprs = expr { "," expr }
unfoldable pub exprs : Grammar Rule TreeOf (List Expr)
exprs = separated (nonterminal any_expr) (codes ",")

-- arguments = ")" | exprs ")", after the bracket before them
unfoldable pub arguments : Grammar Rule TreeOf (List Expr)
arguments = (λ _. []) <$> word (codes ")") <|> exprs <* word (codes ")")

-- address = "[" expr "]"
unfoldable pub address : Grammar Rule TreeOf Expr
address = word (codes "[") *> nonterminal any_expr <* word (codes "]")

-- argument = "(" expr ")"
unfoldable pub argument : Grammar Rule TreeOf Expr
argument = word (codes "(") *> nonterminal any_expr <* word (codes ")")

-- cell = "[" number "]"
unfoldable pub cell : Grammar Rule TreeOf Number
cell = word (codes "[") *> number <* word (codes "]")

-- the same, after a reserved word that is a space's name there
unfoldable pub cell_of : List ℕ → Grammar Rule TreeOf (ℕ → Expr)
cell_of text = (λ at token. expression.Cell (record { token = token; text = text }) at) <$> cell

-- after_name = [ "(" arguments | cell ]
unfoldable pub after_name : Grammar Rule TreeOf (Ident → Expr)
after_name =
    (λ args n. expression.Call n args) <$> word (codes "(") *> arguments
    <|> (λ at n. expression.Cell n at) <$> cell
    <|> empty (λ n. expression.Name n)

-- space_cell = space_word cell
unfoldable pub space_cell : Grammar Rule TreeOf Expr
space_cell = (λ p. expression.Cell p.0 p.1) <$> space_word <+> cell

-- leaf = "input" [ cell ] | "after" [ cell ]
unfoldable pub leaf : Grammar Rule TreeOf Expr
leaf =
    headed (word (codes "input")) (cell_of (codes "input") <|> empty (λ token. expression.Input token))
    <|> headed (word (codes "after")) (cell_of (codes "after") <|> empty (λ token. expression.After token))

-- loaded = cell | number address, after "mem"
unfoldable pub loaded : Grammar Rule TreeOf (ℕ → Expr)
loaded = cell_of (codes "mem") <|> (λ p token. expression.Mem token p.0 p.1) <$> number <+> address

-- zero_extended = cell | number argument, after "zx"
unfoldable pub zero_extended : Grammar Rule TreeOf (ℕ → Expr)
zero_extended = cell_of (codes "zx") <|> (λ p token. expression.Zx token p.0 p.1) <$> number <+> argument

-- sign_extended = cell | number argument, after "sx"
unfoldable pub sign_extended : Grammar Rule TreeOf (ℕ → Expr)
sign_extended = cell_of (codes "sx") <|> (λ p token. expression.Sx token p.0 p.1) <$> number <+> argument

-- sliced = cell | number number argument, after "slice"
unfoldable pub sliced : Grammar Rule TreeOf (ℕ → Expr)
sliced =
    cell_of (codes "slice")
    <|> (λ p token. expression.Slice token p.0 p.1.0 p.1.1) <$> number <+> number <+> argument

-- sized = "mem" loaded | "zx" zero_extended | "sx" sign_extended | "slice" sliced
unfoldable pub sized : Grammar Rule TreeOf Expr
sized =
    headed (word (codes "mem")) loaded
    <|> headed (word (codes "zx")) zero_extended
    <|> headed (word (codes "sx")) sign_extended
    <|> headed (word (codes "slice")) sliced

-- expr = number "'" number | name after_name | space_cell | leaf | sized
unfoldable pub expr : Grammar Rule TreeOf Expr
expr =
    (λ p. expression.Literal p.0 p.1) <$> number <+> (word (codes "'") *> number)
    <|> headed name after_name
    <|> space_cell
    <|> leaf
    <|> sized

-- ---- derivations

-- place = "e" | number { "." number }
unfoldable pub place : Grammar Rule TreeOf StepPlace
place = Whole <$> word (codes "e") <|> Part <$> separated number (codes ".")

-- step = name "@" place
unfoldable pub step : Grammar Rule TreeOf RawStep
step = (λ p. record { law = p.0; place = p.1 }) <$> name <+> (word (codes "@") *> place)

-- steps = "]" | step { "," step } "]", after the bracket before them
unfoldable pub steps : Grammar Rule TreeOf (List RawStep)
steps = (λ _. []) <$> word (codes "]") <|> separated step (codes ",") <* word (codes "]")

-- child = "[" rest, after an instruction
unfoldable pub child : Grammar Rule TreeOf (Ident → RawDerivation)
child = (λ rest n. derivation_of n rest) <$> word (codes "[") *> nonterminal any_rest

-- derivation = instruction child
unfoldable pub derivation : Grammar Rule TreeOf RawDerivation
derivation = headed instruction child

-- the binding by a derivation whose instruction has a reserved word as its name
unfoldable pub child_of : List ℕ → Grammar Rule TreeOf (ℕ → RawBinding)
child_of text = (λ d token. bound.Child (d (record { token = token; text = text }))) <$> child

-- register = "own" [ child ] | "spare" [ child ]
unfoldable pub register : Grammar Rule TreeOf RawBinding
register =
    headed (word (codes "own")) (child_of (codes "own") <|> empty (λ token. bound.Own token))
    <|> headed (word (codes "spare")) (child_of (codes "spare") <|> empty (λ token. bound.Spare token))

-- parameter = child | number, after "par"
unfoldable pub parameter : Grammar Rule TreeOf (ℕ → RawBinding)
parameter = child_of (codes "par") <|> (λ n token. bound.Parameter token n) <$> number

-- cell_bound = child | name number, after "cell"
unfoldable pub cell_bound : Grammar Rule TreeOf (ℕ → RawBinding)
cell_bound = child_of (codes "cell") <|> (λ p token. bound.Cell token p.0 p.1) <$> name <+> number

-- constant = child | expr, after "const"
unfoldable pub constant : Grammar Rule TreeOf (ℕ → RawBinding)
constant = child_of (codes "const") <|> (λ x token. bound.Constant token x) <$> nonterminal any_expr

-- given = "par" parameter | "cell" cell_bound | "const" constant
unfoldable pub given : Grammar Rule TreeOf RawBinding
given =
    headed (word (codes "par")) parameter
    <|> headed (word (codes "cell")) cell_bound
    <|> headed (word (codes "const")) constant

-- derived = plain_head child
unfoldable pub derived : Grammar Rule TreeOf RawBinding
derived = (λ p. bound.Child (p.1 p.0)) <$> plain_head <+> child

-- binding = derived | register | given
unfoldable pub binding : Grammar Rule TreeOf RawBinding
binding = derived <|> register <|> given

-- several = binding { "," binding }
unfoldable pub several : Grammar Rule TreeOf (List RawBinding)
several = separated binding (codes ",")

-- bindings = "(" ( ")" | several ")" )
unfoldable pub bindings : Grammar Rule TreeOf (List RawBinding)
bindings = word (codes "(") *> ((λ _. []) <$> word (codes ")") <|> several <* word (codes ")"))

-- flag = [ "after" derivation ]
unfoldable pub flag : Grammar Rule TreeOf (Option RawDerivation)
flag = optional (word (codes "after") *> derivation)

-- rest = steps bindings flag, after an instruction and the bracket behind it
unfoldable pub rest : Grammar Rule TreeOf Rest
rest = (λ p. record { steps = p.0; bindings = p.1.0; after = p.1.1 }) <$> steps <+> bindings <+> flag

-- ---- tables

-- a number of the grammar, with its value
abbrev pub bound_number : ℕ → Grammar Rule TreeOf Number
bound_number n = (λ token. record { token = token; value = n }) <$> value n

-- height = "1" | "2" | "3" | "4"
unfoldable pub height : Grammar Rule TreeOf Number
height = bound_number 1 <|> bound_number 2 <|> bound_number 3 <|> bound_number 4

-- laws = "0" | "1" | "2" | "3"
unfoldable pub laws : Grammar Rule TreeOf Number
laws = bound_number 0 <|> bound_number 1 <|> bound_number 2 <|> bound_number 3

-- version = "1" | "2" "height" height "laws" laws
unfoldable pub version : Grammar Rule TreeOf Version
version =
    First <$> value 1
    <|> (λ p. Second p.0 p.1.0 p.1.1)
    <$> value 2 <+> (word (codes "height") *> height) <+> (word (codes "laws") *> laws)

-- after_tile = "=" derivation ";" | "missing" ";", after a tile's name
unfoldable pub after_tile : Grammar Rule TreeOf (Ident → ℕ → TileEntry)
after_tile =
    (λ d n token. Found token n d) <$> word (codes "=") *> derivation <* word (codes ";")
    <|> (λ _ n token. Missing token n) <$> word (codes "missing") <* word (codes ";")

-- entry = "tile" name after_tile
unfoldable pub entry : Grammar Rule TreeOf TileEntry
entry = (λ p. p.1.1 p.1.0 p.0) <$> word (codes "tile") <+> name <+> after_tile

-- entries = { entry }
unfoldable pub entries : Grammar Rule TreeOf (List TileEntry)
entries = repetition entry

-- tables = "tables" name version ";" entries
unfoldable pub tables : Grammar Rule TreeOf RawTables
tables =
    (λ p. record { machine = p.0; version = p.1.0; entries = p.1.1 })
    <$> (word (codes "tables") *> name) <+> (version <* word (codes ";")) <+> entries

abbrev pub rule : (r : Rule) → Grammar Rule TreeOf (TreeOf r)
rule any_expr = expr
rule any_rest = rest

-- A name may go on as a call or a cell, and a derivation with another one after it.
abbrev pub goes_on : Rule → List Class
goes_on any_expr = Word (codes "(") ∷ Word (codes "[") ∷ []
goes_on any_rest = Word (codes "after") ∷ []

abbrev pub table_text : Syntax Rule TreeOf
table_text = record { rule = rule; goes_on = goes_on }

pub table_text_is_readable : IsReadable table_text tables
unfolding table_word term_word binding_word space_word plain_head instruction exprs arguments address argument cell cell_of
    after_name space_cell leaf loaded zero_extended sign_extended sliced sized expr place step steps child derivation child_of
    register parameter cell_bound constant given derived binding several bindings flag rest height laws version after_tile entry
    entries tables
table_text_is_readable = record {
  rules = record { depth = 1; rules = elim [ any_expr ↦ refl | any_rest ↦ refl ] };
  start = refl;
}

-- the rules are read as their grammars are
pub expr_unrolls : (tokens : List Lexeme) → reads table_text (nonterminal any_expr) tokens ≡ reads table_text expr tokens
expr_unrolls = unroll table_text table_text_is_readable.rules any_expr

pub rest_unrolls : (tokens : List Lexeme) → reads table_text (nonterminal any_rest) tokens ≡ reads table_text rest tokens
rest_unrolls = unroll table_text table_text_is_readable.rules any_rest

-- each phrase of a list has a token
pub expr_shortens : Shortens (reads table_text (nonterminal any_expr))
expr_shortens = shortens_of table_text table_text_is_readable.rules (nonterminal any_expr) refl refl

pub number_shortens : Shortens (reads table_text number)
number_shortens = shortens_of table_text table_text_is_readable.rules number refl refl

pub step_shortens : Shortens (reads table_text step)
unfolding place step
step_shortens = shortens_of table_text table_text_is_readable.rules step refl refl

pub binding_shortens : Shortens (reads table_text binding)
unfolding table_word term_word binding_word space_word plain_head cell cell_of after_name space_cell leaf sized expr child child_of
    register parameter cell_bound constant given derived binding
binding_shortens = shortens_of table_text table_text_is_readable.rules binding refl refl

pub entry_shortens : Shortens (reads table_text entry)
unfolding table_word term_word binding_word plain_head instruction child derivation after_tile entry
entry_shortens = shortens_of table_text table_text_is_readable.rules entry refl refl
