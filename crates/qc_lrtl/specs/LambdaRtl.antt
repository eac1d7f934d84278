-- The grammar of machine texts, rule by rule. Words in quotes are reserved, and no names.
use Rattle.std.specs.Prelude.{ℕ, Bool, true, false, List, [], ◌∷◌, Option, codes, ◌≡◌, refl}
use Rattle.qc_grammar.specs.declared.cursor.Ident.{Ident}
use Rattle.qc_grammar.specs.Lexeme.{Class, Word, Lexeme, Vocabulary, reserving}
use Rattle.qc_grammar.specs.Grammar.{Grammar, nonterminal, empty, repetition, ◌<+>◌, ◌*>◌, ◌<*◌, ◌<|>◌, ◌<$>◌, word, name, number, optional, Syntax, separated}
use Rattle.qc_grammar.specs.Reading.{reads}
use Rattle.qc_grammar.specs.Law.LL1.{IsReadable}
use Rattle.qc_grammar.specs.Lists.{Shortens}
use Rattle.qc_grammar.specs.Law.Lists.{shortens_of}
use Rattle.qc_grammar.specs.Law.Fuel.{unroll}
use Rattle.qc_grammar.specs.declared.cursor.Number.{Number}
use Rattle.qc_lrtl.specs.declared.syntax.Expr.{Expr}
use Rattle.qc_lrtl.specs.declared.syntax.Expr.TheVariants as expression
use Rattle.qc_lrtl.specs.declared.syntax.Simple.{Simple}
use Rattle.qc_lrtl.specs.declared.syntax.Simple.TheVariants as target
use Rattle.qc_lrtl.specs.declared.syntax.Guard.{Guard}
use Rattle.qc_lrtl.specs.declared.syntax.Effect.{Effect}
use Rattle.qc_lrtl.specs.declared.syntax.Param.{Param}
use Rattle.qc_lrtl.specs.declared.syntax.Operand.{Operand}
use Rattle.qc_lrtl.specs.declared.syntax.OperandKind.{OperandKind}
use Rattle.qc_lrtl.specs.declared.syntax.OperandKind.TheVariants.{Register, Immediate, Address}
use Rattle.qc_lrtl.specs.declared.syntax.ByteOrder.{ByteOrder}
use Rattle.qc_lrtl.specs.declared.syntax.ByteOrder.TheVariants.{Little, Big}
use Rattle.qc_lrtl.specs.declared.syntax.Item.{Item}
use Rattle.qc_lrtl.specs.declared.syntax.Item.TheVariants as fact
use Rattle.qc_lrtl.specs.declared.syntax.RawMachine.{RawMachine}

-- the reserved words
abbrev pub reserved : List (List ℕ)
reserved =
    codes "machine" ∷ codes "word" ∷ codes "byteorder" ∷ codes "little" ∷ codes "big" ∷ codes "align" ∷ codes "slotbits"
    ∷ codes "memory" ∷ codes "code" ∷ codes "data" ∷ codes "space" ∷ codes "cells" ∷ codes "bits" ∷ codes "flags"
    ∷ codes "zero" ∷ codes "frame" ∷ codes "link" ∷ codes "allocatable" ∷ codes "fun" ∷ codes "eff" ∷ codes "instr"
    ∷ codes "imm" ∷ codes "addr" ∷ codes "when" ∷ codes "pc" ∷ codes "out" ∷ codes "halt" ∷ codes "trap" ∷ codes "mem"
    ∷ codes "input" ∷ codes "after" ∷ codes "zx" ∷ codes "sx" ∷ codes "slice" ∷ []

-- They and punctuation are the words of the grammar.
abbrev pub vocabulary : Vocabulary
vocabulary = reserving reserved

-- the one rule that may come inside itself
pub data Rule : Type 0 where
  any_expr : Rule

abbrev pub TreeOf : Rule → Type 0
TreeOf any_expr = Expr

-- exprs = expr { "," expr }
unfoldable pub exprs : Grammar Rule TreeOf (List Expr)
exprs = separated (nonterminal any_expr) (codes ",")

-- arguments = [ exprs ] ")", after the bracket before them
unfoldable pub arguments : Grammar Rule TreeOf (List Expr)
arguments = (λ _. []) <$> word (codes ")") <|> exprs <* word (codes ")")

-- address = "[" expr "]"
unfoldable pub address : Grammar Rule TreeOf Expr
address = word (codes "[") *> nonterminal any_expr <* word (codes "]")

-- argument = "(" expr ")"
unfoldable pub argument : Grammar Rule TreeOf Expr
argument = word (codes "(") *> nonterminal any_expr <* word (codes ")")

-- cell = "[" number "]"
unfoldable pub cell : Grammar Rule TreeOf Number
cell = word (codes "[") *> number <* word (codes "]")

-- after_name = [ "(" arguments | cell ], in an expression
unfoldable pub after_name : Grammar Rule TreeOf (Ident → Expr)
after_name =
    (λ args n. expression.Call n args) <$> word (codes "(") *> arguments
    <|> (λ at n. expression.Cell n at) <$> cell
    <|> empty (λ n. expression.Name n)

-- resized = "zx" number argument | "sx" number argument | "slice" number number argument
unfoldable pub resized : Grammar Rule TreeOf Expr
resized =
    (λ p. expression.Zx p.0 p.1.0 p.1.1) <$> word (codes "zx") <+> number <+> argument
    <|> (λ p. expression.Sx p.0 p.1.0 p.1.1) <$> word (codes "sx") <+> number <+> argument
    <|> (λ p. expression.Slice p.0 p.1.0 p.1.1.0 p.1.1.1) <$> word (codes "slice") <+> number <+> number <+> argument

-- built = "input" | "after" | "mem" number address | resized
unfoldable pub built : Grammar Rule TreeOf Expr
built =
    expression.Input <$> word (codes "input")
    <|> expression.After <$> word (codes "after")
    <|> (λ p. expression.Mem p.0 p.1.0 p.1.1) <$> word (codes "mem") <+> number <+> address
    <|> resized

-- expr = number "'" number | name after_name | built
unfoldable pub expr : Grammar Rule TreeOf Expr
expr =
    (λ p. expression.Literal p.0 p.1) <$> number <+> (word (codes "'") *> number)
    <|> (λ p. p.1 p.0) <$> name <+> after_name
    <|> built

-- assigned = ":=" expr
unfoldable pub assigned : Grammar Rule TreeOf Expr
assigned = word (codes ":=") *> nonterminal any_expr

-- after_target = assigned | cell assigned | "(" arguments
unfoldable pub after_target : Grammar Rule TreeOf (Ident → Simple)
after_target =
    (λ value n. target.Name n value) <$> assigned
    <|> (λ p n. target.Cell n p.0 p.1) <$> cell <+> assigned
    <|> (λ args n. target.Use n args) <$> word (codes "(") *> arguments

-- simple = name after_target | "mem" number address assigned | "pc" assigned | "out" assigned | "halt" assigned
--        | "trap" assigned
unfoldable pub simple : Grammar Rule TreeOf Simple
simple =
    (λ p. p.1 p.0) <$> name <+> after_target
    <|> (λ p. target.Mem p.0 p.1.0 p.1.1.0 p.1.1.1) <$> word (codes "mem") <+> number <+> address <+> assigned
    <|> (λ p. target.Pc p.0 p.1) <$> word (codes "pc") <+> assigned
    <|> (λ p. target.Out p.0 p.1) <$> word (codes "out") <+> assigned
    <|> (λ p. target.Halt p.0 p.1) <$> word (codes "halt") <+> assigned
    <|> (λ p. target.Trap p.0 p.1) <$> word (codes "trap") <+> assigned

-- guard = [ "when" expr "=>" ]
unfoldable pub guard : Grammar Rule TreeOf (Option Guard)
guard =
    optional ((λ p. record { token = p.0; condition = p.1 }) <$> word (codes "when") <+> nonterminal any_expr <* word
    (codes "=>"))

-- effect = guard simple
unfoldable pub effect : Grammar Rule TreeOf Effect
effect = (λ p. record { guard = p.0; simple = p.1 }) <$> guard <+> simple

-- rtl = effect { "|" effect }
unfoldable pub rtl : Grammar Rule TreeOf (List Effect)
rtl = separated effect (codes "|")

-- arity = [ "/" number ]
unfoldable pub arity : Grammar Rule TreeOf (Option Number)
arity = optional (word (codes "/") *> number)

-- param = name arity
unfoldable pub param : Grammar Rule TreeOf Param
param = (λ p. record { name = p.0; arity = p.1 }) <$> name <+> arity

-- params = "(" [ param { "," param } ] ")"
unfoldable pub params : Grammar Rule TreeOf (List Param)
params = word (codes "(") *> ((λ _. []) <$> word (codes ")") <|> separated param (codes ",") <* word (codes ")"))

-- operand_kind = name | "imm" number | "addr"
unfoldable pub operand_kind : Grammar Rule TreeOf OperandKind
operand_kind =
    Register <$> name
    <|> (λ p. Immediate p.0 p.1) <$> word (codes "imm") <+> number
    <|> Address <$> word (codes "addr")

-- operand = name ":" operand_kind
unfoldable pub operand : Grammar Rule TreeOf Operand
operand = (λ p. record { name = p.0; kind = p.1 }) <$> name <* word (codes ":") <+> operand_kind

-- operands = "(" [ operand { "," operand } ] ")"
unfoldable pub operands : Grammar Rule TreeOf (List Operand)
operands = word (codes "(") *> ((λ _. []) <$> word (codes ")") <|> separated operand (codes ",") <* word (codes ")"))

-- order = "little" | "big"
unfoldable pub order : Grammar Rule TreeOf ByteOrder
order = (λ _. Little) <$> word (codes "little") <|> (λ _. Big) <$> word (codes "big")

-- single = "word" number | "byteorder" order | "align" number | "slotbits" number
unfoldable pub single : Grammar Rule TreeOf Item
single =
    (λ p. fact.Word p.0 p.1) <$> word (codes "word") <+> number
    <|> (λ p. fact.ByteOrder p.0 p.1) <$> word (codes "byteorder") <+> order
    <|> (λ p. fact.Align p.0 p.1) <$> word (codes "align") <+> number
    <|> (λ p. fact.SlotBits p.0 p.1) <$> word (codes "slotbits") <+> number

-- region = "memory" number | "code" number | "data" number
unfoldable pub region : Grammar Rule TreeOf Item
region =
    (λ p. fact.Memory p.0 p.1) <$> word (codes "memory") <+> number
    <|> (λ p. fact.Code p.0 p.1) <$> word (codes "code") <+> number
    <|> (λ p. fact.Data p.0 p.1) <$> word (codes "data") <+> number

-- flags = [ "flags" ]
unfoldable pub flags : Grammar Rule TreeOf Bool
flags = (λ _. true) <$> word (codes "flags") <|> empty false

-- role = "zero" name number | "frame" name number | "link" name number | "allocatable" name number ".." number
unfoldable pub role : Grammar Rule TreeOf Item
role =
    (λ p. fact.Zero p.0 p.1.0 p.1.1) <$> word (codes "zero") <+> name <+> number
    <|> (λ p. fact.Frame p.0 p.1.0 p.1.1) <$> word (codes "frame") <+> name <+> number
    <|> (λ p. fact.Link p.0 p.1.0 p.1.1) <$> word (codes "link") <+> name <+> number
    <|> (λ p. fact.Allocatable p.0 p.1.0 p.1.1.0 p.1.1.1)
    <$> word (codes "allocatable") <+> name <+> number <* word (codes "..") <+> number

-- of_cells = "space" name number "cells" number "bits" flags | role
unfoldable pub of_cells : Grammar Rule TreeOf Item
of_cells =
    (λ p. fact.Space p.0 p.1.0 p.1.1.0 p.1.1.1.0 p.1.1.1.1)
    <$> word (codes "space") <+> name <+> number <* word (codes "cells") <+> number <* word (codes "bits") <+> flags
    <|> role

-- instruction = "instr" name operands "=" rtl
unfoldable pub instruction : Grammar Rule TreeOf Item
instruction =
    (λ p. fact.Instruction p.0 p.1.0 p.1.1.0 p.1.1.1)
    <$> word (codes "instr") <+> name <+> operands <* word (codes "=") <+> rtl

-- declaration = "fun" name params "=" expr | "eff" name params "=" rtl | instruction
unfoldable pub declaration : Grammar Rule TreeOf Item
declaration =
    (λ p. fact.Function p.0 p.1.0 p.1.1.0 p.1.1.1)
    <$> word (codes "fun") <+> name <+> params <* word (codes "=") <+> nonterminal any_expr
    <|> (λ p. fact.Effects p.0 p.1.0 p.1.1.0 p.1.1.1)
    <$> word (codes "eff") <+> name <+> params <* word (codes "=") <+> rtl
    <|> instruction

-- item = single | region | of_cells | declaration
unfoldable pub item : Grammar Rule TreeOf Item
item = single <|> region <|> of_cells <|> declaration

-- ended_item = item ";"
unfoldable pub ended_item : Grammar Rule TreeOf Item
ended_item = item <* word (codes ";")

-- items = { item ";" }
unfoldable pub items : Grammar Rule TreeOf (List Item)
items = repetition ended_item

-- machine = "machine" name ";" items
unfoldable pub machine : Grammar Rule TreeOf RawMachine
machine = (λ p. record { name = p.0; items = p.1 }) <$> (word (codes "machine") *> name <* word (codes ";")) <+> items

abbrev pub rule : (r : Rule) → Grammar Rule TreeOf (TreeOf r)
rule any_expr = expr

-- a name may go on as a call or a cell
abbrev pub goes_on : Rule → List Class
goes_on any_expr = Word (codes "(") ∷ Word (codes "[") ∷ []

abbrev pub lambda_rtl : Syntax Rule TreeOf
lambda_rtl = record { rule = rule; goes_on = goes_on }

pub lambda_rtl_is_readable : IsReadable lambda_rtl machine
unfolding exprs arguments address argument cell after_name resized built expr assigned after_target simple
    guard effect rtl arity param params operand_kind operand
    operands order single region flags role of_cells instruction declaration item ended_item items machine
lambda_rtl_is_readable = record { rules = record { depth = 1; rules = elim [ any_expr ↦ refl ] }; start = refl }

-- the rule is read as its grammar is
pub expr_unrolls : (tokens : List Lexeme)
    → reads lambda_rtl (nonterminal any_expr) tokens ≡ reads lambda_rtl expr tokens
expr_unrolls = unroll lambda_rtl lambda_rtl_is_readable.rules any_expr

-- each phrase of a list has a token
pub effect_shortens : Shortens (reads lambda_rtl effect)
unfolding exprs arguments address cell assigned after_target simple guard effect expr resized built argument
    after_name
effect_shortens = shortens_of lambda_rtl lambda_rtl_is_readable.rules effect refl refl

pub param_shortens : Shortens (reads lambda_rtl param)
unfolding arity param
param_shortens = shortens_of lambda_rtl lambda_rtl_is_readable.rules param refl refl

pub operand_shortens : Shortens (reads lambda_rtl operand)
unfolding operand_kind operand
operand_shortens = shortens_of lambda_rtl lambda_rtl_is_readable.rules operand refl refl

pub ended_item_shortens : Shortens (reads lambda_rtl ended_item)
unfolding exprs arguments address argument cell after_name resized built expr assigned after_target simple
    guard effect rtl arity param params operand_kind operand operands order single region flags role of_cells
    instruction declaration item ended_item
ended_item_shortens = shortens_of lambda_rtl lambda_rtl_is_readable.rules ended_item refl refl
