-- The grammar of the sample language, rule by rule. Words in quotes are reserved, and no names.
use Rattle.std.specs.Prelude.{ℕ, List, [], ◌∷◌, Option, codes, ◌≡◌, refl}
use Rattle.qc_grammar.specs.declared.cursor.Ident.{Ident}
use Rattle.qc_grammar.specs.Lexeme.{Class, Word, Lexeme, Vocabulary, reserving}
use Rattle.qc_grammar.specs.Grammar.{Grammar, nonterminal, empty, repetition, ◌<+>◌, ◌*>◌, ◌<*◌, ◌<|>◌, ◌<$>◌, word, name, number, optional, separated, Syntax}
use Rattle.qc_grammar.specs.Reading.{reads}
use Rattle.qc_grammar.specs.Law.LL1.{IsReadable}
use Rattle.qc_grammar.specs.Law.Fuel.{unroll}
use Rattle.qc_sample.specs.declared.syntax.Expr.{Expr}
use Rattle.qc_sample.specs.declared.syntax.Expr.TheVariants.{Number, Name, Not, Call, Index, Group}
use Rattle.qc_sample.specs.declared.syntax.Statement.{Statement}
use Rattle.qc_sample.specs.declared.syntax.Statement.TheVariants.{Let, Print, Block, Set, Do}
use Rattle.qc_sample.specs.declared.syntax.Program.{Program}

-- the reserved words
abbrev pub reserved : List (List ℕ)
reserved = codes "program" ∷ codes "let" ∷ codes "print" ∷ codes "not" ∷ []

-- They and punctuation are the words of the grammar.
abbrev pub vocabulary : Vocabulary
vocabulary = reserving reserved

-- the rules that may come inside themselves
pub data Rule : Type 0 where
  any_expr any_statement : Rule

abbrev pub TreeOf : Rule → Type 0
TreeOf any_expr = Expr
TreeOf any_statement = Statement

-- exprs = expr { "," expr }
unfoldable pub exprs : Grammar Rule TreeOf (List Expr)
exprs = separated (nonterminal any_expr) (codes ",")

-- arguments = [ exprs ] ")", after the bracket before them
unfoldable pub arguments : Grammar Rule TreeOf (List Expr)
arguments = (λ _. []) <$> word (codes ")") <|> exprs <* word (codes ")")

-- after_name = [ "(" arguments | "[" expr "]" ], in an expression
unfoldable pub after_name : Grammar Rule TreeOf (Ident → Expr)
after_name =
    (λ args n. Call n args) <$> word (codes "(") *> arguments
    <|> (λ at n. Index n at) <$> word (codes "[") *> nonterminal any_expr <* word (codes "]")
    <|> empty (λ n. Name n)

-- expr = number | "not" expr | name after_name | "(" expr ")"
unfoldable pub expr : Grammar Rule TreeOf Expr
expr =
    Number <$> number
    <|> (λ p. Not p.0 p.1) <$> word (codes "not") <+> nonterminal any_expr
    <|> (λ p. p.1 p.0) <$> name <+> after_name
    <|> Group <$> word (codes "(") *> nonterminal any_expr <* word (codes ")")

-- type_of = [ ":" name ]
unfoldable pub type_of : Grammar Rule TreeOf (Option Ident)
type_of = optional (word (codes ":") *> name)

-- simple = "=" expr | "(" arguments, after a name that begins a statement
unfoldable pub simple : Grammar Rule TreeOf (Ident → Statement)
simple =
    (λ value n. Set n value) <$> word (codes "=") *> nonterminal any_expr
    <|> (λ args n. Do n args) <$> word (codes "(") *> arguments

-- statements = { statement }
unfoldable pub statements : Grammar Rule TreeOf (List Statement)
statements = repetition (nonterminal any_statement)

-- statement = "let" name type_of "=" expr ";" | "print" exprs ";" | "{" statements "}" | name simple ";"
unfoldable pub statement : Grammar Rule TreeOf Statement
statement =
    (λ p. Let p.0 p.1.0 p.1.1) <$> (word (codes "let") *> name) <+> type_of <+>
    (word (codes "=") *> nonterminal any_expr <* word (codes ";"))
    <|> Print <$> word (codes "print") *> exprs <* word (codes ";")
    <|> Block <$> word (codes "{") *> statements <* word (codes "}")
    <|> (λ p. p.1 p.0) <$> name <+> simple <* word (codes ";")

-- program = "program" name ";" statements
unfoldable pub program : Grammar Rule TreeOf Program
program = (λ p. record { name = p.0; body = p.1 }) <$> (word (codes "program") *> name <* word (codes ";")) <+>
    statements

abbrev pub rule : (r : Rule) → Grammar Rule TreeOf (TreeOf r)
rule any_expr = expr
rule any_statement = statement

-- a name may go on as a call or an index
abbrev pub goes_on : Rule → List Class
goes_on any_expr = Word (codes "(") ∷ Word (codes "[") ∷ []
goes_on any_statement = []

abbrev pub sample : Syntax Rule TreeOf
sample = record { rule = rule; goes_on = goes_on }

pub sample_is_readable : IsReadable sample program
unfolding exprs arguments after_name expr type_of simple statement statements program
sample_is_readable =
    record { rules = record { depth = 2; rules = elim [ any_expr ↦ refl | any_statement ↦ refl ] }; start = refl }

-- the rules are read as their grammars are
pub expr_unrolls : (tokens : List Lexeme) → reads sample (nonterminal any_expr) tokens ≡ reads sample expr tokens
expr_unrolls = unroll sample sample_is_readable.rules any_expr

pub statement_unrolls : (tokens : List Lexeme)
    → reads sample (nonterminal any_statement) tokens ≡ reads sample statement tokens
statement_unrolls = unroll sample sample_is_readable.rules any_statement
