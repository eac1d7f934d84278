-- The grammar of C-- programs as one writes it down. Its next token doesn't always tell which phrase comes; it has the same programs.
use Rattle.std.specs.Prelude.{List, [], ◌∷◌, codes}
use Rattle.qc_grammar.specs.declared.cursor.Ident.{Ident}
use Rattle.qc_grammar.specs.Grammar.{Grammar, repetition, ◌<+>◌, ◌*>◌, ◌<*◌, ◌<|>◌, ◌<$>◌, word, name, headed, Syntax}
use Rattle.qc_cmm.specs.declared.syntax.Source.{Source}
use Rattle.qc_cmm.specs.declared.syntax.Source.TheVariants as assigned
use Rattle.qc_cmm.specs.declared.syntax.Statement.{Statement}
use Rattle.qc_cmm.specs.declared.syntax.Statement.TheVariants as step
use Rattle.qc_cmm.specs.declared.syntax.BodyItem.{BodyItem}
use Rattle.qc_cmm.specs.declared.syntax.BodyItem.TheVariants as line
use Rattle.qc_cmm.specs.declared.syntax.Declaration.{Declaration}
use Rattle.qc_cmm.specs.Cmm.{Rule, TreeOf, any_expr, any_statement, any_body, arguments, declared, expr, keyed, store, type_of}

-- source = "%in" "(" ")" | expr | name "(" arguments
unfoldable pub source : Grammar Rule TreeOf Source
source =
    assigned.Input <$> word (codes "%in") <* word (codes "(") <* word (codes ")")
    <|> assigned.Value <$> expr
    <|> (λ p. assigned.Call p.0 p.1) <$> name <+> (word (codes "(") *> arguments)

-- named = "(" arguments ";" | { "," name } "=" source ";", after a name that begins a statement
unfoldable pub named : Grammar Rule TreeOf (Ident → Statement)
named =
    (λ args n. step.Call n args) <$> word (codes "(") *> arguments <* word (codes ";")
    <|> (λ p n. step.Assign (n ∷ p.0) p.1)
    <$> repetition (word (codes ",") *> name) <+> (word (codes "=") *> source <* word (codes ";"))

-- statement = name named | keyed | store
unfoldable pub statement : Grammar Rule TreeOf Statement
statement = headed name named <|> keyed <|> store

-- body_item = name ":" | statement
unfoldable pub body_item : Grammar Rule TreeOf BodyItem
body_item = line.Label <$> name <* word (codes ":") <|> line.Statement <$> statement

-- declaration = type_of name { "," name } ";"
unfoldable pub declaration : Grammar Rule TreeOf Declaration
declaration = headed type_of declared

-- body_items = { body_item } "}"
unfoldable pub body_items : Grammar Rule TreeOf (List BodyItem)
body_items = repetition body_item <* word (codes "}")

-- body = { declaration } { body_item } "}"
unfoldable pub body : Grammar Rule TreeOf (List Declaration × List BodyItem)
body = repetition declaration <+> body_items

abbrev pub rule : (r : Rule) → Grammar Rule TreeOf (TreeOf r)
rule any_expr = expr
rule any_statement = statement
rule any_body = body

-- No test is made of this grammar, so it has no classes that may go on after a rule.
abbrev pub written : Syntax Rule TreeOf
written = record { rule = rule; goes_on = λ r. [] }
