-- The grammar of texts of tables as one writes it down. Its next token doesn't always tell which phrase comes; it has the same texts.
use Rattle.std.specs.Prelude.{List, [], codes}
use Rattle.qc_grammar.specs.Grammar.{Grammar, nonterminal, ◌<+>◌, ◌*>◌, ◌<*◌, ◌<|>◌, ◌<$>◌, word, name, number, separated, Syntax}
use Rattle.qc_lrtl.specs.declared.syntax.Expr.{Expr}
use Rattle.qc_lrtl.specs.declared.syntax.Expr.TheVariants as expression
use Rattle.qc_tabletext.specs.declared.syntax.RawBinding.{RawBinding}
use Rattle.qc_tabletext.specs.declared.syntax.RawBinding.TheVariants as bound
use Rattle.qc_tabletext.specs.declared.syntax.Rest.{Rest}
use Rattle.qc_tabletext.specs.TableText.{Rule, TreeOf, any_expr, any_rest, address, argument, arguments, cell, derivation, flag, instruction, steps}

-- expr = number "'" number | "input" | "after" | "mem" number address | "zx" number argument | "sx" number argument
--      | "slice" number number argument | name | name "(" arguments | space cell
-- The space of a cell is a name or a reserved word, as an instruction is.
unfoldable pub expr : Grammar Rule TreeOf Expr
expr =
    (λ p. expression.Literal p.0 p.1) <$> number <+> (word (codes "'") *> number)
    <|> expression.Input <$> word (codes "input")
    <|> expression.After <$> word (codes "after")
    <|> (λ p. expression.Mem p.0 p.1.0 p.1.1) <$> word (codes "mem") <+> number <+> address
    <|> (λ p. expression.Zx p.0 p.1.0 p.1.1) <$> word (codes "zx") <+> number <+> argument
    <|> (λ p. expression.Sx p.0 p.1.0 p.1.1) <$> word (codes "sx") <+> number <+> argument
    <|> (λ p. expression.Slice p.0 p.1.0 p.1.1.0 p.1.1.1) <$> word (codes "slice") <+> number <+> number <+> argument
    <|> expression.Name <$> name
    <|> (λ p. expression.Call p.0 p.1) <$> name <+> (word (codes "(") *> arguments)
    <|> (λ p. expression.Cell p.0 p.1) <$> instruction <+> cell

-- binding = "own" | "par" number | "cell" name number | "const" expr | "spare" | derivation
unfoldable pub binding : Grammar Rule TreeOf RawBinding
binding =
    bound.Own <$> word (codes "own")
    <|> (λ p. bound.Parameter p.0 p.1) <$> word (codes "par") <+> number
    <|> (λ p. bound.Cell p.0 p.1.0 p.1.1) <$> word (codes "cell") <+> name <+> number
    <|> (λ p. bound.Constant p.0 p.1) <$> word (codes "const") <+> nonterminal any_expr
    <|> bound.Spare <$> word (codes "spare")
    <|> bound.Child <$> derivation

-- bindings = "(" [ binding { "," binding } ] ")"
unfoldable pub bindings : Grammar Rule TreeOf (List RawBinding)
bindings = word (codes "(") *> ((λ _. []) <$> word (codes ")") <|> separated binding (codes ",") <* word (codes ")"))

-- rest = steps bindings flag
unfoldable pub rest : Grammar Rule TreeOf Rest
rest = (λ p. record { steps = p.0; bindings = p.1.0; after = p.1.1 }) <$> steps <+> bindings <+> flag

abbrev pub rule : (r : Rule) → Grammar Rule TreeOf (TreeOf r)
rule any_expr = expr
rule any_rest = rest

-- No test is made of this grammar, so it has no classes that may go on after a rule.
abbrev pub written : Syntax Rule TreeOf
written = record { rule = rule; goes_on = λ r. [] }
