-- The grammar of blocks: declarations, and then at most one result, which may begin as a declaration does.
use Rattle.std.specs.Prelude.{List, [], Option, Some, None, codes, ◌≡◌, refl}
use Rattle.qc_grammar.specs.declared.cursor.Ident.{Ident}
use Rattle.qc_grammar.specs.declared.lists.ItemOrLast.{ItemOrLast}
use Rattle.qc_grammar.specs.Lexeme.{Class, Lexeme}
use Rattle.qc_grammar.specs.Grammar.{Grammar, nonterminal, ◌*>◌, ◌<*◌, ◌<$>◌, word, name, number, item_or_last, items_then_last, items_and_last, Syntax}
use Rattle.qc_grammar.specs.Language.{IsPhrase}
use Rattle.qc_grammar.specs.Lists.{items_then_last_reading}
use Rattle.qc_grammar.specs.Reading.{reads}
use Rattle.qc_grammar.specs.Law.LL1.{IsReadable}
use Rattle.qc_grammar.specs.Law.Fuel.{unroll}
use Rattle.qc_grammar.specs.Law.ItemsAndLast.{rule_is_list, list_is_rule, rule_opens}
use Rattle.qc_grammar.specs.Law.UntilLast.{ItemsShorten, items_shorten, until_last_unrolls}
use Rattle.qc_sample.specs.declared.blocks.Declaration.{Declaration}
use Rattle.qc_sample.specs.declared.blocks.Assignment.{Assignment}
use Rattle.qc_sample.specs.declared.blocks.Block.{Block}

-- the rule that comes inside itself
pub data Rule : Type 0 where
  any_rest : Rule

abbrev pub TreeOf : Rule → Type 0
TreeOf any_rest = List Declaration × Option Assignment

-- declares = ":" name ";", after the name that is declared
unfoldable pub declares : Grammar Rule TreeOf (Ident → Declaration)
declares = (λ type_of n. record { name = n; type_of = type_of }) <$> word (codes ":") *> name <* word (codes ";")

-- assigns = "=" number "}", after the name of the result
unfoldable pub assigns : Grammar Rule TreeOf (Ident → Option Assignment)
assigns = (λ value n. Some (record { name = n; value = value })) <$> word (codes "=") *> number <* word (codes "}")

-- ends = "}"
unfoldable pub ends : Grammar Rule TreeOf (Option Assignment)
ends = (λ _. None) <$> word (codes "}")

-- part = name declares | name assigns | ends
unfoldable pub part : Grammar Rule TreeOf (ItemOrLast Declaration (Option Assignment))
part = item_or_last name declares assigns ends

-- rest = { name declares } ( name assigns | ends )
unfoldable pub rest : Grammar Rule TreeOf (List Declaration × Option Assignment)
rest = items_then_last name declares assigns ends (nonterminal any_rest)

-- block = "{" rest
unfoldable pub block : Grammar Rule TreeOf Block
block = (λ p. record { declarations = p.0; result = p.1 }) <$> word (codes "{") *> nonterminal any_rest

abbrev pub rule : (r : Rule) → Grammar Rule TreeOf (TreeOf r)
rule any_rest = rest

abbrev pub goes_on : Rule → List Class
goes_on any_rest = []

abbrev pub blocks : Syntax Rule TreeOf
blocks = record { rule = rule; goes_on = goes_on }

pub block_is_readable : IsReadable blocks block
unfolding declares assigns ends rest block
block_is_readable = record { rules = record { depth = 1; rules = elim [ any_rest ↦ refl ] }; start = refl }

-- the rule is read part by part
pub rest_unrolls : (tokens : List Lexeme)
    → reads blocks (nonterminal any_rest) tokens ≡ items_then_last_reading (reads blocks part) tokens
unfolding declares assigns ends rest part
rest_unrolls =
    until_last_unrolls blocks block_is_readable.rules name declares assigns ends refl refl (nonterminal any_rest)
    (unroll blocks block_is_readable.rules any_rest) refl refl

-- a declaration has a token
pub part_shortens : ItemsShorten (reads blocks part)
unfolding declares assigns ends part
part_shortens = items_shorten blocks block_is_readable.rules name declares assigns ends refl refl

-- the phrases of the rule are lists of declarations, and then the end, and no others
pub rest_is_list : (tokens : List Lexeme) (tree : TreeOf any_rest) → IsPhrase blocks (nonterminal any_rest) tokens tree
    → IsPhrase blocks (items_and_last name declares assigns ends) tokens tree
unfolding rest
rest_is_list =
    rule_is_list name declares assigns ends (nonterminal any_rest) blocks (rule_opens blocks any_rest)

pub list_is_rest : (tokens : List Lexeme) (tree : TreeOf any_rest)
    → IsPhrase blocks (items_and_last name declares assigns ends) tokens tree
    → IsPhrase blocks (nonterminal any_rest) tokens tree
unfolding rest
list_is_rest = list_is_rule name declares assigns ends (nonterminal any_rest) blocks (λ depth tokens tree p. p)
