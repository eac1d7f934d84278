-- What is printed for a tree, and that each text of the tree spells it.
use Rattle.std.specs.Prelude.{ℕ, List, [], ◌∷◌, ◌++◌, map, Option, None, Some, codes, ◌≡◌}
use Rattle.std.specs.List.{flat_map}
use Rattle.std.proofs.Common.{refl, ap, sym, ◌∙◌, append_assoc}
use Rattle.qc_grammar.specs.declared.cursor.Ident.{Ident}
use Rattle.qc_grammar.specs.Lexeme.{Lexeme, ident_of}
use Rattle.qc_grammar.specs.Language.{IsPhrase}
use Rattle.qc_grammar.specs.Lexeme.{number_in}
use Rattle.qc_text.specs.PrintedWords.{Words, joined}
use Rattle.qc_grammar.specs.Spelled.{spellings}
use Rattle.qc_grammar.specs.Law.SeparatedWords.{joined_words}
use Rattle.qc_grammar.specs.Law.Spelling as spell
use Rattle.qc_grammar.specs.Printing.{as_text, digits, next_words, separated_words}
use Rattle.qc_grammar.specs.Grammar.{Grammar}
use Rattle.qc_grammar.specs.declared.cursor.Number as number
use Rattle.qc_sample.specs.declared.syntax.Expr.{Expr, fold-Expr, fold-roll-Expr}
use Rattle.qc_sample.specs.declared.syntax.Expr.TheVariants as expr
use Rattle.qc_sample.specs.declared.syntax.Expr.TheOpen.{Expr-F, Number, Name, Not, Call, Index, Group}
use Rattle.qc_sample.specs.declared.syntax.Statement.{Statement, fold-Statement, fold-roll-Statement}
use Rattle.qc_sample.specs.declared.syntax.Statement.TheVariants as statement
use Rattle.qc_sample.specs.declared.syntax.Statement.TheOpen.{Statement-F, Let, Print, Block, Set, Do}
use Rattle.qc_sample.specs.declared.syntax.Program.{Program}
use Rattle.qc_sample.specs.Sample as grammar
use Rattle.qc_sample.specs.Sample.{Rule, TreeOf, any_expr, any_statement, sample, program}

flat_of_map : {X : Type 0} (f : X → Words) (xs : List X) → flat_map (λ words. words) (map f xs) ≡ flat_map f xs
flat_of_map f [] = refl
flat_of_map f (x ∷ xs) = ap (λ ws. f x ++ ws) (flat_of_map f xs)

abbrev pub expr_layer : Expr-F Words → Words
expr_layer (Number value) = digits value ∷ []
expr_layer (Name name) = name.text ∷ []
expr_layer (Not token arg) = codes "not" ∷ arg
expr_layer (Call name args) = name.text ∷ codes "(" ∷ (joined (codes ",") args ++ codes ")" ∷ [])
expr_layer (Index name at) = name.text ∷ codes "[" ∷ (at ++ codes "]" ∷ [])
expr_layer (Group inner) = codes "(" ∷ (inner ++ codes ")" ∷ [])

-- the words of an expression
unfoldable pub expr_words : Expr → Words
expr_words = fold-Expr Words expr_layer

pub expr_words-number : (value : number.Number) → expr_words (expr.Number value) ≡ digits value ∷ []
unfolding expr_words
expr_words-number value = ap expr_words (sym (expr.rolls-Number value))
    ∙ fold-roll-Expr Words expr_layer (Number value)

pub expr_words-call : (name : Ident) (args : List Expr)
    → expr_words (expr.Call name args) ≡ name.text ∷ codes "(" ∷ (separated_words (codes ",") expr_words args ++ codes ")" ∷ [])
unfolding expr_words
expr_words-call name args =
    ap expr_words (sym (expr.rolls-Call name args)) ∙ fold-roll-Expr Words expr_layer (Call name args)
    ∙ ap (λ ws. name.text ∷ codes "(" ∷ (ws ++ codes ")" ∷ [])) (joined_words (codes ",") expr_words args)

pub expr_words-name : (name : Ident) → expr_words (expr.Name name) ≡ name.text ∷ []
unfolding expr_words
expr_words-name name = ap expr_words (sym (expr.rolls-Name name)) ∙ fold-roll-Expr Words expr_layer (Name name)

pub expr_words-not : (token : ℕ) (arg : Expr) → expr_words (expr.Not token arg) ≡ codes "not" ∷ expr_words arg
unfolding expr_words
expr_words-not token arg = ap expr_words (sym (expr.rolls-Not token arg))
    ∙ fold-roll-Expr Words expr_layer (Not token arg)

pub expr_words-index : (name : Ident) (at : Expr)
    → expr_words (expr.Index name at) ≡ name.text ∷ codes "[" ∷ (expr_words at ++ codes "]" ∷ [])
unfolding expr_words
expr_words-index name at = ap expr_words (sym (expr.rolls-Index name at))
    ∙ fold-roll-Expr Words expr_layer (Index name at)

pub expr_words-group : (inner : Expr) → expr_words (expr.Group inner) ≡ codes "(" ∷ (expr_words inner ++ codes ")" ∷ [])
unfolding expr_words
expr_words-group inner = ap expr_words (sym (expr.rolls-Group inner)) ∙ fold-roll-Expr Words expr_layer (Group inner)

abbrev pub type_words : Option Ident → Words
type_words None = []
type_words (Some name) = codes ":" ∷ name.text ∷ []

abbrev pub statement_layer : Statement-F Words → Words
statement_layer (Let name type_of value) =
    codes "let" ∷ name.text ∷ (type_words type_of ++ (codes "=" ∷ (expr_words value ++ codes ";" ∷ [])))
statement_layer (Print values) = codes "print" ∷ (separated_words (codes ",") expr_words values ++ codes ";" ∷ [])
statement_layer (Block body) = codes "{" ∷ (flat_map (λ words. words) body ++ codes "}" ∷ [])
statement_layer (Set name value) = name.text ∷ codes "=" ∷ (expr_words value ++ codes ";" ∷ [])
statement_layer (Do name args) = name.text ∷ codes "(" ∷ (separated_words (codes ",") expr_words args ++ codes ")" ∷ codes ";" ∷ [])

-- the words of a statement
unfoldable pub statement_words : Statement → Words
statement_words = fold-Statement Words statement_layer

pub statement_words-let : (name : Ident) (type_of : Option Ident) (value : Expr)
    → statement_words (statement.Let name type_of value)
    ≡ codes "let" ∷ name.text ∷ (type_words type_of ++ (codes "=" ∷ (expr_words value ++ codes ";" ∷ [])))
unfolding statement_words
statement_words-let name type_of value =
    ap statement_words (sym (statement.rolls-Let name type_of value))
    ∙ fold-roll-Statement Words statement_layer (Let name type_of value)

pub statement_words-print : (values : List Expr)
    → statement_words (statement.Print values) ≡ codes "print" ∷ (separated_words (codes ",") expr_words values ++ codes ";" ∷ [])
unfolding statement_words
statement_words-print values = ap statement_words (sym (statement.rolls-Print values))
    ∙ fold-roll-Statement Words statement_layer (Print values)

pub statement_words-block : (body : List Statement)
    → statement_words (statement.Block body) ≡ codes "{" ∷ (flat_map statement_words body ++ codes "}" ∷ [])
unfolding statement_words
statement_words-block body =
    ap statement_words (sym (statement.rolls-Block body)) ∙ fold-roll-Statement Words statement_layer (Block body)
    ∙ ap (λ ws. codes "{" ∷ (ws ++ codes "}" ∷ [])) (flat_of_map (fold-Statement Words statement_layer) body)

pub statement_words-set : (name : Ident) (value : Expr)
    → statement_words (statement.Set name value) ≡ name.text ∷ codes "=" ∷ (expr_words value ++ codes ";" ∷ [])
unfolding statement_words
statement_words-set name value = ap statement_words (sym (statement.rolls-Set name value))
    ∙ fold-roll-Statement Words statement_layer (Set name value)

pub statement_words-do : (name : Ident) (args : List Expr)
    → statement_words (statement.Do name args)
    ≡ name.text ∷ codes "(" ∷ (separated_words (codes ",") expr_words args ++ codes ")" ∷ codes ";" ∷ [])
unfolding statement_words
statement_words-do name args = ap statement_words (sym (statement.rolls-Do name args))
    ∙ fold-roll-Statement Words statement_layer (Do name args)

-- the words of a program
abbrev pub program_words : Program → Words
program_words p = codes "program" ∷ p.name.text ∷ codes ";" ∷ flat_map statement_words p.body

abbrev pub rule_words : (r : Rule) → TreeOf r → Words
rule_words any_expr = expr_words
rule_words any_statement = statement_words

-- each rule spells its tree's words
abbrev Spells : {A : Type 0} → Grammar Rule TreeOf A → (A → Words) → Type 0
Spells g words_of = spell.EachSpells as_text rule_words g (λ words x. words ≡ words_of x)

-- one line for each alternative
expr_spells : Spells grammar.expr expr_words
unfolding grammar.expr grammar.after_name grammar.arguments grammar.exprs next_words
expr_spells = (
  (λ t. sym (expr_words-number (number_in t))),
  (
    (λ t a. sym (expr_words-not t.number a)),
    (
      (λ n. (
        (λ t. (
          (λ u. sym (expr_words-call (ident_of n) [])),
          (λ x. (next_words (codes ",") expr_words, (λ u y. refl), λ xs u. sym (expr_words-call (ident_of n) (x ∷ xs)))),
        )),
        (
          (λ t a u. sym (expr_words-index (ident_of n) a)),
          sym (expr_words-name (ident_of n)),
        ),
      )),
      (λ t a u. sym (expr_words-group a)),
    ),
  ),
)

statement_spells : Spells grammar.statement statement_words
unfolding grammar.statement grammar.statements grammar.simple grammar.type_of grammar.arguments grammar.exprs
    next_words
statement_spells = (
  (λ t n. (
    (λ u m v a w. sym (statement_words-let (ident_of n) (Some (ident_of m)) a)),
    (λ v a w. sym (statement_words-let (ident_of n) None a)),
  )),
  (
    (λ t x. (next_words (codes ",") expr_words, (λ u y. refl), λ xs u. sym (statement_words-print (x ∷ xs)))),
    (
      (λ t. (statement_words, (λ a. refl), λ xs u. sym (statement_words-block xs))),
      (λ n. (
        (λ t a u. sym (statement_words-set (ident_of n) a)),
        (λ t. (
          (λ u v. sym (statement_words-do (ident_of n) [])),
          (λ x. (
            next_words (codes ",") expr_words,
            (λ u y. refl),
            λ xs u v.
                ap (λ ws. n.text ∷ codes "(" ∷ ws)
                (append_assoc (expr_words x ++ flat_map (next_words (codes ",") expr_words) xs) (codes ")" ∷ []) (codes ";" ∷ []))
                ∙ sym (statement_words-do (ident_of n) (x ∷ xs)),
          )),
        )),
      )),
    ),
  ),
)

program_spells : Spells program program_words
unfolding program grammar.statements
program_spells = λ t n u. (statement_words, (λ a. refl), λ xs. refl)

-- each text of a program spells its words
pub program_texts : (tokens : List Lexeme) (p : Program) → IsPhrase sample program tokens p
    → spellings as_text tokens ≡ program_words p
program_texts tokens p phrase =
    spell.texts_spell as_text sample rule_words (elim [ any_expr ↦ expr_spells | any_statement ↦ statement_spells ])
    program program_words program_spells tokens p phrase
