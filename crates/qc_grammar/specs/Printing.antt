-- How the tokens of a tree are printed, which trees are trees of a grammar, and what a file is from which one is read again.
use Rattle.std.specs.Prelude.{ℕ, ◌≡◌, ◌^◌, min, true, List, [], ◌∷◌, ◌++◌, Ok}
use Rattle.std.specs.Fmt.{decimal}
use Rattle.std.specs.List.{flat_map}
use Rattle.qc_text.specs.declared.token.Kind.{Kind}
use Rattle.qc_text.specs.declared.token.Kind.TheVariants as kind
use Rattle.qc_grammar.specs.declared.cursor.Number.{Number}
use Rattle.qc_text.specs.Numerals.{number_of}
use Rattle.qc_text.specs.PrintedWords.{AreWords, Words}
use Rattle.qc_grammar.specs.Lexeme.{Lexeme, Vocabulary, class_of}
use Rattle.qc_grammar.specs.Grammar.{Grammar, Syntax}
use Rattle.qc_grammar.specs.Language.{IsPhrase}
use Rattle.qc_grammar.specs.Brackets.{is_shallow}
use Rattle.qc_grammar.specs.Spelled.{AreSameTrees}
use Rattle.qc_grammar.specs.TextAnswer.{IsTextAnswer}

-- A number is printed by the decimal digits of its value, and one above 2^64 as 2^64. Another token is printed by its
-- text.
abbrev pub as_text : Kind → List ℕ → List ℕ
as_text kind.Number text = decimal (min (number_of text) (2 ^ 64))
as_text kind.Name text = text
as_text kind.Prim text = text
as_text kind.Str text = text
as_text kind.Punct text = text
as_text kind.End text = text

abbrev pub digits : Number → List ℕ
digits n = decimal n.value

-- what comes after the first of several things: a separator and a thing's words
unfoldable pub next_words : {X : Type 0} → List ℕ → (X → Words) → X → Words
next_words separator words x = separator ∷ words x

-- the words of several things, with a separator between two
abbrev pub separated_words : {X : Type 0} → List ℕ → (X → Words) → List X → Words
separated_words separator words [] = []
separated_words separator words (x ∷ xs) = words x ++ flat_map (next_words separator words) xs

-- These are tokens of these kinds and texts, whatever their numbers, where those before them have others.
abbrev pub AreLexemes : Vocabulary → List (Kind × List ℕ) → List (Kind × List ℕ) → List Lexeme → Type 0
AreLexemes vocabulary before [] [] = Unit {0}
AreLexemes vocabulary before (word ∷ words) (token ∷ tokens) =
    (token.class ≡ class_of (vocabulary before word.0 word.1) word.0 word.1) × (token.text ≡ word.1)
    × AreLexemes vocabulary (before ++ word ∷ []) words tokens
AreLexemes vocabulary before [] (token ∷ tokens) = ⊥
AreLexemes vocabulary before (word ∷ words) [] = ⊥

-- The tree is one of the grammar: of some tokens that are a phrase of it, whatever their numbers, among which no
-- bracket is too deep.
pub record IsTreeOf {I : Type 0} {E : I → Type 0} (s : Syntax I E) {A : Type 0} (g : Grammar I E A)
    (vocabulary : Vocabulary) (tree : A) : Type 0 where
  pub words : List (Kind × List ℕ)
  pub tokens : List Lexeme
  pub of_kinds : AreWords words
  pub are : AreLexemes vocabulary [] words tokens
  pub phrase : IsPhrase s g tokens tree
  pub shallow : is_shallow 0 tokens ≡ true

-- The file is a text of the grammar, which has this vocabulary. Its tree is this one but for the numbers of tokens.
pub record IsTextOf (as_text : Kind → List ℕ → List ℕ) {I : Type 0} {E : I → Type 0} (s : Syntax I E) {A : Type 0}
    (g : Grammar I E A) (vocabulary : Vocabulary) (tree : A) (bytes : List ℕ) : Type 0 where
  pub other : A
  pub reads : IsTextAnswer s g vocabulary bytes (Ok other)
  pub same : AreSameTrees as_text s g tree other
