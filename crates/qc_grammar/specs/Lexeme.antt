-- The tokens of a text as definitions speak of them, each with its number, its class and its text; and which of them are words of a grammar.
use Rattle.std.specs.Prelude.{ℕ, suc, ◌^◌, min, Bool, true, false, List, [], ◌∷◌, ◌++◌, nat_eq, slice_range}
use Rattle.std.specs.List.{list_any}
use Rattle.std.specs.Str.{bytes_eq}
use Rattle.qc_text.specs.declared.token.Kind.{Kind}
use Rattle.qc_text.specs.declared.token.Kind.TheVariants as kind
use Rattle.qc_text.specs.declared.token.Token.{Token}
use Rattle.qc_text.specs.Numerals.{number_of}
use Rattle.qc_text.specs.Tokens.{token_text}
use Rattle.qc_grammar.specs.declared.classes.ClassedToken.{ClassedToken}
use Rattle.qc_grammar.specs.declared.cursor.Ident.{Ident}
use Rattle.qc_grammar.specs.declared.cursor.Number.{Number}

-- What a grammar tells of a token: a word of the grammar, a number of the grammar with this value, or any token of a
-- kind. Numbers of 2^64 and more have the value 2^64.
pub data Class : Type 0 where
  Word : (text : List ℕ) → Class
  Value : (number : ℕ) → Class
  Any : (kind : Kind) → Class

-- Which tokens are words or numbers of a grammar, as punctuation and reserved words are. It hangs on the kinds and the
-- texts of the tokens before a token, and on its own, and never on what comes after it.
abbrev pub Vocabulary : Type 0
Vocabulary = List (Kind × List ℕ) → Kind → List ℕ → Bool

-- a token with its number in the text, from 0
pub record Lexeme : Type 0 where
  pub number : ℕ
  pub class : Class
  pub text : List ℕ

abbrev pub kind_number : Kind → ℕ
kind_number kind.Name = 0
kind_number kind.Prim = 1
kind_number kind.Number = 2
kind_number kind.Str = 3
kind_number kind.Punct = 4
kind_number kind.End = 5

abbrev pub same_kind : Kind → Kind → Bool
same_kind k l = nat_eq (kind_number k) (kind_number l)

abbrev pub same_class : Class → Class → Bool
same_class (Word a) (Word b) = bytes_eq a b
same_class (Value n) (Value m) = nat_eq n m
same_class (Any k) (Any l) = same_kind k l
same_class (Word a) (Value m) = false
same_class (Word a) (Any l) = false
same_class (Value n) (Word b) = false
same_class (Value n) (Any l) = false
same_class (Any k) (Word b) = false
same_class (Any k) (Value m) = false

-- the class of a token of a kind and a text, which is a word or a number of the grammar or not; the end never is one
abbrev pub class_of : Bool → Kind → List ℕ → Class
class_of true kind.Name text = Word text
class_of true kind.Prim text = Word text
class_of true kind.Number text = Value (min (number_of text) (2 ^ 64))
class_of true kind.Str text = Word text
class_of true kind.Punct text = Word text
class_of true kind.End text = Any kind.End
class_of false k text = Any k

-- Punctuation is a word of the grammar, and so is each of these names.
abbrev pub reserving : List (List ℕ) → Vocabulary
reserving names before kind.Name text = list_any (λ word. bytes_eq word text) names
reserving names before kind.Punct text = true
reserving names before kind.Prim text = false
reserving names before kind.Number text = false
reserving names before kind.Str text = false
reserving names before kind.End text = false

-- the tokens of a source with their classes, where these come before them
abbrev pub classed_from : Vocabulary → List ℕ → List (Kind × List ℕ) → List Token → List ClassedToken
classed_from vocabulary source before [] = []
classed_from vocabulary source before (token ∷ tokens) =
    record { token = token; is_word = vocabulary before token.kind (token_text source token) }
    ∷ classed_from vocabulary source (before ++ (token.kind, token_text source token) ∷ []) tokens

abbrev pub classed : Vocabulary → List ℕ → List Token → List ClassedToken
classed vocabulary source tokens = classed_from vocabulary source [] tokens

-- the token of this number
abbrev pub lexeme_of : List ℕ → ℕ → ClassedToken → Lexeme
lexeme_of source number classed =
    record {
      number = number;
      class = class_of classed.is_word classed.token.kind (slice_range source classed.token.start classed.token.end);
      text = slice_range source classed.token.start classed.token.end;
    }

-- the tokens, of which the first has this number
abbrev pub lexemes_from : List ℕ → ℕ → List ClassedToken → List Lexeme
lexemes_from source number [] = []
lexemes_from source number (token ∷ tokens) = lexeme_of source number token ∷ lexemes_from source (suc number) tokens

-- the tokens of a source by a grammar's vocabulary
abbrev pub lexemes : Vocabulary → List ℕ → List Token → List Lexeme
lexemes vocabulary source tokens = lexemes_from source 0 (classed vocabulary source tokens)

-- the number and the text of the first token
abbrev pub next_number : List Lexeme → ℕ
next_number [] = 0
next_number (token ∷ tokens) = token.number

abbrev pub next_text : List Lexeme → List ℕ
next_text [] = []
next_text (token ∷ tokens) = token.text

abbrev pub ident_of : Lexeme → Ident
ident_of token = record { token = token.number; text = token.text }

-- a number's token with its value, where 2^64 stands for all numbers of 2^64 and more
abbrev pub number_in : Lexeme → Number
number_in token = record { token = token.number; value = min (number_of token.text) (2 ^ 64) }
