-- What tokens spell, where tokens of a kind are spelled in one way, and which trees are the same but for the numbers of tokens.
use Rattle.std.specs.Prelude.{ℕ, ◌≡◌, ◌^◌, min, List, map}
use Rattle.std.specs.Fmt.{decimal}
use Rattle.qc_text.specs.declared.token.Kind.{Kind}
use Rattle.qc_text.specs.declared.token.Kind.TheVariants.{Name, Prim, Number, Str, Punct}
use Rattle.qc_text.specs.Numerals.{number_of}
use Rattle.qc_text.specs.Tokens.{IsTokenText}
use Rattle.qc_grammar.specs.Lexeme.{Class, Word, Value, Any, Lexeme}
use Rattle.qc_grammar.specs.Grammar.{Grammar, Syntax}
use Rattle.qc_grammar.specs.SameUpToTokens.{AreAlikeTrees}

module _ (as_text : Kind → List ℕ → List ℕ) where
  -- a word or a number of the grammar, or how a token of its kind and text is spelled
  abbrev pub spelled_as : Class → List ℕ → List ℕ
  spelled_as (Word text) given = text
  spelled_as (Value number) given = decimal number
  spelled_as (Any kind) given = as_text kind given

  abbrev pub spelling : Lexeme → List ℕ
  spelling token = spelled_as token.class token.text

  abbrev pub spellings : List Lexeme → List (List ℕ)
  spellings tokens = map spelling tokens

  -- tokens of one class that are spelled alike
  abbrev pub IsSpelledAlike : Lexeme → Lexeme → Type 0
  IsSpelledAlike t u = (t.class ≡ u.class) × (spelling t ≡ spelling u)

-- The trees are the same but for the numbers of tokens: the grammar makes them by the same alternatives, from tokens of
-- one class and one text each, where numerals may be written differently if they have the same value. Which texts count
-- as one is what as_text says: those for which it gives one text.
abbrev pub AreSameTrees : (Kind → List ℕ → List ℕ) → {I : Type 0} {E : I → Type 0} → Syntax I E → {A : Type 0}
    → Grammar I E A → A → A → Type 0
AreSameTrees as_text s g a b = AreAlikeTrees s (IsSpelledAlike as_text) g a b

-- How tokens of each kind are respelled: a number in decimal, with the value that it has, and others by their texts. A
-- text of a kind stays one, and what is respelled is respelled the same.
pub record Respells (as_text : Kind → List ℕ → List ℕ) : Type 0 where
  pub name : (given : List ℕ) → as_text Name given ≡ given
  pub prim : (given : List ℕ) → as_text Prim given ≡ given
  pub number : (given : List ℕ) → as_text Number given ≡ decimal (min (number_of given) (2 ^ 64))
  pub value : (given : List ℕ) → min (number_of (as_text Number given)) (2 ^ 64) ≡ min (number_of given) (2 ^ 64)
  pub str : (given : List ℕ) → as_text Str given ≡ given
  pub punct : (given : List ℕ) → as_text Punct given ≡ given
  pub of_kind : (kind : Kind) (given : List ℕ) → IsTokenText kind given → IsTokenText kind (as_text kind given)
  pub again : (kind : Kind) (given : List ℕ) → IsTokenText kind given
      → as_text kind (as_text kind given) ≡ as_text kind given
