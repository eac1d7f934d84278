-- The one answer of a reader to a file.
use Rattle.std.specs.Prelude.{ℕ, ◌≡◌, List, length, Result, Ok, Err}
use Rattle.qc_text.specs.declared.token.Token.{Token}
use Rattle.qc_grammar.specs.declared.cursor.ReadError.{ReadError}
use Rattle.qc_grammar.specs.declared.cursor.ReadError.TheVariants as error
use Rattle.qc_grammar.specs.declared.answers.ReadTextFault.{ReadTextFault}
use Rattle.qc_grammar.specs.declared.answers.ReadTextFault.TheVariants.{BadByte, Syntax, TooDeep}
use Rattle.qc_grammar.specs.declared.answers.ReadTextEnd.{ReadTextEnd}
use Rattle.qc_grammar.specs.declared.answers.ReadTextEnd.TheVariants.{Fault, NoMemory}
use Rattle.qc_text.specs.Pieces.{AreTokens, IsBadByte}
use Rattle.qc_grammar.specs.TokenSpans.{InSource, IsEnded}
use Rattle.qc_grammar.specs.Lexeme.{Lexeme, Vocabulary, classed, lexemes}
use Rattle.qc_grammar.specs.declared.classes.ClassedToken.{ClassedToken}
use Rattle.qc_grammar.specs.Grammar as grammar
use Rattle.qc_grammar.specs.Grammar.{Grammar}
use Rattle.qc_grammar.specs.Answer.{IsTree, IsSyntax, IsTooDeep}

-- These are the tokens of the file, with their classes by the vocabulary. The file has no others, and no bad byte.
pub record IsScanned (vocabulary : Vocabulary) (bytes : List ℕ) (found : List ClassedToken) : Type 0 where
  pub tokens : List Token
  pub by_vocabulary : found ≡ classed vocabulary bytes tokens
  pub are : AreTokens bytes tokens
  pub only : (others : List Token) → AreTokens bytes others → tokens ≡ others
  pub whole : (at : ℕ) → IsBadByte bytes at → ⊥
  pub inside : InSource (length bytes) found
  pub ended : IsEnded found

-- This is the bad byte of the file. It has no other, and no tokens.
pub record IsOnlyBadByte (bytes : List ℕ) (at : ℕ) : Type 0 where
  pub is : IsBadByte bytes at
  pub only : (place : ℕ) → IsBadByte bytes place → at ≡ place
  pub none : (tokens : List Token) → AreTokens bytes tokens → ⊥

-- why a file has no tokens
abbrev pub IsScanCause : List ℕ → ReadTextEnd → Type 0
IsScanCause bytes (Fault (BadByte at)) = IsOnlyBadByte bytes at
IsScanCause bytes (Fault (Syntax token)) = ⊥
IsScanCause bytes (Fault (TooDeep token)) = ⊥
IsScanCause bytes NoMemory = Unit {0}

-- P holds of the file's tokens, where the grammar has this vocabulary
pub record OfTokens (vocabulary : Vocabulary) (bytes : List ℕ) (P : List Lexeme → Type 0) : Type 0 where
  pub tokens : List Token
  pub are : AreTokens bytes tokens
  pub is : P (lexemes vocabulary bytes tokens)

module _ {I : Type 0} {E : I → Type 0} where
  -- The answer is a bad byte, if the file has one, and else what its tokens say.
  abbrev pub IsTextAnswer : grammar.Syntax I E → {A : Type 0} → Grammar I E A → Vocabulary → List ℕ
      → Result A ReadTextFault → Type 0
  IsTextAnswer s g vocabulary bytes (Ok tree) = OfTokens vocabulary bytes (λ tokens. IsTree s g tokens tree)
  IsTextAnswer s g vocabulary bytes (Err (BadByte at)) = IsBadByte bytes at
  IsTextAnswer s g vocabulary bytes (Err (Syntax token)) = OfTokens vocabulary bytes (λ tokens. IsSyntax s g tokens token)
  IsTextAnswer s g vocabulary bytes (Err (TooDeep token)) = OfTokens vocabulary bytes (λ tokens. IsTooDeep s g tokens token)

  -- this is the answer, and no other one is
  pub record IsOneTextAnswer (s : grammar.Syntax I E) {A : Type 0} (g : Grammar I E A) (vocabulary : Vocabulary)
      (bytes : List ℕ) (answer : Result A ReadTextFault) : Type 0 where
    pub is : IsTextAnswer s g vocabulary bytes answer
    pub only : (other : Result A ReadTextFault) → IsTextAnswer s g vocabulary bytes other → answer ≡ other

  -- a reader returned the one answer, unless memory ran out
  abbrev pub AnswersText : grammar.Syntax I E → {A : Type 0} → Grammar I E A → Vocabulary → List ℕ
      → Result A ReadTextEnd → Type 0
  AnswersText s g vocabulary bytes (Ok tree) = IsOneTextAnswer s g vocabulary bytes (Ok tree)
  AnswersText s g vocabulary bytes (Err (Fault fault)) = IsOneTextAnswer s g vocabulary bytes (Err fault)
  AnswersText s g vocabulary bytes (Err NoMemory) = Unit {0}

-- the answer to a file whose tokens have this answer
abbrev pub file_answer : {A : Type 0} → Result A ReadError → Result A ReadTextEnd
file_answer (Ok tree) = Ok tree
file_answer (Err (error.Syntax token)) = Err (Fault (Syntax token))
file_answer (Err (error.TooDeep token)) = Err (Fault (TooDeep token))
file_answer (Err error.NoMemory) = Err NoMemory
