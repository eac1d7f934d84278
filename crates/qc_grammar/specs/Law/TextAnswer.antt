-- The one answer of a reader to a file is made of the answer to the file's tokens.
use Rattle.std.specs.Prelude.{ℕ, ◌≡◌, List, Result, Ok, Err}
use Rattle.std.proofs.Common.{ap, sym, subst}
use Rattle.qc_text.specs.declared.token.Token.{Token}
use Rattle.qc_text.specs.Pieces.{AreTokens, IsBadByte}
use Rattle.qc_grammar.specs.declared.classes.ClassedToken.{ClassedToken}
use Rattle.qc_grammar.specs.declared.cursor.ReadError.{ReadError}
use Rattle.qc_grammar.specs.declared.cursor.ReadError.TheVariants as error
use Rattle.qc_grammar.specs.declared.answers.ReadTextFault.{ReadTextFault}
use Rattle.qc_grammar.specs.declared.answers.ReadTextFault.TheVariants.{BadByte, Syntax, TooDeep}
use Rattle.qc_grammar.specs.declared.answers.ReadTextEnd.{ReadTextEnd}
use Rattle.qc_grammar.specs.declared.answers.ReadTextEnd.TheVariants.{Fault, NoMemory}
use Rattle.qc_grammar.specs.Lexeme.{Lexeme, Vocabulary, lexemes, lexemes_from}
use Rattle.qc_grammar.specs.Grammar as grammar
use Rattle.qc_grammar.specs.Grammar.{Grammar}
use Rattle.qc_grammar.specs.Answer.{IsTree, IsSyntax, IsTooDeep, IsOneAnswer, Answers}
use Rattle.qc_grammar.specs.TextAnswer.{IsScanned, IsScanCause, OfTokens, IsTextAnswer, AnswersText, file_answer}

-- without want of memory
abbrev file_fault : {A : Type 0} → Result A ReadError → Result A ReadTextFault
file_fault (Ok tree) = Ok tree
file_fault (Err (error.Syntax token)) = Err (Syntax token)
file_fault (Err (error.TooDeep token)) = Err (TooDeep token)
file_fault (Err error.NoMemory) = Err (BadByte 0)

-- the only tokens of a file
record AreOnlyTokens (bytes : List ℕ) (tokens : List Token) : Type 0 where
  are : AreTokens bytes tokens
  only : (others : List Token) → AreTokens bytes others → tokens ≡ others
  whole : (at : ℕ) → IsBadByte bytes at → ⊥

module _ {I : Type 0} {E : I → Type 0} (s : grammar.Syntax I E) {A : Type 0} (g : Grammar I E A)
    (vocabulary : Vocabulary) (bytes : List ℕ) where
  of_these : (tokens : List Token) → AreOnlyTokens bytes tokens → (P : List Lexeme → Type 0) → OfTokens vocabulary bytes P
      → P (lexemes vocabulary bytes tokens)
  of_these tokens scanned P o = subst (λ ts. P (lexemes vocabulary bytes ts)) (sym (scanned.only o.tokens o.are)) o.is

  no_other : (tokens : List Token) → AreOnlyTokens bytes tokens → (answer : Result A ReadError)
      → IsOneAnswer s g (lexemes vocabulary bytes tokens) answer
      → (other : Result A ReadTextFault) → IsTextAnswer s g vocabulary bytes other → file_fault answer ≡ other
  no_other tokens scanned answer one (Ok tree) p =
      ap file_fault (one.only (Ok tree) (of_these tokens scanned (λ ts. IsTree s g ts tree) p))
  no_other tokens scanned answer one (Err (BadByte at)) p = absurd (scanned.whole at p)
  no_other tokens scanned answer one (Err (Syntax token)) p =
      ap file_fault (one.only (Err (error.Syntax token)) (of_these tokens scanned (λ ts. IsSyntax s g ts token) p))
  no_other tokens scanned answer one (Err (TooDeep token)) p =
      ap file_fault (one.only (Err (error.TooDeep token)) (of_these tokens scanned (λ ts. IsTooDeep s g ts token) p))

  answered_as : (tokens : List Token) → AreOnlyTokens bytes tokens → (answer : Result A ReadError)
      → Answers s g (lexemes vocabulary bytes tokens) answer → AnswersText s g vocabulary bytes (file_answer answer)
  answered_as tokens scanned (Ok tree) one =
      record {
        is = record { tokens = tokens; are = scanned.are; is = one.is };
        only = no_other tokens scanned
            (Ok tree) one;
      }
  answered_as tokens scanned (Err (error.Syntax token)) one =
      record {
        is = record { tokens = tokens; are = scanned.are; is = one.is };
        only = no_other tokens scanned
            (Err (error.Syntax token)) one;
      }
  answered_as tokens scanned (Err (error.TooDeep token)) one =
      record {
        is = record { tokens = tokens; are = scanned.are; is = one.is };
        only = no_other tokens scanned
            (Err (error.TooDeep token)) one;
      }
  answered_as tokens scanned (Err error.NoMemory) one = tt

  -- The answer to the file's tokens is the one answer to the file.
  pub text_answered : (found : List ClassedToken) → IsScanned vocabulary bytes found → (answer : Result A ReadError)
      → Answers s g (lexemes_from bytes 0 found) answer
      → (result : Result A ReadTextEnd) → result ≡ file_answer answer → AnswersText s g vocabulary bytes result
  text_answered found scanned answer answers result e =
      subst (AnswersText s g vocabulary bytes) (sym e)
      (answered_as scanned.tokens (record { are = scanned.are; only = scanned.only; whole = scanned.whole }) answer
      (subst (λ classed. Answers s g (lexemes_from bytes 0 classed) answer) scanned.by_vocabulary answers))

  -- a file without tokens
  pub unscanned : (why : ReadTextEnd) → IsScanCause bytes why → AnswersText s g vocabulary bytes (Err why)
  unscanned (Fault (BadByte at)) cause = record { is = cause.is; only = one_byte }
    where
      one_byte : (other : Result A ReadTextFault) → IsTextAnswer s g vocabulary bytes other → Err (BadByte at) ≡ other
      one_byte (Ok tree) p = absurd (cause.none p.tokens p.are)
      one_byte (Err (BadByte place)) p = ap (λ k. Err (BadByte k)) (cause.only place p)
      one_byte (Err (Syntax token)) p = absurd (cause.none p.tokens p.are)
      one_byte (Err (TooDeep token)) p = absurd (cause.none p.tokens p.are)
  unscanned (Fault (Syntax token)) cause = absurd cause
  unscanned (Fault (TooDeep token)) cause = absurd cause
  unscanned NoMemory cause = tt
