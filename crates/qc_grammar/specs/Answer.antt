-- The one answer of a reader to a text.
use Rattle.std.specs.Prelude.{ℕ, zero, suc, ◌≡◌, ◌<◌, ◌-◌, Option, Some, None, true, false, List, [], ◌∷◌, ◌++◌, length, take, Result, Ok, Err}
use Rattle.qc_text.specs.declared.token.Kind.TheVariants as kind
use Rattle.qc_grammar.specs.declared.cursor.ReadError.{ReadError}
use Rattle.qc_grammar.specs.declared.cursor.ReadError.TheVariants.{Syntax, TooDeep, NoMemory}
use Rattle.qc_grammar.specs.Lexeme.{Any, Lexeme}
use Rattle.qc_grammar.specs.declared.cursor.Stop.{Stop}
use Rattle.qc_grammar.specs.declared.cursor.Stop.TheVariants as stop
use Rattle.qc_grammar.specs.declared.cursor.Stop.TheVariants.{At}
use Rattle.qc_grammar.specs.Grammar as grammar
use Rattle.qc_grammar.specs.Grammar.{Grammar}
use Rattle.qc_grammar.specs.Language.{IsPhrase, Begins}
use Rattle.qc_grammar.specs.Grammar.{text}
use Rattle.qc_grammar.specs.Brackets.{is_shallow}

module _ {I : Type 0} {E : I → Type 0} where
  -- The text is one of the grammar, with this tree, and no bracket in it is too deep.
  pub record IsTree (s : grammar.Syntax I E) {A : Type 0} (g : Grammar I E A) (tokens : List Lexeme) (tree : A) : Type 0
    where
      pub phrase : IsPhrase s (text g) tokens tree
      pub shallow : is_shallow 0 tokens ≡ true

  -- The tokens before this one begin some text of the grammar, and with this one they begin none. No bracket before it
  -- is too deep.
  pub record IsSyntax (s : grammar.Syntax I E) {A : Type 0} (g : Grammar I E A) (tokens : List Lexeme)
      (token : ℕ) : Type 0 where
    pub within : token < length tokens
    pub before : Begins s (text g) (take token tokens)
    pub none : Begins s (text g) (take (suc token) tokens) → ⊥
    pub shallow : is_shallow 0 (take token tokens) ≡ true

  -- This token is the first bracket that would make 201 open, and with it the tokens begin some text of the grammar.
  pub record IsTooDeep (s : grammar.Syntax I E) {A : Type 0} (g : Grammar I E A) (tokens : List Lexeme)
      (token : ℕ) : Type 0 where
    pub within : token < length tokens
    pub with_it : Begins s (text g) (take (suc token) tokens)
    pub shallow : is_shallow 0 (take token tokens) ≡ true
    pub deep : is_shallow 0 (take (suc token) tokens) ≡ false

  abbrev pub IsAnswer : grammar.Syntax I E → {A : Type 0} → Grammar I E A → List Lexeme → Result A ReadError → Type 0
  IsAnswer s g tokens (Ok tree) = IsTree s g tokens tree
  IsAnswer s g tokens (Err (Syntax token)) = IsSyntax s g tokens token
  IsAnswer s g tokens (Err (TooDeep token)) = IsTooDeep s g tokens token
  IsAnswer s g tokens (Err NoMemory) = ⊥

  -- this is the answer, and no other one is
  pub record IsOneAnswer (s : grammar.Syntax I E) {A : Type 0} (g : Grammar I E A) (tokens : List Lexeme)
      (answer : Result A ReadError) : Type 0 where
    pub is : IsAnswer s g tokens answer
    pub only : (other : Result A ReadError) → IsAnswer s g tokens other → answer ≡ other

  -- a reader returned the one answer, unless memory ran out
  abbrev pub Answers : grammar.Syntax I E → {A : Type 0} → Grammar I E A → List Lexeme → Result A ReadError → Type 0
  Answers s g tokens (Ok tree) = IsOneAnswer s g tokens (Ok tree)
  Answers s g tokens (Err (Syntax token)) = IsOneAnswer s g tokens (Err (Syntax token))
  Answers s g tokens (Err (TooDeep token)) = IsOneAnswer s g tokens (Err (TooDeep token))
  Answers s g tokens (Err NoMemory) = Unit {0}

-- The tokens of a whole text: the last is the end.
pub record EndsText (tokens : List Lexeme) : Type 0 where
  pub front : List Lexeme
  pub last : Lexeme
  pub split : tokens ≡ front ++ last ∷ []
  pub end : last.class ≡ Any kind.End

-- the tokens that a reader is given: up to and with the first bracket that is too deep, if there is one
abbrev pub cut : {T : Type 0} → Option ℕ → List T → List T
cut None tokens = tokens
cut (Some token) tokens = take (suc token) tokens

-- the answer where no token is left
abbrev pub at_the_end : {A : Type 0} → Option ℕ → Result A ReadError → Result A ReadError
at_the_end None answer = answer
at_the_end (Some token) answer = Err (TooDeep token)

-- The answer where a reader was given so many tokens and left so many of them.
abbrev pub settled : {A : Type 0} → Result A Stop → Option ℕ → ℕ → ℕ → Result A ReadError
settled (Ok tree) deep total zero = at_the_end deep (Ok tree)
settled (Ok tree) deep total (suc left) = Err (Syntax (total - suc left))
settled (Err (At zero)) deep total left = at_the_end deep (Err (Syntax total))
settled (Err (At (suc at))) deep total left = Err (Syntax (total - suc at))
settled (Err stop.NoMemory) deep total left = Err NoMemory
