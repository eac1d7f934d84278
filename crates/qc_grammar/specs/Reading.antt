-- Predictive reading: the next token tells which phrase comes.
use Rattle.std.specs.Prelude.{ℕ, zero, suc, Bool, true, false, cond, ◌||◌, List, [], ◌∷◌, ◌++◌, length, Result, Ok, Err}
use Rattle.std.specs.List.{list_any}
use Rattle.qc_grammar.specs.Lexeme.{Class, Word, Value, Any, Lexeme, same_class, ident_of, number_in}
use Rattle.qc_text.specs.declared.token.Kind.{Kind}
use Rattle.qc_text.specs.declared.token.Kind.TheVariants as kind
use Rattle.qc_grammar.specs.declared.cursor.Ident.{Ident}
use Rattle.qc_grammar.specs.declared.cursor.Number.{Number}
use Rattle.qc_grammar.specs.Lexeme.{number_in}
use Rattle.qc_grammar.specs.Grammar.{Grammar, terminal, empty, sequence, choice, action, repetition, nonterminal, Syntax}

-- a tree and the tokens after its phrase, or how many tokens are left at the one that can't go on
abbrev pub Read : Type 0 → Type 0
Read A = Result (A × List Lexeme) ℕ

abbrev pub then_read : {A B : Type 0} → Read A → (A → List Lexeme → Read B) → Read B
then_read (Ok x) f = f x.0 x.1
then_read (Err left) f = Err left

-- one reading after another, and a function of a tree that is read
abbrev pub read_both : {A B : Type 0} → (List Lexeme → Read A) → (List Lexeme → Read B) → List Lexeme → Read (A × B)
read_both read more tokens = then_read (read tokens) (λ x rest. then_read (more rest) (λ y last. Ok ((x, y), last)))

abbrev pub read_as : {A B : Type 0} → (A → B) → (List Lexeme → Read A) → List Lexeme → Read B
read_as f read tokens = then_read (read tokens) (λ x rest. Ok (f x, rest))

-- the next token is of one of the classes
abbrev pub next_in : List Class → List Lexeme → Bool
next_in classes [] = false
next_in classes (token ∷ tokens) = list_any (same_class token.class) classes

-- one token of this class
abbrev pub take_one : Class → List Lexeme → Read Lexeme
take_one c [] = Err 0
take_one c (token ∷ tokens) = cond (same_class token.class c) (Ok (token, tokens)) (Err (suc (length tokens)))

-- a word of the grammar, with the token's number
abbrev pub read_word : List ℕ → List Lexeme → Read ℕ
read_word text tokens = then_read (take_one (Word text) tokens) (λ token rest. Ok (token.number, rest))

-- a number of the grammar, with the token's number
abbrev pub read_value : ℕ → List Lexeme → Read ℕ
read_value value tokens = then_read (take_one (Value value) tokens) (λ token rest. Ok (token.number, rest))

-- the end of a text
abbrev pub read_end : List Lexeme → Read ℕ
read_end tokens = then_read (take_one (Any kind.End) tokens) (λ token rest. Ok (token.number, rest))

-- any token of a kind, with its number and its text
abbrev pub read_ident : Kind → List Lexeme → Read Ident
read_ident kind tokens = then_read (take_one (Any kind) tokens) (λ token rest. Ok (ident_of token, rest))

-- a number, with its value
abbrev pub read_number : List Lexeme → Read Number
read_number tokens = then_read (take_one (Any kind.Number) tokens) (λ token rest. Ok (number_in token, rest))

-- what read gives, again and again while the next token is of one of the classes
abbrev pub repeated : {A : Type 0} → (List Lexeme → Read A) → List Class → ℕ → List Lexeme → Read (List A)
repeated read classes zero tokens = Ok ([], tokens)
repeated {A = A} read classes (suc fuel) tokens =
    let more : Read (List A) = read_as (λ p. p.0 ∷ p.1) (read_both read (repeated read classes fuel)) tokens in
    cond (next_in classes tokens) more (Ok ([], tokens))

module _ {I : Type 0} {E : I → Type 0} where
  -- no token is a phrase
  abbrev pub can_be_empty : {A : Type 0} → Grammar I E A → Bool
  can_be_empty (terminal c) = false
  can_be_empty (empty x) = true
  can_be_empty (sequence g h) = cond (can_be_empty g) (can_be_empty h) false
  can_be_empty (choice g h) = can_be_empty g || can_be_empty h
  can_be_empty (action f g) = can_be_empty g
  can_be_empty (repetition g) = true
  can_be_empty (nonterminal i) = false

  -- the classes of the tokens that begin a phrase, where those of the rules' phrases are given
  abbrev pub first_by : (I → List Class) → {A : Type 0} → Grammar I E A → List Class
  first_by begins (terminal c) = c ∷ []
  first_by begins (empty x) = []
  first_by begins (sequence g h) = first_by begins g ++ cond (can_be_empty g) (first_by begins h) []
  first_by begins (choice g h) = first_by begins g ++ first_by begins h
  first_by begins (action f g) = first_by begins g
  first_by begins (repetition g) = first_by begins g
  first_by begins (nonterminal i) = begins i

  -- those of a rule, which has a token before each rule inside it
  abbrev pub rule_first : Syntax I E → I → List Class
  rule_first s i = first_by (λ _. []) (s.rule i)

  abbrev pub first : Syntax I E → {A : Type 0} → Grammar I E A → List Class
  first s g = first_by (rule_first s) g

  -- Reads a phrase at the front of the tokens, where R reads those of the rules.
  abbrev pub read_by : Syntax I E → ((i : I) → List Lexeme → Read (E i)) → {A : Type 0} → Grammar I E A → List Lexeme
      → Read A
  read_by s R (terminal c) tokens = take_one c tokens
  read_by s R (empty x) tokens = Ok (x, tokens)
  read_by s R (sequence g h) tokens = read_both (read_by s R g) (read_by s R h) tokens
  read_by s R (choice g h) tokens = cond (next_in (first s g) tokens) (read_by s R g tokens) (read_by s R h tokens)
  read_by s R (action f g) tokens = read_as f (read_by s R g) tokens
  read_by s R (repetition g) tokens = repeated (read_by s R g) (first s g) (length tokens) tokens
  read_by s R (nonterminal i) tokens = R i tokens

  -- reads a phrase of a rule, with rules nested at most so deep
  unfoldable pub read_rule : Syntax I E → ℕ → (i : I) → List Lexeme → Read (E i)
  read_rule s zero i tokens = Err (length tokens)
  read_rule s (suc fuel) i tokens = read_by s (read_rule s fuel) (s.rule i) tokens

  -- Each rule inside a rule comes after a token, so that the tokens bound the depth.
  unfoldable pub reads_rule : Syntax I E → (i : I) → List Lexeme → Read (E i)
  reads_rule s i tokens = read_rule s (suc (length tokens)) i tokens

  -- reads a phrase of the grammar at the front of the tokens
  abbrev pub reads : Syntax I E → {A : Type 0} → Grammar I E A → List Lexeme → Read A
  reads s g tokens = read_by s (reads_rule s) g tokens
