-- The phrases of a grammar, with their trees.
use Rattle.std.specs.Prelude.{ℕ, zero, suc, ◌≡◌, ◌⊎◌, List, [], ◌∷◌, ◌++◌}
use Rattle.qc_grammar.specs.Lexeme.{Lexeme}
use Rattle.qc_grammar.specs.Grammar.{Grammar, terminal, empty, sequence, choice, action, repetition, nonterminal, Syntax}

-- one phrase after another, with the list of their trees
abbrev pub Phrases : {A : Type 0} → (List Lexeme → A → Type 0) → List Lexeme → List A → Type 0
Phrases P tokens [] = tokens ≡ []
Phrases P tokens (x ∷ xs) =
    (front rest : List Lexeme) × (tokens ≡ front ++ rest) × P front x × Phrases P rest xs

module _ {I : Type 0} {E : I → Type 0} where
  -- the tokens are a phrase with this tree, where R says so of the rules
  abbrev pub PhraseBy : ((i : I) → List Lexeme → E i → Type 0) → {A : Type 0} → Grammar I E A → List Lexeme → A → Type 0
  PhraseBy R (terminal c) tokens tree = (tokens ≡ tree ∷ []) × (tree.class ≡ c)
  PhraseBy R (empty x) tokens tree = (tokens ≡ []) × (tree ≡ x)
  PhraseBy R (sequence g h) tokens tree =
      (front rest : List Lexeme) × (tokens ≡ front ++ rest) × PhraseBy R g front tree.0 × PhraseBy R h rest tree.1
  PhraseBy R (choice g h) tokens tree = PhraseBy R g tokens tree ⊎ PhraseBy R h tokens tree
  PhraseBy R (action {A = X} f g) tokens tree = (x : X) × PhraseBy R g tokens x × (tree ≡ f x)
  PhraseBy R (repetition g) tokens tree = Phrases (PhraseBy R g) tokens tree
  PhraseBy R (nonterminal i) tokens tree = R i tokens tree

  -- a phrase of a rule, in which rules are nested at most so deep
  abbrev pub Derives : Syntax I E → ℕ → (i : I) → List Lexeme → E i → Type 0
  Derives s zero i tokens tree = ⊥
  Derives s (suc depth) i tokens tree = PhraseBy (Derives s depth) (s.rule i) tokens tree

  -- the tokens are a phrase of the grammar, with this tree
  pub record IsPhrase (s : Syntax I E) {A : Type 0} (g : Grammar I E A) (tokens : List Lexeme) (tree : A) : Type 0 where
    pub depth : ℕ
    pub is : PhraseBy (Derives s depth) g tokens tree

  -- some phrase begins with the tokens
  pub record Begins (s : Syntax I E) {A : Type 0} (g : Grammar I E A) (tokens : List Lexeme) : Type 0 where
    pub more : List Lexeme
    pub tree : A
    pub phrase : IsPhrase s g (tokens ++ more) tree
