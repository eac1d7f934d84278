-- Tokens and trees that are alike but for the numbers of tokens.
use Rattle.std.specs.Prelude.{ℕ, zero, suc, ◌≡◌, ◌⊎◌, List, [], ◌∷◌}
use Rattle.qc_grammar.specs.Lexeme.{Lexeme}
use Rattle.qc_grammar.specs.Grammar.{Grammar, terminal, empty, sequence, choice, action, repetition, nonterminal, Syntax}

-- token by token alike
abbrev pub AreAlike : (Lexeme → Lexeme → Type 0) → List Lexeme → List Lexeme → Type 0
AreAlike alike [] [] = Unit {0}
AreAlike alike (t ∷ ts) (u ∷ us) = alike t u × AreAlike alike ts us
AreAlike alike [] (u ∷ us) = ⊥
AreAlike alike (t ∷ ts) [] = ⊥

-- one by one related
abbrev pub EachAlike : {X : Type 0} → (X → X → Type 0) → List X → List X → Type 0
EachAlike R [] [] = Unit {0}
EachAlike R (x ∷ xs) (y ∷ ys) = R x y × EachAlike R xs ys
EachAlike R [] (y ∷ ys) = ⊥
EachAlike R (x ∷ xs) [] = ⊥

module _ {I : Type 0} {E : I → Type 0} (alike : Lexeme → Lexeme → Type 0) (Q : (i : I) → E i → E i → Type 0) where
  -- Trees that differ as tokens that are alike do, which are of the class that stands in the grammar. Q says so of the
  -- rules' trees.
  abbrev pub AlikeBy : {A : Type 0} → Grammar I E A → A → A → Type 0
  AlikeBy (terminal c) a b = (a.class ≡ c) × (b.class ≡ c) × alike a b
  AlikeBy (empty x) a b = (a ≡ x) × (b ≡ x)
  AlikeBy (sequence g h) a b = AlikeBy g a.0 b.0 × AlikeBy h a.1 b.1
  AlikeBy (choice g h) a b = AlikeBy g a b ⊎ AlikeBy h a b
  AlikeBy (action {A = X} f g) a b = (x y : X) × AlikeBy g x y × (a ≡ f x) × (b ≡ f y)
  AlikeBy (repetition g) a b = EachAlike (AlikeBy g) a b
  AlikeBy (nonterminal i) a b = Q i a b

module _ {I : Type 0} {E : I → Type 0} (s : Syntax I E) (alike : Lexeme → Lexeme → Type 0) where
  -- the same for the trees of a rule, in whose phrases rules are nested at most so deep
  abbrev pub AlikeIn : ℕ → (i : I) → E i → E i → Type 0
  AlikeIn zero i a b = ⊥
  AlikeIn (suc depth) i a b = AlikeBy alike (AlikeIn depth) (s.rule i) a b

  -- The grammar makes both trees by the same alternatives, from tokens that are alike.
  pub record AreAlikeTrees {A : Type 0} (g : Grammar I E A) (a b : A) : Type 0 where
    pub depth : ℕ
    pub are : AlikeBy alike (AlikeIn depth) g a b
