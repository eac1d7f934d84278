-- Texts that are alike but for the numbers of their tokens have trees that are, and such trees have such texts.
use Rattle.std.specs.Prelude.{ℕ, zero, suc, ◌≡◌, List, [], ◌∷◌, ◌++◌}
use Rattle.std.proofs.Common.{refl, ap, sym, ◌∙◌, inl, inr, subst}
use Rattle.qc_grammar.specs.Lexeme.{Lexeme}
use Rattle.qc_grammar.specs.Grammar.{Grammar, terminal, empty, sequence, choice, action, repetition, nonterminal, Syntax}
use Rattle.qc_grammar.specs.Language.{Phrases, PhraseBy, Derives, IsPhrase}
use Rattle.qc_grammar.specs.SameUpToTokens.{AreAlike, EachAlike, AlikeBy, AlikeIn, AreAlikeTrees}

-- what is like two pieces is two pieces that are like them
pub record AlikePieces (alike : Lexeme → Lexeme → Type 0) (front rest others : List Lexeme) : Type 0 where
  pub front_like : List Lexeme
  pub rest_like : List Lexeme
  pub split : others ≡ front_like ++ rest_like
  pub fronts : AreAlike alike front front_like
  pub rests : AreAlike alike rest rest_like

pub alike_pieces : (alike : Lexeme → Lexeme → Type 0) (front rest others : List Lexeme)
    → AreAlike alike (front ++ rest) others → AlikePieces alike front rest others
alike_pieces alike [] rest others p =
    record { front_like = []; rest_like = others; split = refl; fronts = tt; rests = p }
alike_pieces alike (t ∷ ts) rest [] p = absurd p
alike_pieces alike (t ∷ ts) rest (u ∷ us) p =
    let more : AlikePieces alike ts rest us = alike_pieces alike ts rest us p.1 in
    record {
      front_like = u ∷ more.front_like;
      rest_like = more.rest_like;
      split = ap (λ vs. u ∷ vs) more.split;
      fronts = (p.0, more.fronts);
      rests = more.rests;
    }

alike_one : (alike : Lexeme → Lexeme → Type 0) (t : Lexeme) (others : List Lexeme) → AreAlike alike (t ∷ []) others
    → (u : Lexeme) × (others ≡ u ∷ []) × alike t u
alike_one alike t [] p = absurd p
alike_one alike t (u ∷ []) p = (u, refl, p.0)
alike_one alike t (u ∷ v ∷ vs) p = absurd p.1

alike_none : (alike : Lexeme → Lexeme → Type 0) (others : List Lexeme) → AreAlike alike [] others → others ≡ []
alike_none alike [] p = refl
alike_none alike (u ∷ us) p = absurd p

module _ {I : Type 0} {E : I → Type 0} (s : Syntax I E) (alike : Lexeme → Lexeme → Type 0)
    (one_class : (t u : Lexeme) → alike t u → t.class ≡ u.class) where
  phrases_alike : {X : Type 0} (P : List Lexeme → X → Type 0) (R : X → X → Type 0)
      → ((tokens others : List Lexeme) (x : X) → P tokens x → AreAlike alike tokens others
      → (y : X) × P others y × R x y) → (xs : List X) (tokens others : List Lexeme) → Phrases P tokens xs
      → AreAlike alike tokens others → (ys : List X) × Phrases P others ys × EachAlike R xs ys
  phrases_alike P R one [] tokens others p q =
      ([], alike_none alike others (subst (λ ts. AreAlike alike ts others) p q), tt)
  phrases_alike {X} P R one (x ∷ xs) tokens others p q =
      let pieces : AlikePieces alike p.0 p.1 others =
      alike_pieces alike p.0 p.1 others (subst (λ ts. AreAlike alike ts others) p.2 q) in
      let here : (y : X) × P pieces.front_like y × R x y = one p.0 pieces.front_like x p.3 pieces.fronts in
      let more : (ys : List X) × Phrases P pieces.rest_like ys × EachAlike R xs ys =
      phrases_alike P R one xs p.1 pieces.rest_like p.4 pieces.rests in
      (here.0 ∷ more.0, (pieces.front_like, pieces.rest_like, pieces.split, here.1, more.1), (here.2, more.2))

  alike_by : (n : ℕ) → ((i : I) (tokens others : List Lexeme) (tree : E i) → Derives s n i tokens tree
      → AreAlike alike tokens others → (other : E i) × Derives s n i others other × AlikeIn s alike n i tree other)
      → {A : Type 0} (g : Grammar I E A) (tokens others : List Lexeme) (tree : A)
      → PhraseBy (Derives s n) g tokens tree → AreAlike alike tokens others
      → (other : A) × PhraseBy (Derives s n) g others other × AlikeBy alike (AlikeIn s alike n) g tree other
  alike_by n rules (terminal c) tokens others tree p q =
      let one : (u : Lexeme) × (others ≡ u ∷ []) × alike tree u =
      alike_one alike tree others (subst (λ ts. AreAlike alike ts others) p.0 q) in
      let same : one.0.class ≡ c = sym (one_class tree one.0 one.2) ∙ p.1 in
      (one.0, (one.1, same), (p.1, same, one.2))
  alike_by n rules (empty x) tokens others tree p q =
      (x, (alike_none alike others (subst (λ ts. AreAlike alike ts others) p.0 q), refl), (p.1, refl))
  alike_by n rules (sequence {A = X} {B = Y} g h) tokens others tree p q =
      let pieces : AlikePieces alike p.0 p.1 others =
      alike_pieces alike p.0 p.1 others (subst (λ ts. AreAlike alike ts others) p.2 q) in
      let a : (x : X) × PhraseBy (Derives s n) g pieces.front_like x
      × AlikeBy alike (AlikeIn s alike n) g tree.0 x =
      alike_by n rules g p.0 pieces.front_like tree.0 p.3 pieces.fronts in
      let b : (y : Y) × PhraseBy (Derives s n) h pieces.rest_like y
      × AlikeBy alike (AlikeIn s alike n) h tree.1 y =
      alike_by n rules h p.1 pieces.rest_like tree.1 p.4 pieces.rests in
      ((a.0, b.0), (pieces.front_like, pieces.rest_like, pieces.split, a.1, b.1), (a.2, b.2))
  alike_by n rules (choice {A = X} g h) tokens others tree p q = elim p [
    | inl r ↦
        let a : (x : X) × PhraseBy (Derives s n) g others x × AlikeBy alike (AlikeIn s alike n) g tree x =
        alike_by n rules g tokens others tree r q in
        (a.0, inl a.1, inl a.2)
    | inr r ↦
        let b : (x : X) × PhraseBy (Derives s n) h others x × AlikeBy alike (AlikeIn s alike n) h tree x =
        alike_by n rules h tokens others tree r q in
        (b.0, inr b.1, inr b.2)
  ]
  alike_by n rules (action {A = X} f g) tokens others tree p q =
      let a : (x : X) × PhraseBy (Derives s n) g others x × AlikeBy alike (AlikeIn s alike n) g p.0 x =
      alike_by n rules g tokens others p.0 p.1 q in
      (f a.0, (a.0, a.1, refl), (p.0, a.0, a.2, p.2, refl))
  alike_by n rules (repetition g) tokens others tree p q =
      phrases_alike (PhraseBy (Derives s n) g) (AlikeBy alike (AlikeIn s alike n) g) (alike_by n rules g)
      tree tokens others p q
  alike_by n rules (nonterminal i) tokens others tree p q = rules i tokens others tree p q

  alike_rule : (n : ℕ) (i : I) (tokens others : List Lexeme) (tree : E i) → Derives s n i tokens tree
      → AreAlike alike tokens others → (other : E i) × Derives s n i others other × AlikeIn s alike n i tree other
  alike_rule zero i tokens others tree p q = absurd p
  alike_rule (suc n) i tokens others tree p q = alike_by n (alike_rule n) (s.rule i) tokens others tree p q

  -- a text that is like one of a tree is one of a tree that is like it
  pub alike_texts : {A : Type 0} (g : Grammar I E A) (tokens others : List Lexeme) (tree : A)
      → IsPhrase s g tokens tree → AreAlike alike tokens others
      → (other : A) × IsPhrase s g others other × AreAlikeTrees s alike g tree other
  alike_texts {A} g tokens others tree p q =
      let a : (other : A) × PhraseBy (Derives s p.depth) g others other
      × AlikeBy alike (AlikeIn s alike p.depth) g tree other =
      alike_by p.depth (alike_rule p.depth) g tokens others tree p.is q in
      (a.0, record { depth = p.depth; is = a.1 }, record { depth = p.depth; are = a.2 })

-- one text after another
pub alike_append : (alike : Lexeme → Lexeme → Type 0) (ts us vs ws : List Lexeme) → AreAlike alike ts us
    → AreAlike alike vs ws → AreAlike alike (ts ++ vs) (us ++ ws)
alike_append alike [] [] vs ws p q = q
alike_append alike [] (u ∷ us) vs ws p q = absurd p
alike_append alike (t ∷ ts) [] vs ws p q = absurd p
alike_append alike (t ∷ ts) (u ∷ us) vs ws p q = (p.0, alike_append alike ts us vs ws p.1 q)

-- texts of two trees that are alike token by token
pub record AlikeTexts (alike : Lexeme → Lexeme → Type 0) {A : Type 0} (P : List Lexeme → A → Type 0) (a b : A) : Type 0
  where
    pub texts : List Lexeme
    pub others : List Lexeme
    pub first : P texts a
    pub second : P others b
    pub are : AreAlike alike texts others

module _ {I : Type 0} {E : I → Type 0} (s : Syntax I E) (alike : Lexeme → Lexeme → Type 0) where
  texts_of_lists : {X : Type 0} (P : List Lexeme → X → Type 0) (R : X → X → Type 0)
      → ((a b : X) → R a b → AlikeTexts alike P a b) → (xs ys : List X) → EachAlike R xs ys
      → AlikeTexts alike (Phrases P) xs ys
  texts_of_lists P R one [] [] p = record { texts = []; others = []; first = refl; second = refl; are = tt }
  texts_of_lists P R one [] (y ∷ ys) p = absurd p
  texts_of_lists P R one (x ∷ xs) [] p = absurd p
  texts_of_lists {X} P R one (x ∷ xs) (y ∷ ys) p =
      let here : AlikeTexts alike P x y = one x y p.0 in
      let more : AlikeTexts alike (Phrases P) xs ys = texts_of_lists P R one xs ys p.1 in
      record {
        texts = here.texts ++ more.texts;
        others = here.others ++ more.others;
        first = (here.texts, more.texts, refl, here.first, more.first);
        second = (here.others, more.others, refl, here.second, more.second);
        are = alike_append alike here.texts here.others more.texts more.others here.are more.are;
      }

  texts_by : (n : ℕ) → ((i : I) (a b : E i) → AlikeIn s alike n i a b → AlikeTexts alike (Derives s n i) a b)
      → {A : Type 0} (g : Grammar I E A) (a b : A) → AlikeBy alike (AlikeIn s alike n) g a b
      → AlikeTexts alike (PhraseBy (Derives s n) g) a b
  texts_by n rules (terminal c) a b p =
      record { texts = a ∷ []; others = b ∷ []; first = (refl, p.0); second = (refl, p.1); are = (p.2, tt) }
  texts_by n rules (empty x) a b p =
      record { texts = []; others = []; first = (refl, p.0); second = (refl, p.1); are = tt }
  texts_by n rules (sequence {A = X} {B = Y} g h) a b p =
      let l : AlikeTexts alike (PhraseBy (Derives s n) g) a.0 b.0 = texts_by n rules g a.0 b.0 p.0 in
      let r : AlikeTexts alike (PhraseBy (Derives s n) h) a.1 b.1 = texts_by n rules h a.1 b.1 p.1 in
      record {
        texts = l.texts ++ r.texts;
        others = l.others ++ r.others;
        first = (l.texts, r.texts, refl, l.first, r.first);
        second = (l.others, r.others, refl, l.second, r.second);
        are = alike_append alike l.texts l.others r.texts r.others l.are r.are;
      }
  texts_by n rules (choice {A = X} g h) a b p = elim p [
    | inl q ↦
        let l : AlikeTexts alike (PhraseBy (Derives s n) g) a b = texts_by n rules g a b q in
        record { texts = l.texts; others = l.others; first = inl l.first; second = inl l.second; are = l.are }
    | inr q ↦
        let r : AlikeTexts alike (PhraseBy (Derives s n) h) a b = texts_by n rules h a b q in
        record { texts = r.texts; others = r.others; first = inr r.first; second = inr r.second; are = r.are }
  ]
  texts_by n rules (action {A = X} f g) a b p =
      let l : AlikeTexts alike (PhraseBy (Derives s n) g) p.0 p.1 = texts_by n rules g p.0 p.1 p.2 in
      record {
        texts = l.texts;
        others = l.others;
        first = (p.0, l.first, p.3);
        second = (p.1, l.second, p.4);
        are = l.are;
      }
  texts_by n rules (repetition g) a b p =
      texts_of_lists (PhraseBy (Derives s n) g) (AlikeBy alike (AlikeIn s alike n) g) (texts_by n rules g) a b p
  texts_by n rules (nonterminal i) a b p = rules i a b p

  texts_of_rule : (n : ℕ) (i : I) (a b : E i) → AlikeIn s alike n i a b → AlikeTexts alike (Derives s n i) a b
  texts_of_rule zero i a b p = absurd p
  texts_of_rule (suc n) i a b p = texts_by n (texts_of_rule n) (s.rule i) a b p

  -- trees that are alike are those of texts that are alike
  pub texts_of_alike_trees : {A : Type 0} (g : Grammar I E A) (a b : A) → AreAlikeTrees s alike g a b
      → AlikeTexts alike (IsPhrase s g) a b
  texts_of_alike_trees g a b p =
      let l : AlikeTexts alike (PhraseBy (Derives s p.depth) g) a b =
      texts_by p.depth (texts_of_rule p.depth) g a b p.are in
      record {
        texts = l.texts;
        others = l.others;
        first = record { depth = p.depth; is = l.first };
        second = record { depth = p.depth; is = l.second };
        are = l.are;
      }
