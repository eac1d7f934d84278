-- What the texts of a tree spell, by what each phrase of its grammar spells: the law of a printer.
use Rattle.std.specs.Prelude.{ℕ, zero, suc, ◌≡◌, List, [], ◌∷◌, ◌++◌}
use Rattle.std.specs.Fmt.{decimal}
use Rattle.std.specs.List.{flat_map}
use Rattle.std.proofs.Common.{refl, ap, sym, ◌∙◌, inl, inr, subst}
use Rattle.std.proofs.lemmas.List.{map-append}
use Rattle.qc_text.specs.declared.token.Kind.{Kind}
use Rattle.qc_grammar.specs.Lexeme.{Word, Value, Any, Lexeme}
use Rattle.qc_grammar.specs.Grammar.{Grammar, terminal, empty, sequence, choice, action, repetition, nonterminal, Syntax}
use Rattle.qc_grammar.specs.Language.{Phrases, PhraseBy, Derives, IsPhrase}
use Rattle.qc_grammar.specs.SameUpToTokens.{AreAlike}
use Rattle.qc_grammar.specs.Spelled.{spelled_as, spelling, spellings, IsSpelledAlike, AreSameTrees}
use Rattle.qc_grammar.specs.Law.SameUpToTokens.{AlikeTexts, texts_of_alike_trees}

module _ (as_text : Kind → List ℕ → List ℕ) {I : Type 0} {E : I → Type 0} (W : (i : I) → E i → List (List ℕ)) where
  -- P holds of what each phrase spells and its tree, where a rule's tree spells what W says. Of a repetition one says
  -- what each item spells.
  abbrev pub EachSpells : {A : Type 0} → Grammar I E A → (List (List ℕ) → A → Type 0) → Type 0
  EachSpells (terminal (Word text)) P = (token : Lexeme) → P (text ∷ []) token
  EachSpells (terminal (Value number)) P = (token : Lexeme) → P (decimal number ∷ []) token
  EachSpells (terminal (Any kind)) P = (token : Lexeme) → P (as_text kind token.text ∷ []) token
  EachSpells (empty x) P = P [] x
  EachSpells (sequence g h) P = EachSpells g (λ front x. EachSpells h (λ rest y. P (front ++ rest) (x, y)))
  EachSpells (choice g h) P = EachSpells g P × EachSpells h P
  EachSpells (action f g) P = EachSpells g (λ words x. P words (f x))
  EachSpells (repetition {A = X} g) P =
      (item : X → List (List ℕ)) × EachSpells g (λ words x. words ≡ item x) × ((xs : List X) → P (flat_map item xs) xs)
  EachSpells (nonterminal i) P = (tree : E i) → P (W i tree) tree

  -- what holds of all that has a property holds of what each phrase spells, if that has it
  pub each_of : {A : Type 0} (g : Grammar I E A) (P Q : List (List ℕ) → A → Type 0) → ((words : List (List ℕ)) (x : A)
      → P words x → Q words x) → EachSpells g P → EachSpells g Q
  each_of (terminal (Word text)) P Q f e = λ token. f (text ∷ []) token (e token)
  each_of (terminal (Value number)) P Q f e = λ token. f (decimal number ∷ []) token (e token)
  each_of (terminal (Any kind)) P Q f e = λ token. f (as_text kind token.text ∷ []) token (e token)
  each_of (empty x) P Q f e = f [] x e
  each_of (sequence g h) P Q f e =
      each_of g (λ front x. EachSpells h (λ rest y. P (front ++ rest) (x, y)))
      (λ front x. EachSpells h (λ rest y. Q (front ++ rest) (x, y)))
      (λ front x. each_of h (λ rest y. P (front ++ rest) (x, y)) (λ rest y. Q (front ++ rest) (x, y))
      (λ rest y. f (front ++ rest) (x, y))) e
  each_of (choice g h) P Q f e = (each_of g P Q f e.0, each_of h P Q f e.1)
  each_of (action u g) P Q f e = each_of g (λ words x. P words (u x)) (λ words x. Q words (u x))
      (λ words x. f words (u x)) e
  each_of (repetition {A = X} g) P Q f e = (e.0, e.1, λ xs. f (flat_map e.0 xs) xs (e.2 xs))
  each_of (nonterminal i) P Q f e = λ tree. f (W i tree) tree (e tree)

  -- a part of which it is known what it spells
  pub spelled : {A : Type 0} (g : Grammar I E A) (words_of : A → List (List ℕ))
      → EachSpells g (λ words x. words ≡ words_of x) → (P : List (List ℕ) → A → Type 0) → ((x : A) → P (words_of x) x)
      → EachSpells g P
  spelled g words_of e P f =
      each_of g (λ words x. words ≡ words_of x) P (λ words x q. subst (λ ws. P ws x) (sym q) (f x)) e

module _ (as_text : Kind → List ℕ → List ℕ) {I : Type 0} {E : I → Type 0} (s : Syntax I E)
    (W : (i : I) → E i → List (List ℕ)) (rules : (i : I)
    → EachSpells as_text W (s.rule i) (λ words tree. words ≡ W i tree)) where
  phrases_spell : {X : Type 0} (P : List Lexeme → X → Type 0) (item : X → List (List ℕ))
      → ((tokens : List Lexeme) (x : X) → P tokens x → spellings as_text tokens ≡ item x)
      → (xs : List X) (tokens : List Lexeme) → Phrases P tokens xs → spellings as_text tokens ≡ flat_map item xs
  phrases_spell P item one [] tokens p = ap (spellings as_text) p
  phrases_spell P item one (x ∷ xs) tokens p =
      ap (spellings as_text) p.2 ∙ map-append (spelling as_text) p.0 p.1
      ∙ ap (λ ws. ws ++ spellings as_text p.1) (one p.0 x p.3)
      ∙ ap (λ ws. item x ++ ws) (phrases_spell P item one xs p.1 p.4)

  spell_by : (n : ℕ) → ((i : I) (tokens : List Lexeme) (tree : E i) → Derives s n i tokens tree
      → spellings as_text tokens ≡ W i tree) → {A : Type 0} (g : Grammar I E A) (tokens : List Lexeme) (tree : A)
      → PhraseBy (Derives s n) g tokens tree → (P : List (List ℕ) → A → Type 0) → EachSpells as_text W g P
      → P (spellings as_text tokens) tree
  spell_by n at (terminal (Word text)) tokens tree p P e =
      subst (λ words. P words tree) (sym (ap (spellings as_text) p.0
      ∙ ap (λ c. spelled_as as_text c tree.text ∷ []) p.1)) (e tree)
  spell_by n at (terminal (Value number)) tokens tree p P e =
      subst (λ words. P words tree) (sym (ap (spellings as_text) p.0
      ∙ ap (λ c. spelled_as as_text c tree.text ∷ []) p.1)) (e tree)
  spell_by n at (terminal (Any kind)) tokens tree p P e =
      subst (λ words. P words tree) (sym (ap (spellings as_text) p.0
      ∙ ap (λ c. spelled_as as_text c tree.text ∷ []) p.1)) (e tree)
  spell_by n at (empty x) tokens tree p P e =
      subst (P (spellings as_text tokens)) (sym p.1) (subst (λ words. P words x) (sym (ap (spellings as_text) p.0)) e)
  spell_by n at (sequence g h) tokens tree p P e =
      subst (λ words. P words tree) (sym (ap (spellings as_text) p.2 ∙ map-append (spelling as_text) p.0 p.1))
      (spell_by n at h p.1 tree.1 p.4 (λ rest y. P (spellings as_text p.0 ++ rest) (tree.0, y))
      (spell_by n at g p.0 tree.0 p.3 (λ front x. EachSpells as_text W h (λ rest y. P (front ++ rest) (x, y))) e))
  spell_by n at (choice g h) tokens tree p P e = elim p [
    | inl q ↦ spell_by n at g tokens tree q P e.0
    | inr q ↦ spell_by n at h tokens tree q P e.1
  ]
  spell_by n at (action f g) tokens tree p P e =
      subst (P (spellings as_text tokens)) (sym p.2) (spell_by n at g tokens p.0 p.1 (λ words x. P words (f x)) e)
  spell_by n at (repetition g) tokens tree p P e =
      subst (λ words. P words tree)
      (sym (phrases_spell (PhraseBy (Derives s n) g) e.0
      (λ ts x q. spell_by n at g ts x q (λ words y. words ≡ e.0 y) e.1) tree tokens p)) (e.2 tree)
  spell_by n at (nonterminal i) tokens tree p P e = subst (λ words. P words tree) (sym (at i tokens tree p)) (e tree)

  rule_spells : (n : ℕ) (i : I) (tokens : List Lexeme) (tree : E i) → Derives s n i tokens tree
      → spellings as_text tokens ≡ W i tree
  rule_spells zero i tokens tree p = absurd p
  rule_spells (suc n) i tokens tree p = spell_by n (rule_spells n) (s.rule i) tokens tree p (λ words x. words ≡ W i x)
      (rules i)

  -- Each text of a tree spells what is printed.
  pub texts_spell : {A : Type 0} (g : Grammar I E A) (printed : A → List (List ℕ))
      → EachSpells as_text W g (λ words tree. words ≡ printed tree) → (tokens : List Lexeme) (tree : A)
      → IsPhrase s g tokens tree → spellings as_text tokens ≡ printed tree
  texts_spell g printed e tokens tree p =
      spell_by p.depth (rule_spells p.depth) g tokens tree p.is (λ words x. words ≡ printed x) e

-- texts that are spelled alike spell the same
alike_spellings : (as_text : Kind → List ℕ → List ℕ) (tokens others : List Lexeme)
    → AreAlike (IsSpelledAlike as_text) tokens others → spellings as_text tokens ≡ spellings as_text others
alike_spellings as_text [] [] p = refl
alike_spellings as_text [] (u ∷ us) p = absurd p
alike_spellings as_text (t ∷ ts) [] p = absurd p
alike_spellings as_text (t ∷ ts) (u ∷ us) p =
    ap (λ word. word ∷ spellings as_text ts) p.0.1
    ∙ ap (λ words. spelling as_text u ∷ words) (alike_spellings as_text ts us p.1)

-- Trees that are the same but for the numbers of tokens have the same words, whatever words of a tree all its texts
-- spell.
pub same_words : (as_text : Kind → List ℕ → List ℕ) {I : Type 0} {E : I → Type 0} (s : Syntax I E) {A : Type 0}
    (g : Grammar I E A) (words : A → List (List ℕ)) → ((tokens : List Lexeme) (tree : A) → IsPhrase s g tokens tree
    → spellings as_text tokens ≡ words tree) → (a b : A) → AreSameTrees as_text s g a b → words a ≡ words b
same_words as_text s g words spell a b same =
    let found : AlikeTexts (IsSpelledAlike as_text) (IsPhrase s g) a b =
    texts_of_alike_trees s (IsSpelledAlike as_text) g a b same in
    sym (spell found.texts a found.first) ∙ alike_spellings as_text found.texts found.others found.are
    ∙ spell found.others b found.second
