-- What the trees of a text have, by what each of its tokens has and what the grammar makes of them; and that the names in a text are no words of its grammar.
use Rattle.std.specs.Prelude.{ℕ, suc, ◌≡◌, Bool, true, false, List, [], ◌∷◌, ◌++◌, All, IfOk, Some, Result, Ok, Err, slice_get}
use Rattle.std.specs.List.{AllByRecursion}
use Rattle.std.proofs.Common.{refl, sym, subst, inl, inr}
use Rattle.std.proofs.lemmas.List.Elements.{All-cons, All-from_recursion}
use Rattle.qc_lists.specs.Law.Lists.{each_of_append}
use Rattle.qc_text.specs.declared.token.Kind.{Kind}
use Rattle.qc_text.specs.declared.token.Kind.TheVariants.{Name, Prim, Number, Str, Punct, End}
use Rattle.qc_text.specs.declared.token.Token.{Token}
use Rattle.qc_text.specs.Tokens.{IsTokenText, token_text}
use Rattle.qc_text.specs.Pieces.{AreTokens}
use Rattle.qc_grammar.specs.declared.answers.ReadTextEnd.{ReadTextEnd}
use Rattle.qc_grammar.specs.Lexeme.{Any, Lexeme, Vocabulary, class_of, classed_from, lexemes_from}
use Rattle.qc_grammar.specs.Grammar as grammar
use Rattle.qc_grammar.specs.Grammar.{Grammar, terminal, empty, sequence, choice, action, repetition, nonterminal, separated, word, ◌*>◌}
use Rattle.qc_grammar.specs.Language.{Phrases, PhraseBy, Derives, IsPhrase}
use Rattle.qc_grammar.specs.TextAnswer.{AnswersText}

-- `T` is what each token has.
module _ {I : Type 0} {E : I → Type 0} (s : grammar.Syntax I E) (T : Lexeme → Type 0) where
  -- the tree of a phrase whose tokens have it
  pub record IsTreeFrom {A : Type 0} (g : Grammar I E A) (tree : A) : Type 0 where
    pub tokens : List Lexeme
    pub each : AllByRecursion T tokens
    pub phrase : IsPhrase s g tokens tree

  -- P holds of each tree that the grammar makes of such tokens, whatever the trees of its rules are.
  abbrev pub EachHas : {A : Type 0} → Grammar I E A → (A → Type 0) → Type 0
  EachHas (terminal c) P = (token : Lexeme) → token.class ≡ c → T token → P token
  EachHas (empty x) P = P x
  EachHas (sequence g h) P = EachHas g (λ x. EachHas h (λ y. P (x, y)))
  EachHas (choice g h) P = EachHas g P × EachHas h P
  EachHas (action f g) P = EachHas g (λ x. P (f x))
  EachHas (repetition {A = X} g) P = (xs : List X) → AllByRecursion (IsTreeFrom g) xs → P xs
  EachHas (nonterminal i) P = (tree : E i) → P tree

  -- what follows from what each tree has
  pub has_by : {A : Type 0} (g : Grammar I E A) (P Q : A → Type 0) → ((x : A) → P x → Q x) → EachHas g P → EachHas g Q
  has_by (terminal c) P Q f e = λ token class has. f token (e token class has)
  has_by (empty x) P Q f e = f x e
  has_by (sequence g h) P Q f e =
      has_by g (λ x. EachHas h (λ y. P (x, y))) (λ x. EachHas h (λ y. Q (x, y)))
      (λ x. has_by h (λ y. P (x, y)) (λ y. Q (x, y)) (λ y. f (x, y))) e
  has_by (choice g h) P Q f e = (has_by g P Q f e.0, has_by h P Q f e.1)
  has_by (action u g) P Q f e = has_by g (λ x. P (u x)) (λ x. Q (u x)) (λ x. f (u x)) e
  has_by (repetition g) P Q f e = λ xs each. f xs (e xs each)
  has_by (nonterminal i) P Q f e = λ tree. f tree (e tree)

  -- what all trees have
  pub has_anyway : {A : Type 0} (g : Grammar I E A) (P : A → Type 0) → ((x : A) → P x) → EachHas g P
  has_anyway (terminal c) P f = λ token class has. f token
  has_anyway (empty x) P f = f x
  has_anyway (sequence g h) P f =
      has_anyway g (λ x. EachHas h (λ y. P (x, y))) (λ x. has_anyway h (λ y. P (x, y)) (λ y. f (x, y)))
  has_anyway (choice g h) P f = (has_anyway g P f, has_anyway h P f)
  has_anyway (action u g) P f = has_anyway g (λ x. P (u x)) (λ x. f (u x))
  has_anyway (repetition g) P f = λ xs each. f xs
  has_anyway (nonterminal i) P f = f

  items_from : {A : Type 0} (g : Grammar I E A) (depth : ℕ) (xs : List A) (tokens : List Lexeme)
      → Phrases (PhraseBy (Derives s depth) g) tokens xs → AllByRecursion T tokens → AllByRecursion (IsTreeFrom g) xs
  items_from g depth [] tokens p each = tt
  items_from g depth (x ∷ xs) tokens p each =
      let both : AllByRecursion T p.0 × AllByRecursion T p.1 = each_of_append T p.0 p.1 (subst (AllByRecursion T) p.2 each) in (
        record { tokens = p.0; each = both.0; phrase = record { depth = depth; is = p.3 } },
        items_from g depth xs p.1 p.4 both.1,
      )

  phrase_has : (depth : ℕ) {A : Type 0} (g : Grammar I E A) (tokens : List Lexeme) (tree : A)
      → PhraseBy (Derives s depth) g tokens tree → AllByRecursion T tokens → (P : A → Type 0) → EachHas g P → P tree
  phrase_has depth (terminal c) tokens tree p each P e = e tree p.1 (subst (AllByRecursion T) p.0 each).0
  phrase_has depth (empty x) tokens tree p each P e = subst P (sym p.1) e
  phrase_has depth (sequence g h) tokens tree p each P e =
      let both : AllByRecursion T p.0 × AllByRecursion T p.1 = each_of_append T p.0 p.1 (subst (AllByRecursion T) p.2 each) in
      phrase_has depth h p.1 tree.1 p.4 both.1 (λ y. P (tree.0, y))
      (phrase_has depth g p.0 tree.0 p.3 both.0 (λ x. EachHas h (λ y. P (x, y))) e)
  phrase_has depth (choice g h) tokens tree p each P e = elim p [
    | inl q ↦ phrase_has depth g tokens tree q each P e.0
    | inr q ↦ phrase_has depth h tokens tree q each P e.1
  ]
  phrase_has depth (action f g) tokens tree p each P e =
      subst P (sym p.2) (phrase_has depth g tokens p.0 p.1 each (λ x. P (f x)) e)
  phrase_has depth (repetition g) tokens tree p each P e = e tree (items_from g depth tree tokens p each)
  phrase_has depth (nonterminal i) tokens tree p each P e = e tree

  -- The tree of a phrase of such tokens has what each tree has.
  pub tree_has : {A : Type 0} (g : Grammar I E A) (P : A → Type 0) → EachHas g P → (tree : A) → IsTreeFrom g tree → P tree
  tree_has g P e tree from = phrase_has from.phrase.depth g from.tokens tree from.phrase.is from.each P e

  items_have : {A : Type 0} (g : Grammar I E A) (P : A → Type 0) → EachHas g P → (xs : List A)
      → AllByRecursion (IsTreeFrom g) xs → AllByRecursion P xs
  items_have g P e [] each = tt
  items_have g P e (x ∷ xs) each = (tree_has g P e x each.0, items_have g P e xs each.1)

  -- each of the trees of a repetition
  pub all_have : {A : Type 0} (g : Grammar I E A) (P : A → Type 0) → EachHas g P → (xs : List A)
      → AllByRecursion (IsTreeFrom g) xs → All P xs
  all_have g P e xs each = All-from_recursion P xs (items_have g P e xs each)

  -- each of the trees of phrases with a separator between them
  pub separated_have : {A : Type 0} (g : Grammar I E A) (separator : List ℕ) (P : A → Type 0) → EachHas g P
      → EachHas (separated g separator) (All P)
  separated_have g separator P e =
      has_by g P (λ x. EachHas (repetition (word separator *> g)) (λ xs. All P (x ∷ xs)))
      (λ x has xs each. All-cons P x xs has (all_have (word separator *> g) P (λ token class of_it. e) xs each)) e

-- The text is that of a name, and the vocabulary has it as no word where some tokens come before it.
pub record IsFreeName (vocabulary : Vocabulary) (given : List ℕ) : Type 0 where
  pub form : IsTokenText Name given
  pub before : List (Kind × List ℕ)
  pub free : vocabulary before Name given ≡ false

-- a token which, if the grammar has it as a name, is one
abbrev pub IsFreeIfName : Vocabulary → Lexeme → Type 0
IsFreeIfName vocabulary token = token.class ≡ Any Name → IsFreeName vocabulary token.text

name_class : (b : Bool) (kind : Kind) (given : List ℕ) → class_of b kind given ≡ Any Name → (kind ≡ Name) × (b ≡ false)
name_class true Name given e = cc e
name_class true Prim given e = cc e
name_class true Number given e = cc e
name_class true Str given e = cc e
name_class true Punct given e = cc e
name_class true End given e = cc e
name_class false kind given e = (cc e, refl)

module _ (vocabulary : Vocabulary) (bytes : List ℕ) where
  names_from : (n : ℕ) (before : List (Kind × List ℕ)) (tokens : List Token) → ((i : ℕ) (token : Token)
      → slice_get tokens i ≡ Some token → IsTokenText token.kind (token_text bytes token))
      → AllByRecursion (IsFreeIfName vocabulary) (lexemes_from bytes n (classed_from vocabulary bytes before tokens))
  names_from n before [] kinds = tt
  names_from n before (token ∷ tokens) kinds =
      let given : List ℕ = token_text bytes token in (
        (λ class.
            let is : (token.kind ≡ Name) × (vocabulary before token.kind given ≡ false) =
            name_class (vocabulary before token.kind given) token.kind given class in
            record {
              form = subst (λ kind. IsTokenText kind given) is.0 (kinds 0 token refl);
              before = before;
              free = subst (λ kind. vocabulary before kind given ≡ false) is.0 is.1;
            }),
        names_from (suc n) (before ++ (token.kind, given) ∷ []) tokens (λ i other e. kinds (suc i) other e),
      )

-- What each tree of names that are no words of the grammar has, the tree of a text has.
pub names_kept : {I : Type 0} {E : I → Type 0} (s : grammar.Syntax I E) {A : Type 0} (g : Grammar I E A)
    (vocabulary : Vocabulary) (P : A → Type 0) → EachHas s (IsFreeIfName vocabulary) g P
    → ((bytes : List ℕ) (tokens : List Token) (i : ℕ) (token : Token) → AreTokens bytes tokens
    → slice_get tokens i ≡ Some token → IsTokenText token.kind (token_text bytes token))
    → (bytes : List ℕ) (result : Result A ReadTextEnd) → AnswersText s g vocabulary bytes result → IfOk result P
names_kept s g vocabulary P e kinds bytes (Ok tree) answers =
    let o = answers.is in
    let p = o.is.phrase.is in
    let each = names_from vocabulary bytes 0 [] o.tokens (λ i token h. kinds bytes o.tokens i token o.are h) in
    let front : AllByRecursion (IsFreeIfName vocabulary) p.1.0 = (each_of_append (IsFreeIfName vocabulary) p.1.0 p.1.1
    (subst (AllByRecursion (IsFreeIfName vocabulary)) p.1.2 each)).0 in
    subst P (sym p.2)
    (tree_has s (IsFreeIfName vocabulary) g P e p.0.0
    (record { tokens = p.1.0; each = front; phrase = record { depth = o.is.phrase.depth; is = p.1.3 } }))
names_kept s g vocabulary P e kinds bytes (Err why) answers = tt
