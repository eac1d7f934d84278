-- Facts of the phrases of a clean grammar: where they begin, and that there are some.
use Rattle.std.specs.Prelude.{ℕ, zero, suc, ◌≡◌, ◌≤◌, max, Bool, true, false, not, cond, ◌&&◌, List, [], ◌∷◌, ◌++◌}
use Rattle.std.proofs.Common.{refl, ap, sym, ◌∙◌, inl, inr, subst, arith}
use Rattle.std.proofs.lemmas.Bool.{and_parts, both_ways, cases_Bool, not-true, or_cases, or_left, or_right}
use Rattle.qc_grammar.specs.Lexeme.{Class, Lexeme, same_class}
use Rattle.qc_grammar.specs.Grammar.{Grammar, terminal, empty, sequence, choice, action, repetition, nonterminal, Syntax}
use Rattle.qc_grammar.specs.Language.{Phrases, PhraseBy, Derives, IsPhrase}
use Rattle.qc_grammar.specs.Reading.{can_be_empty, first_by, rule_first}
use Rattle.qc_grammar.specs.Law.LL1.{is_in, is_clean, is_guarded, is_endless, follow, has_phrase_by, has_phrase, are_within, IsClean}
use Rattle.qc_grammar.specs.Law.Tests.{in_first, in_second, class_alike}

-- two lists that make an empty one are empty
pub both_empty : (xs ys : List Lexeme) → [] ≡ xs ++ ys → (xs ≡ []) × (ys ≡ [])
both_empty [] ys e = (refl, sym e)
both_empty (x ∷ xs) ys e = absurd cc

pub phrases_first : {X : Type 0} (P : List Lexeme → X → Type 0) (classes : List Class)
    → ((t : Lexeme) (ts : List Lexeme) (x : X) → P (t ∷ ts) x → is_in classes t.class ≡ true)
    → (xs : List X) (t : Lexeme) (ts : List Lexeme) → Phrases P (t ∷ ts) xs → is_in classes t.class ≡ true
phrases_first P classes one [] t ts p = absurd (let e : t ∷ ts ≡ [] = p in cc)
phrases_first P classes one (x ∷ xs) t ts p = go (phrases_first P classes one xs t ts) p.0 p.2 p.3
  where
    go : (Phrases P (t ∷ ts) xs → is_in classes t.class ≡ true) → (front : List Lexeme) → t ∷ ts ≡ front ++ p.1
        → P front x → is_in classes t.class ≡ true
    go more [] e q = more (subst (λ us. Phrases P us xs) (sym e) p.4)
    go more (u ∷ us) e q = let same : u ≡ t = cc in one t us x (subst (λ w. P (w ∷ us) x) same q)

module _ {I : Type 0} {E : I → Type 0} where
  -- a phrase of some rules is one of more rules
  pub more_phrases : (R S : (i : I) → List Lexeme → E i → Type 0) → ((i : I) (tokens : List Lexeme) (tree : E i)
      → R i tokens tree → S i tokens tree) → {A : Type 0} (g : Grammar I E A) (tokens : List Lexeme) (tree : A)
      → PhraseBy R g tokens tree → PhraseBy S g tokens tree
  more_phrases R S more (terminal c) tokens tree p = p
  more_phrases R S more (empty x) tokens tree p = p
  more_phrases R S more (sequence g h) tokens tree p =
      (p.0, p.1, p.2, more_phrases R S more g p.0 tree.0 p.3, more_phrases R S more h p.1 tree.1 p.4)
  more_phrases R S more (choice g h) tokens tree p = elim p [
    | inl q ↦ inl (more_phrases R S more g tokens tree q)
    | inr q ↦ inr (more_phrases R S more h tokens tree q)
  ]
  more_phrases R S more (action f g) tokens tree p = (p.0, more_phrases R S more g tokens p.0 p.1, p.2)
  more_phrases R S more (repetition {A = X} g) tokens tree p = each (more_phrases R S more g) tree tokens p
    where
      each : ((front : List Lexeme) (x : X) → PhraseBy R g front x → PhraseBy S g front x)
          → (xs : List X) (rest : List Lexeme) → Phrases (PhraseBy R g) rest xs → Phrases (PhraseBy S g) rest xs
      each one [] rest q = q
      each one (x ∷ xs) rest q = (q.0, q.1, q.2, one q.0 x q.3, each one xs q.1 q.4)
  more_phrases R S more (nonterminal i) tokens tree p = more i tokens tree p

  pub deeper : (s : Syntax I E) (n m : ℕ) → n ≤ m → (i : I) (tokens : List Lexeme) (tree : E i)
      → Derives s n i tokens tree → Derives s m i tokens tree
  deeper s zero m le i tokens tree p = absurd p
  deeper s (suc n) zero le i tokens tree p = absurd (omega arith)
  deeper s (suc n) (suc m) le i tokens tree p =
      more_phrases (Derives s n) (Derives s m) (deeper s n m (omega arith)) (s.rule i) tokens tree p

  -- a phrase of no token is one of a grammar that can be empty
  pub empty_phrase : (R : (i : I) → List Lexeme → E i → Type 0) → ((i : I) (tree : E i) → R i [] tree → ⊥)
      → {A : Type 0} (g : Grammar I E A) (tree : A) → PhraseBy R g [] tree → can_be_empty g ≡ true
  empty_phrase R none (terminal c) tree p = absurd (let e : [] ≡ tree ∷ [] = p.0 in cc)
  empty_phrase R none (empty x) tree p = refl
  empty_phrase R none (sequence g h) tree p =
      let parts : (p.0 ≡ []) × (p.1 ≡ []) = both_empty p.0 p.1 p.2 in
      let eg : can_be_empty g ≡ true =
      empty_phrase R none g tree.0 (subst (λ ts. PhraseBy R g ts tree.0) parts.0 p.3) in
      let eh : can_be_empty h ≡ true =
      empty_phrase R none h tree.1 (subst (λ ts. PhraseBy R h ts tree.1) parts.1 p.4) in
      ap (λ b. cond b (can_be_empty h) false) eg ∙ eh
  empty_phrase R none (choice g h) tree p = elim p [
    | inl q ↦ or_left _ (can_be_empty h) (empty_phrase R none g tree q)
    | inr q ↦ or_right (can_be_empty g) _ (empty_phrase R none h tree q)
  ]
  empty_phrase R none (action f g) tree p = empty_phrase R none g p.0 p.1
  empty_phrase R none (repetition g) tree p = refl
  empty_phrase R none (nonterminal i) tree p = absurd (none i tree p)

  -- a phrase begins with a token of the first classes
  pub phrase_first : (R : (i : I) → List Lexeme → E i → Type 0) (begins : I → List Class) → ((i : I) (tree : E i)
      → R i [] tree → ⊥) → ((i : I) (t : Lexeme) (ts : List Lexeme) (tree : E i) → R i (t ∷ ts) tree
      → is_in (begins i) t.class ≡ true)
      → {A : Type 0} (g : Grammar I E A) (t : Lexeme) (ts : List Lexeme) (tree : A) → PhraseBy R g (t ∷ ts) tree
      → is_in (first_by begins g) t.class ≡ true
  phrase_first R begins none head (terminal c) t ts tree p =
      let same : c ≡ t.class = sym p.1
      ∙ ap (λ (x : Lexeme). x.class) (let e : t ∷ ts ≡ tree ∷ [] = p.0 in let f : tree ≡ t = cc in f) in
      or_left _ false (ap (λ d. same_class t.class d) same ∙ class_alike t.class)
  phrase_first R begins none head (empty x) t ts tree p = absurd (let e : t ∷ ts ≡ [] = p.0 in cc)
  phrase_first R begins none head (sequence {A = X} {B = Y} g h) t ts tree p =
      go (phrase_first R begins none head g) (phrase_first R begins none head h) p.0 p.2 p.3
    where
      go : ((u : Lexeme) (us : List Lexeme) (x : X) → PhraseBy R g (u ∷ us) x
          → is_in (first_by begins g) u.class ≡ true) → ((u : Lexeme) (us : List Lexeme) (y : Y)
          → PhraseBy R h (u ∷ us) y → is_in (first_by begins h) u.class ≡ true) → (front : List Lexeme)
          → t ∷ ts ≡ front ++ p.1 → PhraseBy R g front tree.0
          → is_in (first_by begins (sequence g h)) t.class ≡ true
      go at_g at_h [] e q =
          let eg : can_be_empty g ≡ true = empty_phrase R none g tree.0 q in
          let here : is_in (first_by begins h) t.class ≡ true =
          at_h t ts tree.1 (subst (λ us. PhraseBy R h us tree.1) (sym e) p.4) in
          in_second (first_by begins g) (cond (can_be_empty g) (first_by begins h) []) t.class
          (ap (λ b. is_in (cond b (first_by begins h) []) t.class) eg ∙ here)
      go at_g at_h (u ∷ us) e q =
          let same : u ≡ t = cc in
          in_first (first_by begins g) (cond (can_be_empty g) (first_by begins h) []) t.class
          (at_g t us tree.0 (subst (λ x. PhraseBy R g (x ∷ us) tree.0) same q))
  phrase_first R begins none head (choice g h) t ts tree p = elim p [
    | inl q ↦ in_first (first_by begins g) (first_by begins h) t.class (phrase_first R begins none head g t ts tree q)
    | inr q ↦ in_second (first_by begins g) (first_by begins h) t.class (phrase_first R begins none head h t ts tree q)
  ]
  phrase_first R begins none head (action f g) t ts tree p = phrase_first R begins none head g t ts p.0 p.1
  phrase_first R begins none head (repetition g) t ts tree p =
      phrases_first (PhraseBy R g) (first_by begins g) (phrase_first R begins none head g) tree t ts p
  phrase_first R begins none head (nonterminal i) t ts tree p = head i t ts tree p

  -- the first classes of a grammar with a token before each rule don't depend on the rules
  pub first_guarded : (begins others : I → List Class) {A : Type 0} (g : Grammar I E A) → is_guarded g ≡ true
      → first_by begins g ≡ first_by others g
  first_guarded begins others (terminal c) e = refl
  first_guarded begins others (empty x) e = refl
  first_guarded begins others (sequence g h) e =
      let parts : (is_guarded g ≡ true) × (cond (can_be_empty g) (is_guarded h) true ≡ true) = and_parts _ _ e in
      elim (cases_Bool (can_be_empty g)) [
        | inl f ↦
            let eh : is_guarded h ≡ true = ap (λ b. cond b (is_guarded h) true) (sym f) ∙ parts.1 in
            ap (λ xs. xs ++ cond (can_be_empty g) (first_by begins h) []) (first_guarded begins others g parts.0)
            ∙ ap (λ xs. first_by others g ++ cond (can_be_empty g) xs []) (first_guarded begins others h eh)
        | inr f ↦
            ap (λ xs. xs ++ cond (can_be_empty g) (first_by begins h) []) (first_guarded begins others g parts.0)
            ∙ (ap (λ b. first_by others g ++ cond b (first_by begins h) []) f
            ∙ sym (ap (λ b. first_by others g ++ cond b (first_by others h) []) f))
      ]
  first_guarded begins others (choice g h) e =
      let parts : (is_guarded g ≡ true) × (is_guarded h ≡ true) = and_parts _ _ e in
      ap (λ xs. xs ++ first_by begins h) (first_guarded begins others g parts.0)
      ∙ ap (λ xs. first_by others g ++ xs) (first_guarded begins others h parts.1)
  first_guarded begins others (action f g) e = first_guarded begins others g e
  first_guarded begins others (repetition g) e = first_guarded begins others g e
  first_guarded begins others (nonterminal i) e = absurd cc

  -- where rules that pass a test have phrases, a grammar that passes it has one
  pub some_phrase : (s : Syntax I E) (depth : ℕ) (test : I → Bool) → ((i : I) → test i ≡ true
      → (tokens : List Lexeme) × (tree : E i) × Derives s depth i tokens tree) → {A : Type 0} (g : Grammar I E A)
      → has_phrase_by test g ≡ true → (tokens : List Lexeme) × (tree : A) × PhraseBy (Derives s depth) g tokens tree
  some_phrase s depth test rules (terminal c) e =
      let t : Lexeme = record { number = 0; class = c; text = [] } in (t ∷ [], t, (refl, refl))
  some_phrase s depth test rules (empty x) e = ([], x, (refl, refl))
  some_phrase s depth test rules (sequence {A = X} {B = Y} g h) e =
      let parts : (has_phrase_by test g ≡ true) × (has_phrase_by test h ≡ true) = and_parts _ _ e in
      let a : (tokens : List Lexeme) × (tree : X) × PhraseBy (Derives s depth) g tokens tree =
      some_phrase s depth test rules g parts.0 in
      let b : (tokens : List Lexeme) × (tree : Y) × PhraseBy (Derives s depth) h tokens tree =
      some_phrase s depth test rules h parts.1 in
      (a.0 ++ b.0, (a.1, b.1), (a.0, b.0, refl, a.2, b.2))
  some_phrase s depth test rules (choice g h) e = elim (or_cases (has_phrase_by test g) (has_phrase_by test h) e) [
    | inl f ↦ let a : (tokens : List Lexeme) × (tree : _) × PhraseBy (Derives s depth) g tokens tree =
        some_phrase s depth test rules g f in (a.0, a.1, inl a.2)
    | inr f ↦ let b : (tokens : List Lexeme) × (tree : _) × PhraseBy (Derives s depth) h tokens tree =
        some_phrase s depth test rules h f in (b.0, b.1, inr b.2)
  ]
  some_phrase s depth test rules (action {A = X} f g) e =
      let a : (tokens : List Lexeme) × (tree : X) × PhraseBy (Derives s depth) g tokens tree =
      some_phrase s depth test rules g e in
      (a.0, f a.1, (a.1, a.2, refl))
  some_phrase s depth test rules (repetition g) e = ([], [], refl)
  some_phrase s depth test rules (nonterminal i) e = rules i e

  pub rule_phrase : (s : Syntax I E) (depth : ℕ) (i : I) → has_phrase s depth i ≡ true
      → (tokens : List Lexeme) × (tree : E i) × Derives s depth i tokens tree
  rule_phrase s zero i e = absurd cc
  rule_phrase s (suc depth) i e = some_phrase s depth (has_phrase s depth) (rule_phrase s depth) (s.rule i) e

  -- where each rule has a phrase, each grammar has one
  pub any_phrase : (s : Syntax I E) (depth : ℕ) → ((i : I)
      → (tokens : List Lexeme) × (tree : E i) × Derives s depth i tokens tree) → {A : Type 0} (g : Grammar I E A)
      → (tokens : List Lexeme) × (tree : A) × PhraseBy (Derives s depth) g tokens tree
  any_phrase s depth rules g = some_phrase s depth (λ _. true) (λ i _. rules i) g (always g)
    where
      always : {A : Type 0} (g : Grammar I E A) → has_phrase_by (λ _. true) g ≡ true
      always (terminal c) = refl
      always (empty x) = refl
      always (sequence g h) = ap (λ b. b && has_phrase_by (λ _. true) h) (always g) ∙ always h
      always (choice g h) = or_left _ (has_phrase_by (λ _. true) h) (always g)
      always (action f g) = always g
      always (repetition g) = refl
      always (nonterminal i) = refl

-- What the test of a clean syntax tells.
module _ {I : Type 0} {E : I → Type 0} (s : Syntax I E) (clean : IsClean s) where
  pub record RuleFacts (i : I) : Type 0 where
    pub is : is_clean s (s.rule i) ≡ true
    pub token : can_be_empty (s.rule i) ≡ false
    pub guarded : is_guarded (s.rule i) ≡ true
    pub within : are_within (follow s (s.rule i)) (s.goes_on i) ≡ true
    pub phrase : has_phrase s clean.depth i ≡ true
    pub endless : is_endless (s.rule i) ≡ true

  pub rule_facts : (i : I) → RuleFacts i
  rule_facts i =
      let z : (_ ≡ true) × (is_endless (s.rule i) ≡ true) = and_parts _ _ (clean.rules i) in
      let a : (_ ≡ true) × (has_phrase s clean.depth i ≡ true) = and_parts _ _ z.0 in
      let b : (_ ≡ true) × (are_within (follow s (s.rule i)) (s.goes_on i) ≡ true) = and_parts _ _ a.0 in
      let d : (_ ≡ true) × (is_guarded (s.rule i) ≡ true) = and_parts _ _ b.0 in
      let e : (is_clean s (s.rule i) ≡ true) × (not (can_be_empty (s.rule i)) ≡ true) = and_parts _ _ d.0 in
      record { is = e.0; token = not-true _ e.1; guarded = d.1; within = b.1; phrase = a.1; endless = z.1 }

  pub no_empty : (n : ℕ) (i : I) (tree : E i) → Derives s n i [] tree → ⊥
  no_empty zero i tree p = p
  no_empty (suc n) i tree p = both_ways _ (rule_facts i).token (empty_phrase (Derives s n) (no_empty n) (s.rule i) tree p)

  pub rule_head : (n : ℕ) (i : I) (t : Lexeme) (ts : List Lexeme) (tree : E i) → Derives s n i (t ∷ ts) tree
      → is_in (rule_first s i) t.class ≡ true
  rule_head zero i t ts tree p = absurd p
  rule_head (suc n) i t ts tree p =
      ap (λ xs. is_in xs t.class) (first_guarded (λ _. []) (rule_first s) (s.rule i) (rule_facts i).guarded)
      ∙ phrase_first (Derives s n) (rule_first s) (no_empty n) (rule_head n) (s.rule i) t ts tree p

  -- each grammar over the rules has a phrase
  pub phrase_of : {A : Type 0} (g : Grammar I E A)
      → (tokens : List Lexeme) × (tree : A) × PhraseBy (Derives s clean.depth) g tokens tree
  phrase_of g = any_phrase s clean.depth (λ i. rule_phrase s clean.depth i (rule_facts i).phrase) g

  -- two phrases one after another
  pub one_after_another : {A B : Type 0} (g : Grammar I E A) (h : Grammar I E B) (front rest : List Lexeme) (x : A)
      (y : B) → IsPhrase s g front x → IsPhrase s h rest y → IsPhrase s (sequence g h) (front ++ rest) (x, y)
  one_after_another g h front rest x y p q =
      let left : p.depth ≤ max p.depth q.depth = omega arith in
      let right : q.depth ≤ max p.depth q.depth = omega arith in
      record {
        depth = max p.depth q.depth;
        is = (
          front,
          rest,
          refl,
          more_phrases (Derives s p.depth) (Derives s (max p.depth q.depth))
              (deeper s p.depth (max p.depth q.depth) left) g front x p.is,
          more_phrases (Derives s q.depth) (Derives s (max p.depth q.depth))
              (deeper s q.depth (max p.depth q.depth) right) h rest y q.is,
        );
      }

  pub no_empty_phrase : {A : Type 0} (g : Grammar I E A) (tree : A) → IsPhrase s g [] tree → can_be_empty g ≡ true
  no_empty_phrase g tree p = empty_phrase (Derives s p.depth) (no_empty p.depth) g tree p.is
