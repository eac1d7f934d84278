-- A rule of items and their last phrase has the phrases of a list, and then the last phrase.
use Rattle.std.specs.Prelude.{ℕ, zero, suc, ◌≡◌, ◌≤◌, List, [], ◌∷◌, ◌++◌}
use Rattle.std.proofs.Common.{refl, ap, sym, ◌∙◌, inl, inr, subst, append_assoc, arith}
use Rattle.qc_grammar.specs.Lexeme.{Lexeme}
use Rattle.qc_grammar.specs.Grammar.{Grammar, Syntax, headed, items_then_last, items_and_last}
use Rattle.qc_grammar.specs.Language.{PhraseBy, Derives, IsPhrase}
use Rattle.qc_grammar.specs.Law.Phrases.{more_phrases, deeper}

-- each item nests the rule once more
abbrev depth_after : {A : Type 0} → ℕ → List A → ℕ
depth_after depth [] = depth
depth_after depth (x ∷ items) = suc (depth_after depth items)

no_less : {A : Type 0} (depth : ℕ) (items : List A) → depth ≤ depth_after depth items
no_less depth [] = omega arith
no_less depth (x ∷ items) = let le : depth ≤ depth_after depth items = no_less depth items in omega arith

lifted : {I : Type 0} {E : I → Type 0} (s : Syntax I E) (n m : ℕ) → n ≤ m → {A : Type 0} (g : Grammar I E A)
    (tokens : List Lexeme) (tree : A) → PhraseBy (Derives s n) g tokens tree → PhraseBy (Derives s m) g tokens tree
lifted s n m le g tokens tree p =
    more_phrases (Derives s n) (Derives s m) (deeper s n m le) g tokens tree p

module _ {I : Type 0} {E : I → Type 0} {H A B : Type 0} (head : Grammar I E H)
    (item : Grammar I E (H → A)) (last : Grammar I E (H → B)) (end : Grammar I E B)
    (again : Grammar I E (List A × B)) where
  -- one item before a list and its last phrase
  prepended : (R : (i : I) → List Lexeme → E i → Type 0) (x : A) (items : List A) (y : B) (front rest : List Lexeme)
      → PhraseBy R (headed head item) front x → PhraseBy R (items_and_last head item last end) rest (items, y)
      → PhraseBy R (items_and_last head item last end) (front ++ rest) (x ∷ items, y)
  prepended R x items y front rest p q = (
    front ++ q.0,
    q.1,
    ap (λ ts. front ++ ts) q.2 ∙ sym (append_assoc front q.0 q.1),
    (front, q.0, refl, p, q.3),
    q.4,
  )

  listed : (R : (i : I) → List Lexeme → E i → Type 0) → ((tokens : List Lexeme) (tree : List A × B)
      → PhraseBy R again tokens tree → PhraseBy R (items_then_last head item last end again) tokens tree)
      → (items : List A) (y : B) (tokens : List Lexeme) → PhraseBy R again tokens (items, y)
      → PhraseBy R (items_and_last head item last end) tokens (items, y)
  listed R back [] y tokens p = elim (back tokens ([], y) p) [
    | inl q ↦ elim q.1.4 [
      | inl r ↦ absurd (let e : [] ≡ r.0.0 q.0.0 ∷ r.0.1.0 = ap (λ t. t.0) (q.2 ∙ ap (λ f. f q.0.0) r.2) in cc)
      | inr r ↦ (
        [],
        tokens,
        refl,
        refl,
        inl (
          (q.0.0, r.0),
          (q.1.0, q.1.1, q.1.2, q.1.3, r.1),
          ap (λ t. t.1) (q.2 ∙ ap (λ f. f q.0.0) r.2),
        ),
      )
    ]
    | inr q ↦ ([], tokens, refl, refl, inr (subst (PhraseBy R end tokens) (sym (ap (λ t. t.1) q.2)) q.1))
  ]
  listed R back (x ∷ items) y tokens p = elim (back tokens (x ∷ items, y) p) [
    | inl q ↦ elim q.1.4 [
      | inl r ↦
          let e : (x ∷ items, y) ≡ (r.0.0 q.0.0 ∷ r.0.1.0, r.0.1.1) = q.2 ∙ ap (λ f. f q.0.0) r.2 in
          let f : x ∷ items ≡ r.0.0 q.0.0 ∷ r.0.1.0 = ap (λ t. t.0) e in
          let same_x : x ≡ r.0.0 q.0.0 = cc in
          let same_items : r.0.1.0 ≡ items = cc in
          let same : r.0.1 ≡ (items, y) = ap (λ xs. (xs, r.0.1.1)) same_items ∙ ap (λ z. (items, z)) (sym (ap (λ t. t.1) e)) in
          subst (λ ts. PhraseBy R (items_and_last head item last end) ts (x ∷ items, y))
          (append_assoc q.1.0 r.1.0 r.1.1 ∙ ap (λ ts. q.1.0 ++ ts) (sym r.1.2) ∙ sym q.1.2)
          (prepended R x items y (q.1.0 ++ r.1.0) r.1.1
          ((q.0.0, r.0.0), (q.1.0, r.1.0, refl, q.1.3, r.1.3), same_x)
          (listed R back items y r.1.1 (subst (PhraseBy R again r.1.1) same r.1.4)))
      | inr r ↦ absurd (let e : x ∷ items ≡ [] = ap (λ t. t.0) (q.2 ∙ ap (λ f. f q.0.0) r.2) in cc)
    ]
    | inr q ↦ absurd (let e : x ∷ items ≡ [] = ap (λ t. t.0) q.2 in cc)
  ]

  module _ (s : Syntax I E) where
    -- a phrase of the rule is a list of items, and the last phrase
    pub rule_is_list : ((depth : ℕ) (tokens : List Lexeme) (tree : List A × B)
        → PhraseBy (Derives s depth) again tokens tree
        → PhraseBy (Derives s depth) (items_then_last head item last end again) tokens tree)
        → (tokens : List Lexeme) (tree : List A × B) → IsPhrase s again tokens tree
        → IsPhrase s (items_and_last head item last end) tokens tree
    rule_is_list back tokens tree p =
        record { depth = p.depth; is = listed (Derives s p.depth) (back p.depth) tree.0 tree.1 tokens p.is }

    of_list : ((depth : ℕ) (tokens : List Lexeme) (tree : List A × B)
        → PhraseBy (Derives s depth) (items_then_last head item last end again) tokens tree
        → PhraseBy (Derives s (suc depth)) again tokens tree)
        → (depth : ℕ) (items : List A) (y : B) (tokens : List Lexeme)
        → PhraseBy (Derives s depth) (items_and_last head item last end) tokens (items, y)
        → PhraseBy (Derives s (suc (depth_after depth items))) again tokens (items, y)
    of_list fold depth [] y tokens p =
        fold depth tokens ([], y)
        (subst (λ ts. PhraseBy (Derives s depth) (items_then_last head item last end again) ts ([], y))
        (sym (p.2 ∙ ap (λ ts. ts ++ p.1) p.3))
        (elim p.4 [
          | inl q ↦ inl (
            (q.0.0, λ h. ([], q.0.1 h)),
            (q.1.0, q.1.1, q.1.2, q.1.3, inr (q.0.1, q.1.4, refl)),
            ap (λ z. ([], z)) q.2,
          )
          | inr q ↦ inr (y, q, refl)
        ]))
    of_list fold depth (x ∷ items) y tokens p =
        let n : ℕ = suc (depth_after depth items) in
        let more : depth ≤ depth_after depth items = no_less depth items in
        let deeper_by : depth ≤ n = omega arith in
        let r = p.3.3 in
        fold n tokens (x ∷ items, y)
        (inl (
          (r.0.0, λ h. (r.0.1 h ∷ items, y)),
          (
            r.1.0,
            r.1.1 ++ (p.3.1 ++ p.1),
            p.2 ∙ ap (λ ts. ts ++ p.1) (p.3.2 ∙ ap (λ ts. ts ++ p.3.1) r.1.2)
                ∙ append_assoc (r.1.0 ++ r.1.1) p.3.1 p.1 ∙ append_assoc r.1.0 r.1.1 (p.3.1 ++ p.1),
            lifted s depth n deeper_by head r.1.0 r.0.0 r.1.3,
            inl (
              (r.0.1, (items, y)),
              (
                r.1.1,
                p.3.1 ++ p.1,
                refl,
                lifted s depth n deeper_by item r.1.1 r.0.1 r.1.4,
                of_list fold depth items y (p.3.1 ++ p.1) (p.3.1, p.1, refl, p.3.4, p.4),
              ),
              refl,
            ),
          ),
          ap (λ z. (z ∷ items, y)) r.2,
        ))

    -- a list of items, and the last phrase, is a phrase of the rule
    pub list_is_rule : ((depth : ℕ) (tokens : List Lexeme) (tree : List A × B)
        → PhraseBy (Derives s depth) (items_then_last head item last end again) tokens tree
        → PhraseBy (Derives s (suc depth)) again tokens tree)
        → (tokens : List Lexeme) (tree : List A × B) → IsPhrase s (items_and_last head item last end) tokens tree
        → IsPhrase s again tokens tree
    list_is_rule fold tokens tree p =
        record {
          depth = suc (depth_after p.depth tree.0);
          is = of_list fold p.depth tree.0 tree.1 tokens p.is;
        }

-- a phrase of a rule is one of its grammar, with rules nested no deeper
pub rule_opens : {I : Type 0} {E : I → Type 0} (s : Syntax I E) (i : I) (depth : ℕ) (tokens : List Lexeme) (tree : E i)
    → Derives s depth i tokens tree → PhraseBy (Derives s depth) (s.rule i) tokens tree
rule_opens s i zero tokens tree p = absurd p
rule_opens s i (suc depth) tokens tree p =
    more_phrases (Derives s depth) (Derives s (suc depth)) (deeper s depth (suc depth) (omega arith)) (s.rule i) tokens
    tree p
