-- Each phrase is read, where what follows can't go on after it.
use Rattle.std.specs.Prelude.{ℕ, zero, suc, ◌≡◌, true, false, not, cond, ◌&&◌, List, [], ◌∷◌, ◌++◌, length, Ok, Err}
use Rattle.std.proofs.Common.{refl, ap, sym, ◌∙◌, inl, inr, append_assoc}
use Rattle.std.proofs.lemmas.List.{append-nil}
use Rattle.std.proofs.lemmas.Bool.{and_parts, both_ways, cases_Bool, not-true}
use Rattle.qc_grammar.specs.Lexeme.{Class, Lexeme, same_class}
use Rattle.qc_grammar.specs.Grammar.{Grammar, terminal, empty, sequence, choice, action, repetition, nonterminal, Syntax}
use Rattle.qc_grammar.specs.Language.{Phrases, PhraseBy, Derives, IsPhrase}
use Rattle.qc_grammar.specs.Reading.{then_read, read_both, take_one, next_in, can_be_empty, first, reads_rule, reads}
use Rattle.qc_grammar.specs.Law.LL1.{is_in, are_apart, is_clean, follow, IsClean}
use Rattle.qc_grammar.specs.Law.Tests.{apart, class_alike, next_first, next_second, next_within}
use Rattle.qc_grammar.specs.Law.Phrases.{empty_phrase, phrase_first, phrases_first, no_empty, rule_head, rule_facts}
use Rattle.qc_grammar.specs.Lists.{many}
use Rattle.qc_grammar.specs.Law.Repeating.{step, one_more}
use Rattle.qc_grammar.specs.Law.Exactness.{consumes_by}
use Rattle.qc_grammar.specs.Law.Fuel.{unroll, exact}

-- of two lists that are apart a class is in at most one
pub apart_first : (xs ys : List Class) (c : Class) → are_apart xs ys ≡ true → is_in ys c ≡ true → is_in xs c ≡ false
apart_first xs ys c e inside = elim (cases_Bool (is_in xs c)) [
  | inl f ↦ absurd (both_ways _ (apart xs ys c e f) inside)
  | inr f ↦ f
]

module _ {I : Type 0} {E : I → Type 0} (s : Syntax I E) (clean : IsClean s) where
  complete_many : (n : ℕ) {A : Type 0} (g : Grammar I E A) → is_clean s g ≡ true → can_be_empty g ≡ false
      → are_apart (follow s g) (first s g) ≡ true → ((tokens : List Lexeme) (tree : A) (rest : List Lexeme)
      → PhraseBy (Derives s n) g tokens tree → next_in (follow s g) rest ≡ false
      → reads s g (tokens ++ rest) ≡ Ok (tree, rest)) → (trees : List A) (tokens rest : List Lexeme)
      → Phrases (PhraseBy (Derives s n) g) tokens trees → next_in (first s g ++ follow s g) rest ≡ false
      → many (reads s g) (first s g) (tokens ++ rest) ≡ Ok (trees, rest)
  complete_many n g e token d one [] tokens rest p f =
      ap (λ ts. many (reads s g) (first s g) (ts ++ rest)) p
      ∙ step (reads s g) (first s g) (consumes_by s clean g (reads s g) (exact s clean g e) token) rest
      ∙ ap (λ b. cond b (one_more (reads s g) (many (reads s g) (first s g)) rest) (Ok ([], rest)))
      (next_first (first s g) (follow s g) rest f)
  complete_many n {A} g e token d one (x ∷ xs) tokens rest p f =
      ap (λ ts. many (reads s g) (first s g) (ts ++ rest)) p.2
      ∙ ap (many (reads s g) (first s g)) (append_assoc p.0 p.1 rest)
      ∙ step (reads s g) (first s g) (consumes_by s clean g (reads s g) (exact s clean g e) token)
      (p.0 ++ (p.1 ++ rest))
      ∙ ap (λ b. cond b (one_more (reads s g) (many (reads s g) (first s g)) (p.0 ++ (p.1 ++ rest)))
      (Ok ([], p.0 ++ (p.1 ++ rest)))) (begins p.0 p.3)
      ∙ ap (λ r. then_read {A = A × List A}
      (then_read r (λ y last. then_read (many (reads s g) (first s g) last) (λ ys end. Ok ((y, ys), end))))
      (λ q last. Ok (q.0 ∷ q.1, last)))
      (one p.0 x (p.1 ++ rest) p.3 (middle p.1 p.4))
      ∙ ap (λ r. then_read {A = A × List A} (then_read r (λ ys end. Ok ((x, ys), end)))
      (λ q last. Ok (q.0 ∷ q.1, last)))
      (complete_many n g e token d one xs p.1 rest p.4 f)
    where
      begins : (ts : List Lexeme) → PhraseBy (Derives s n) g ts x → next_in (first s g) (ts ++ (p.1 ++ rest)) ≡ true
      begins [] q = absurd (both_ways _ token (empty_phrase (Derives s n) (no_empty s clean n) g x q))
      begins (t ∷ ts) q = phrase_first (Derives s n) _ (no_empty s clean n) (rule_head s clean n) g t ts x q

      middle : (ts : List Lexeme) → Phrases (PhraseBy (Derives s n) g) ts xs → next_in (follow s g) (ts ++ rest) ≡ false
      middle [] q = next_second (first s g) (follow s g) rest f
      middle (t ∷ ts) q =
          apart_first (follow s g) (first s g) t.class d
          (phrases_first (PhraseBy (Derives s n) g) (first s g)
          (phrase_first (Derives s n) _ (no_empty s clean n) (rule_head s clean n) g) xs t ts q)

  pub complete_by : (n : ℕ) → ((i : I) (tokens : List Lexeme) (tree : E i) (rest : List Lexeme)
      → Derives s n i tokens tree → next_in (s.goes_on i) rest ≡ false
      → reads_rule s i (tokens ++ rest) ≡ Ok (tree, rest)) → {A : Type 0} (g : Grammar I E A) → is_clean s g ≡ true
      → (tokens : List Lexeme) (tree : A) (rest : List Lexeme) → PhraseBy (Derives s n) g tokens tree
      → next_in (follow s g) rest ≡ false → reads s g (tokens ++ rest) ≡ Ok (tree, rest)
  complete_by n rules (terminal c) e tokens tree rest p f =
      ap (λ ts. take_one c (ts ++ rest)) p.0
      ∙ ap (λ b. cond b (Ok (tree, rest)) (Err (suc (length rest)))) (ap (λ d. same_class d c) p.1 ∙ class_alike c)
  complete_by n rules (empty x) e tokens tree rest p f =
      ap (λ ts. Ok (x, ts ++ rest)) p.0 ∙ ap (λ y. Ok (y, rest)) (sym p.1)
  complete_by n rules (sequence {A = X} {B = Y} g h) e tokens tree rest p f =
      let parts : (is_clean s g && is_clean s h ≡ true) × (are_apart (follow s g) (first s h) ≡ true) = and_parts _ _ e in
      let each : (is_clean s g ≡ true) × (is_clean s h ≡ true) = and_parts _ _ parts.0 in
      ap (λ ts. read_both (reads s g) (reads s h) (ts ++ rest)) p.2
      ∙ ap (read_both (reads s g) (reads s h)) (append_assoc p.0 p.1 rest)
      ∙ ap (λ r. then_read r (λ x rest. then_read (reads s h rest) (λ y last. Ok ((x, y), last))))
      (complete_by n rules g each.0 p.0 tree.0 (p.1 ++ rest) p.3 (middle parts.1 p.1 p.4))
      ∙ ap (λ r. then_read r (λ y last. Ok ((tree.0, y), last)))
      (complete_by n rules h each.1 p.1 tree.1 rest p.4
      (next_first (follow s h) (cond (can_be_empty h) (follow s g) []) rest f))
    where
      middle : are_apart (follow s g) (first s h) ≡ true → (ts : List Lexeme) → PhraseBy (Derives s n) h ts tree.1
          → next_in (follow s g) (ts ++ rest) ≡ false
      middle d [] q =
          ap (λ b. next_in (cond b (follow s g) []) rest)
          (sym (empty_phrase (Derives s n) (no_empty s clean n) h tree.1 q))
          ∙ next_second (follow s h) (cond (can_be_empty h) (follow s g) []) rest f
      middle d (t ∷ ts) q =
          apart_first (follow s g) (first s h) t.class d
          (phrase_first (Derives s n) _ (no_empty s clean n) (rule_head s clean n) h t ts tree.1 q)
  complete_by n rules (choice g h) e tokens tree rest p f =
      let parts : (is_clean s g && is_clean s h && not (can_be_empty g) ≡ true)
      × (are_apart (first s g) (first s h) ≡ true) = and_parts _ _ e in
      let parts2 : (is_clean s g && is_clean s h ≡ true) × (not (can_be_empty g) ≡ true) = and_parts _ _ parts.0 in
      let each : (is_clean s g ≡ true) × (is_clean s h ≡ true) = and_parts _ _ parts2.0 in
      let after_h : next_in (follow s h ++ cond (can_be_empty h) (first s g) []) rest ≡ false =
      next_second (follow s g) (follow s h ++ cond (can_be_empty h) (first s g) []) rest f in
      elim p [
        | inl q ↦
            ap (λ b. cond b (reads s g (tokens ++ rest)) (reads s h (tokens ++ rest)))
            (first_of (not-true _ parts2.1) tokens q)
            ∙ complete_by n rules g each.0 tokens tree rest q
            (next_first (follow s g) (follow s h ++ cond (can_be_empty h) (first s g) []) rest f)
        | inr q ↦
            ap (λ b. cond b (reads s g (tokens ++ rest)) (reads s h (tokens ++ rest)))
            (not_first parts.1 after_h tokens q)
            ∙ complete_by n rules h each.1 tokens tree rest q
            (next_first (follow s h) (cond (can_be_empty h) (first s g) []) rest after_h)
      ]
    where
      first_of : can_be_empty g ≡ false → (ts : List Lexeme) → PhraseBy (Derives s n) g ts tree
          → next_in (first s g) (ts ++ rest) ≡ true
      first_of d [] q = absurd (both_ways _ d (empty_phrase (Derives s n) (no_empty s clean n) g tree q))
      first_of d (t ∷ ts) q = phrase_first (Derives s n) _ (no_empty s clean n) (rule_head s clean n) g t ts tree q

      not_first : are_apart (first s g) (first s h) ≡ true
          → next_in (follow s h ++ cond (can_be_empty h) (first s g) []) rest ≡ false → (ts : List Lexeme)
          → PhraseBy (Derives s n) h ts tree → next_in (first s g) (ts ++ rest) ≡ false
      not_first d k [] q =
          ap (λ b. next_in (cond b (first s g) []) rest)
          (sym (empty_phrase (Derives s n) (no_empty s clean n) h tree q))
          ∙ next_second (follow s h) (cond (can_be_empty h) (first s g) []) rest k
      not_first d k (t ∷ ts) q =
          apart_first (first s g) (first s h) t.class d
          (phrase_first (Derives s n) _ (no_empty s clean n) (rule_head s clean n) h t ts tree q)
  complete_by n rules (action h g) e tokens tree rest p f =
      ap (λ r. then_read r (λ x last. Ok (h x, last))) (complete_by n rules g e tokens p.0 rest p.1 f)
      ∙ ap (λ y. Ok (y, rest)) (sym p.2)
  complete_by n rules (repetition g) e tokens tree rest p f =
      let parts : (is_clean s g && not (can_be_empty g) ≡ true) × (are_apart (follow s g) (first s g) ≡ true) =
      and_parts _ _ e in
      let each : (is_clean s g ≡ true) × (not (can_be_empty g) ≡ true) = and_parts _ _ parts.0 in
      complete_many n g each.0 (not-true _ each.1) parts.1 (complete_by n rules g each.0) tree tokens rest p f
  complete_by n rules (nonterminal i) e tokens tree rest p f = rules i tokens tree rest p f

  complete_rule : (n : ℕ) (i : I) (tokens : List Lexeme) (tree : E i) (rest : List Lexeme)
      → Derives s n i tokens tree → next_in (s.goes_on i) rest ≡ false
      → reads_rule s i (tokens ++ rest) ≡ Ok (tree, rest)
  complete_rule zero i tokens tree rest p f = absurd p
  complete_rule (suc n) i tokens tree rest p f =
      unroll s clean i (tokens ++ rest)
      ∙ complete_by n (complete_rule n) (s.rule i) (rule_facts s clean i).is tokens tree rest p
      (next_within (follow s (s.rule i)) (s.goes_on i) rest (rule_facts s clean i).within f)

  -- a phrase is read, where what follows can't go on after it
  pub complete : {A : Type 0} (g : Grammar I E A) → is_clean s g ≡ true
      → (tokens : List Lexeme) (tree : A) (rest : List Lexeme) → IsPhrase s g tokens tree
      → next_in (follow s g) rest ≡ false → reads s g (tokens ++ rest) ≡ Ok (tree, rest)
  complete g e tokens tree rest p f = complete_by p.depth (complete_rule p.depth) g e tokens tree rest p.is f

  -- a whole phrase is read
  pub complete_whole : {A : Type 0} (g : Grammar I E A) → is_clean s g ≡ true → (tokens : List Lexeme) (tree : A)
      → IsPhrase s g tokens tree → reads s g tokens ≡ Ok (tree, [])
  complete_whole g e tokens tree p = ap (reads s g) (sym (append-nil tokens)) ∙ complete g e tokens tree [] p refl
