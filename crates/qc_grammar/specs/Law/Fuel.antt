-- The tokens that are left are fuel enough.
use Rattle.std.specs.Prelude.{ℕ, zero, suc, ◌≡◌, ◌⊎◌, ◌+◌, ◌≤◌, ◌<◌, true, false, not, cond, ◌&&◌, List, [], ◌∷◌, ◌++◌, length, Ok, Err}
use Rattle.std.proofs.Common.{refl, ap, sym, ◌∙◌, inl, inr, subst, arith}
use Rattle.std.proofs.lemmas.List.{length-append, append_cancel_right}
use Rattle.std.proofs.lemmas.Bool.{and_parts, not-true}
use Rattle.qc_grammar.specs.Lexeme.{Lexeme}
use Rattle.qc_grammar.specs.Grammar.{Grammar, terminal, empty, sequence, choice, action, repetition, nonterminal, Syntax}
use Rattle.qc_grammar.specs.Language.{PhraseBy, Derives, IsPhrase}
use Rattle.qc_grammar.specs.Reading.{Read, then_read, next_in, can_be_empty, first, read_by, read_rule, reads_rule, reads, repeated}
use Rattle.qc_grammar.specs.Law.LL1.{is_clean, are_apart, follow, is_guarded, IsClean}
use Rattle.qc_grammar.specs.Law.Tests.{next_class}
use Rattle.qc_grammar.specs.Law.Phrases.{no_empty_phrase, phrase_of, rule_facts}
use Rattle.qc_grammar.specs.Law.Repeating.{both_alike}
use Rattle.qc_grammar.specs.Law.Exactness.{Found, Stopped, Exact, carry, exact_by, consumes_by}

-- a list cut in two places that are equally far from its end
pub one_cut : (xs ys zs ws : List Lexeme) → xs ++ ys ≡ zs ++ ws → length ys ≡ length ws → (xs ≡ zs) × (ys ≡ ws)
one_cut [] ys [] ws e f = (refl, e)
one_cut [] ys (z ∷ zs) ws e f = absurd (omega (arith, ap length e, length-append zs ws))
one_cut (x ∷ xs) ys [] ws e f = absurd (omega (arith, ap length e, length-append xs ys))
one_cut (x ∷ xs) ys (z ∷ zs) ws e f =
    let tails : xs ++ ys ≡ zs ++ ws = cc in
    let heads : x ≡ z = cc in
    let rest : (xs ≡ zs) × (ys ≡ ws) = one_cut xs ys zs ws tails f in
    (ap (λ y. y ∷ xs) heads ∙ ap (λ us. z ∷ us) rest.0, rest.1)

module _ {I : Type 0} {E : I → Type 0} (s : Syntax I E) (clean : IsClean s) where
  -- the rules inside a grammar are read on fewer than k tokens
  abbrev pub Within : {A : Type 0} → ℕ → Grammar I E A → List Lexeme → Type 0
  Within k g tokens = ((is_guarded g ≡ true) × (length tokens ≤ k)) ⊎ (length tokens < k)

  pub within_second : {A B : Type 0} (k : ℕ) (g : Grammar I E A) (h : Grammar I E B) (read : List Lexeme
      → Read A) (tokens : List Lexeme) (x : A × List Lexeme) → Within k (sequence g h) tokens
      → Found s g read tokens x.0 x.1 → Within k h x.1
  within_second k g h read tokens x w p = go p.front p.split p.phrase w
    where
      go : (front : List Lexeme) → tokens ≡ front ++ x.1 → IsPhrase s g front x.0 → Within k (sequence g h) tokens
          → Within k h x.1
      go [] e q (inl f) =
          let parts : (is_guarded g ≡ true) × (cond (can_be_empty g) (is_guarded h) true ≡ true) = and_parts _ _ f.0 in
          inl (
            ap (λ b. cond b (is_guarded h) true) (sym (no_empty_phrase s clean g x.0 q))
                ∙ parts.1,
            omega (arith, ap length e, f.1),
          )
      go [] e q (inr f) = inr (omega (arith, ap length e, f))
      go (t ∷ ts) e q (inl f) = inr (omega (arith, ap length e, length-append ts x.1, f.1))
      go (t ∷ ts) e q (inr f) = inr (omega (arith, ap length e, length-append ts x.1, f))

  pub same_repeated : {A : Type 0} (k : ℕ) (g : Grammar I E A) (read other : List Lexeme → Read A)
      → ((tokens : List Lexeme) → Within k g tokens → read tokens ≡ other tokens)
      → ((tokens : List Lexeme) (x : A × List Lexeme) → read tokens ≡ Ok x → length x.1 < length tokens)
      → (m : ℕ) (tokens : List Lexeme) → Within k g tokens
      → repeated read (first s g) m tokens ≡ repeated other (first s g) m tokens
  same_repeated k g read other same consumes zero tokens w = refl
  same_repeated k g read other same consumes (suc m) tokens w =
      ap (λ r. cond (next_in (first s g) tokens) r (Ok ([], tokens)))
      (ap (λ r. then_read r (λ x rest. Ok (x.0 ∷ x.1, rest)))
      (both_alike read other (repeated read (first s g) m) (repeated other (first s g) m) tokens (same tokens w)
      (λ x e. same_repeated k g read other same consumes m x.1 (inr (shorter w (consumes tokens x e))))))
    where
      shorter : {n : ℕ} → Within k g tokens → n < length tokens → n < k
      shorter (inl f) lt = omega (arith, f.1)
      shorter (inr f) lt = omega (arith, f)

  -- readings of rules that agree below k tokens make readings that agree
  pub same_reading : (k : ℕ) (R S : (i : I) → List Lexeme → Read (E i)) → ((i : I) (tokens : List Lexeme)
      → length tokens < k → R i tokens ≡ S i tokens) → ((i : I) (tokens : List Lexeme)
      → Exact s (nonterminal i) (R i) tokens (R i tokens)) → {A : Type 0} (g : Grammar I E A) → is_clean s g ≡ true
      → (tokens : List Lexeme) → Within k g tokens → read_by s R g tokens ≡ read_by s S g tokens
  same_reading k R S agree exact (terminal c) e tokens w = refl
  same_reading k R S agree exact (empty x) e tokens w = refl
  same_reading k R S agree exact (sequence g h) e tokens w =
      let parts : (is_clean s g && is_clean s h ≡ true) × (are_apart (follow s g) (first s h) ≡ true) = and_parts _ _ e in
      let each : (is_clean s g ≡ true) × (is_clean s h ≡ true) = and_parts _ _ parts.0 in
      both_alike (read_by s R g) (read_by s S g) (read_by s R h) (read_by s S h) tokens
      (same_reading k R S agree exact g each.0 tokens (first_part w))
      (λ x f. same_reading k R S agree exact h each.1 x.1
      (within_second k g h (read_by s R g) tokens x w
      (subst (Exact s g (read_by s R g) tokens) f (exact_by s clean R exact g each.0 tokens))))
    where
      first_part : Within k (sequence g h) tokens → Within k g tokens
      first_part (inl f) = inl ((and_parts _ _ f.0).0, f.1)
      first_part (inr f) = inr f
  same_reading k R S agree exact (choice g h) e tokens w =
      let parts : (is_clean s g && is_clean s h && not (can_be_empty g) ≡ true)
      × (are_apart (first s g) (first s h) ≡ true) = and_parts _ _ e in
      let parts2 : (is_clean s g && is_clean s h ≡ true) × (not (can_be_empty g) ≡ true) = and_parts _ _ parts.0 in
      let each : (is_clean s g ≡ true) × (is_clean s h ≡ true) = and_parts _ _ parts2.0 in
      ap (λ r. cond (next_in (first s g) tokens) r (read_by s R h tokens))
      (same_reading k R S agree exact g each.0 tokens (left w))
      ∙ ap (λ r. cond (next_in (first s g) tokens) (read_by s S g tokens) r)
      (same_reading k R S agree exact h each.1 tokens (right w))
    where
      left : Within k (choice g h) tokens → Within k g tokens
      left (inl f) = inl ((and_parts _ _ f.0).0, f.1)
      left (inr f) = inr f

      right : Within k (choice g h) tokens → Within k h tokens
      right (inl f) = inl ((and_parts _ _ f.0).1, f.1)
      right (inr f) = inr f
  same_reading k R S agree exact (action f g) e tokens w =
      ap (λ r. then_read r (λ x rest. Ok (f x, rest))) (same_reading k R S agree exact g e tokens w)
  same_reading k R S agree exact (repetition g) e tokens w =
      let parts : (is_clean s g && not (can_be_empty g) ≡ true) × (are_apart (follow s g) (first s g) ≡ true) =
      and_parts _ _ e in
      let each : (is_clean s g ≡ true) × (not (can_be_empty g) ≡ true) = and_parts _ _ parts.0 in
      same_repeated k g (read_by s R g) (read_by s S g) (same_reading k R S agree exact g each.0)
      (consumes_by s clean g (read_by s R g) (exact_by s clean R exact g each.0) (not-true _ each.1)) (length tokens)
      tokens w
  same_reading k R S agree exact (nonterminal i) e tokens (inl f) = absurd (let g : false ≡ true = f.0 in cc)
  same_reading k R S agree exact (nonterminal i) e tokens (inr f) = agree i tokens f

  pub exact_rule : (m : ℕ) (i : I) (tokens : List Lexeme)
      → Exact s (nonterminal i) (read_rule s m i) tokens (read_rule s m i tokens)
  unfolding read_rule
  exact_rule zero i tokens =
      let p : (ts : List Lexeme) × (tree : E i) × PhraseBy (Derives s clean.depth) (nonterminal i) ts tree =
      phrase_of s clean (nonterminal i) in
      record {
        front = [];
        rest = tokens;
        split = refl;
        left_is = refl;
        begins = record { more = p.0; tree = p.1; phrase = record { depth = clean.depth; is = p.2 } };
        again = λ others _. refl;
      }
  exact_rule (suc m) i tokens =
      carry s (s.rule i) (nonterminal i) (read_by s (read_rule s m) (s.rule i)) (read_rule s (suc m) i) tokens
      (λ front tree p. record { depth = suc p.depth; is = p.is })
      (λ others _. refl)
      (read_by s (read_rule s m) (s.rule i) tokens)
      (exact_by s clean (read_rule s m) (exact_rule m) (s.rule i) (rule_facts s clean i).is tokens)

  pub same_fuel : (m k : ℕ) (i : I) (tokens : List Lexeme) → length tokens < m → length tokens < k
      → read_rule s m i tokens ≡ read_rule s k i tokens
  unfolding read_rule
  same_fuel zero k i tokens p q = absurd (omega arith)
  same_fuel (suc m) zero i tokens p q = absurd (omega arith)
  same_fuel (suc m) (suc k) i tokens p q =
      same_reading (length tokens) (read_rule s m) (read_rule s k)
      (λ j us lt. same_fuel m k j us (omega arith) (omega arith)) (exact_rule m)
      (s.rule i) (rule_facts s clean i).is tokens (inl ((rule_facts s clean i).guarded, omega arith))

  -- a rule is read as its grammar is
  pub unroll : (i : I) (tokens : List Lexeme) → reads s (nonterminal i) tokens ≡ reads s (s.rule i) tokens
  unfolding read_rule reads_rule
  unroll i tokens =
      same_reading (length tokens) (read_rule s (length tokens)) (reads_rule s)
      (λ j us lt. same_fuel (length tokens) (suc (length us)) j us lt (omega arith)) (exact_rule (length tokens))
      (s.rule i) (rule_facts s clean i).is tokens (inl ((rule_facts s clean i).guarded, omega arith))

  pub exact_reads_rule : (i : I) (tokens : List Lexeme)
      → Exact s (nonterminal i) (reads_rule s i) tokens (reads_rule s i tokens)
  unfolding reads_rule
  exact_reads_rule i tokens =
      go (read_rule s (suc (length tokens)) i tokens) refl (exact_rule (suc (length tokens)) i tokens)
    where
      with_more : (n : ℕ) → suc (length tokens) ≤ n
          → read_rule s n i tokens ≡ read_rule s (suc (length tokens)) i tokens
      with_more n le = same_fuel n (suc (length tokens)) i tokens (omega arith) (omega arith)

      go : (r : Read (E i)) → read_rule s (suc (length tokens)) i tokens ≡ r
          → Exact s (nonterminal i) (read_rule s (suc (length tokens)) i) tokens r
          → Exact s (nonterminal i) (reads_rule s i) tokens r
      go (Ok x) e p =
          record {
            front = p.front;
            split = p.split;
            phrase = p.phrase;
            again = λ others h.
                let n : ℕ = suc (length tokens + length (p.front ++ others)) in
                let q : Found s (nonterminal i) (read_rule s n i) tokens x.0 x.1 =
                subst (Exact s (nonterminal i) (read_rule s n i) tokens) (with_more n (omega arith) ∙ e)
                (exact_rule n i tokens) in
                let same : q.front ≡ p.front = append_cancel_right q.front p.front x.1 (sym q.split ∙ p.split) in
                same_fuel (suc (length (p.front ++ others))) n i (p.front ++ others) (omega arith) (omega arith)
                ∙ subst (λ front. read_rule s n i (front ++ others) ≡ Ok (x.0, others)) same (q.again others h);
          }
      go (Err left) e p =
          record {
            front = p.front;
            rest = p.rest;
            split = p.split;
            left_is = p.left_is;
            begins = p.begins;
            again = λ others h.
                let n : ℕ = suc (length tokens + length (p.front ++ others)) in
                let q : Stopped s (nonterminal i) (read_rule s n i) tokens left =
                subst (Exact s (nonterminal i) (read_rule s n i) tokens) (with_more n (omega arith) ∙ e)
                (exact_rule n i tokens) in
                let same : (q.front ≡ p.front) × (q.rest ≡ p.rest) =
                one_cut q.front q.rest p.front p.rest (sym q.split ∙ p.split) (q.left_is ∙ sym p.left_is) in
                same_fuel (suc (length (p.front ++ others))) n i (p.front ++ others) (omega arith) (omega arith)
                ∙ subst (λ front. read_rule s n i (front ++ others) ≡ Err (length others)) same.0
                (q.again others (h ∙ ap next_class (sym same.1)));
          }

  -- the reading of each clean grammar is exact
  pub exact : {A : Type 0} (g : Grammar I E A) → is_clean s g ≡ true → (tokens : List Lexeme)
      → Exact s g (reads s g) tokens (reads s g tokens)
  exact g e tokens = exact_by s clean (reads_rule s) exact_reads_rule g e tokens
