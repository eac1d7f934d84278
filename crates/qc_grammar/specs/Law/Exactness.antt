-- A reading that finds has read a phrase, and one that stops stands at a token with which nothing begins. Neither
-- depends on what comes after the token at which it stands.
use Rattle.std.specs.Prelude.{ℕ, zero, suc, ◌≡◌, ◌≤◌, ◌<◌, Bool, true, false, not, cond, ◌&&◌, List, [], ◌∷◌, ◌++◌, length, Some, Ok, Err}
use Rattle.std.proofs.Common.{refl, ap, sym, ◌∙◌, inl, inr, subst, append_assoc, arith}
use Rattle.std.proofs.lemmas.List.{length-append}
use Rattle.std.proofs.lemmas.Bool.{and_parts, both_ways, not-true}
use Rattle.qc_grammar.specs.Lexeme.{Class, Lexeme, same_class}
use Rattle.qc_grammar.specs.Grammar.{Grammar, terminal, empty, sequence, choice, action, repetition, nonterminal, Syntax}
use Rattle.qc_grammar.specs.Language.{Phrases, PhraseBy, Derives, IsPhrase, Begins}
use Rattle.qc_grammar.specs.Reading.{Read, then_read, read_both, read_as, take_one, next_in, can_be_empty, first, read_by}
use Rattle.qc_grammar.specs.Law.LL1.{is_clean, are_apart, follow, IsClean}
use Rattle.qc_grammar.specs.Law.Tests.{one_class, next_class, next_alike, next_none, next_behind}
use Rattle.qc_grammar.specs.Law.Phrases.{one_after_another, no_empty_phrase, phrase_of}
use Rattle.qc_grammar.specs.Lists.{many}
use Rattle.qc_grammar.specs.Law.Repeating.{step, one_more}

-- the case that a test picks
pub chosen : {A : Type 0} (P : A → Type 0) (b : Bool) (x y : A) → (b ≡ true → P x) → (b ≡ false → P y) → P (cond b x y)
chosen P true x y p q = p refl
chosen P false x y p q = q refl

module _ {I : Type 0} {E : I → Type 0} (s : Syntax I E) where
  -- the front is a phrase, and it is read again whatever follows a next token of the same class
  pub record Found {A : Type 0} (g : Grammar I E A) (read : List Lexeme → Read A) (tokens : List Lexeme) (tree : A)
      (rest : List Lexeme) : Type 0 where
    pub front : List Lexeme
    pub split : tokens ≡ front ++ rest
    pub phrase : IsPhrase s g front tree
    pub again : (others : List Lexeme) → next_class others ≡ next_class rest
        → read (front ++ others) ≡ Ok (tree, others)

  -- the front begins a phrase, and the reading stops there again whatever follows a next token of the same class
  pub record Stopped {A : Type 0} (g : Grammar I E A) (read : List Lexeme → Read A) (tokens : List Lexeme)
      (left : ℕ) : Type 0 where
    pub front : List Lexeme
    pub rest : List Lexeme
    pub split : tokens ≡ front ++ rest
    pub left_is : length rest ≡ left
    pub begins : Begins s g front
    pub again : (others : List Lexeme) → next_class others ≡ next_class rest
        → read (front ++ others) ≡ Err (length others)

  abbrev pub Exact : {A : Type 0} → Grammar I E A → (List Lexeme → Read A) → List Lexeme → Read A → Type 0
  Exact g read tokens (Ok x) = Found g read tokens x.0 x.1
  Exact g read tokens (Err left) = Stopped g read tokens left

  -- the reading of a grammar that reads alike, and has these phrases
  pub carry : {A : Type 0} (g h : Grammar I E A) (read other : List Lexeme → Read A) (tokens : List Lexeme)
      → ((front : List Lexeme) (tree : A) → IsPhrase s g front tree → IsPhrase s h front tree)
      → ((others : List Lexeme) → next_class others ≡ next_class tokens → other others ≡ read others)
      → (r : Read A) → Exact g read tokens r → Exact h other tokens r
  carry g h read other tokens phrases alike (Ok x) f =
      record {
        front = f.front;
        split = f.split;
        phrase = phrases f.front x.0 f.phrase;
        again = λ others e. alike (f.front ++ others) (next_behind f.front others x.1 e ∙ ap next_class (sym f.split))
            ∙ f.again others e;
      }
  carry g h read other tokens phrases alike (Err left) f =
      record {
        front = f.front;
        rest = f.rest;
        split = f.split;
        left_is = f.left_is;
        begins = record {
          more = f.begins.more;
          tree = f.begins.tree;
          phrase =
              phrases (f.front ++ f.begins.more) f.begins.tree f.begins.phrase;
        };
        again = λ others e. alike (f.front ++ others) (next_behind f.front others f.rest e
            ∙ ap next_class (sym f.split)) ∙ f.again others e;
      }

  pub exact_terminal : (c : Class) (tokens : List Lexeme) → Exact (terminal c) (take_one c) tokens (take_one c tokens)
  exact_terminal c [] =
      record {
        front = [];
        rest = [];
        split = refl;
        left_is = refl;
        begins = let t : Lexeme = record { number = 0; class = c; text = [] } in
            record { more = t ∷ []; tree = t; phrase = record { depth = 0; is = (refl, refl) } };
        again = λ others e. ap (take_one c) (next_none others e) ∙ ap Err (sym (ap length (next_none others e)));
      }
  exact_terminal c (t ∷ ts) =
      chosen (Exact (terminal c) (take_one c) (t ∷ ts)) (same_class t.class c) (Ok (t, ts)) (Err (suc (length ts)))
      (λ e. record {
        front = t ∷ [];
        split = refl;
        phrase = record { depth = 0; is = (refl, one_class t.class c e) };
        again = λ others _. ap (λ b. cond b (Ok (t, others)) (Err (suc (length others)))) e;
      })
      (λ e. record {
        front = [];
        rest = t ∷ ts;
        split = refl;
        left_is = refl;
        begins = let u : Lexeme = record { number = 0; class = c; text = [] } in
            record { more = u ∷ []; tree = u; phrase = record { depth = 0; is = (refl, refl) } };
        again = stop e;
      })
    where
      stop : same_class t.class c ≡ false → (others : List Lexeme) → next_class others ≡ Some t.class
          → take_one c others ≡ Err (length others)
      stop e [] f = absurd cc
      stop e (u ∷ us) f = let same : u.class ≡ t.class = cc in
          ap (λ b. cond b (Ok (u, us)) (Err (suc (length us)))) (ap (λ d. same_class d c) same ∙ e)

  pub exact_action : {A B : Type 0} (f : A → B) (g : Grammar I E A) (read : List Lexeme
      → Read A) (tokens : List Lexeme) (r : Read A) → Exact g read tokens r
      → Exact (action f g) (read_as f read) tokens (then_read r (λ x rest. Ok (f x, rest)))
  exact_action f g read tokens (Ok x) p =
      record {
        front = p.front;
        split = p.split;
        phrase = record { depth = p.phrase.depth; is = (x.0, p.phrase.is, refl) };
        again = λ others e. ap (λ r. then_read r (λ x rest. Ok (f x, rest))) (p.again others e);
      }
  exact_action f g read tokens (Err left) p =
      record {
        front = p.front;
        rest = p.rest;
        split = p.split;
        left_is = p.left_is;
        begins = record {
          more = p.begins.more;
          tree = f p.begins.tree;
          phrase =
              record { depth = p.begins.phrase.depth; is = (p.begins.tree, p.begins.phrase.is, refl) };
        };
        again = λ others e. ap (λ r. then_read r (λ x rest. Ok (f x, rest))) (p.again others e);
      }

module _ {I : Type 0} {E : I → Type 0} (s : Syntax I E) (clean : IsClean s) where
  pub exact_sequence : {A B : Type 0} (g : Grammar I E A) (h : Grammar I E B) (read : List Lexeme
      → Read A) (more : List Lexeme → Read B) (tokens : List Lexeme) → Exact s g read tokens (read tokens)
      → ((x : A × List Lexeme) → read tokens ≡ Ok x → Exact s h more x.1 (more x.1))
      → Exact s (sequence g h) (read_both read more) tokens (read_both read more tokens)
  exact_sequence {A} {B} g h read more tokens at_g at_h = outer (read tokens) at_g at_h
    where
      inner : (x : A × List Lexeme) → Found s g read tokens x.0 x.1 → (r : Read B) → Exact s h more x.1 r
          → Exact s (sequence g h) (read_both read more) tokens (then_read r (λ y last. Ok ((x.0, y), last)))
      inner x p (Ok y) q =
          record {
            front = p.front ++ q.front;
            split = p.split ∙ ap (λ ts. p.front ++ ts) q.split ∙ sym (append_assoc p.front q.front y.1);
            phrase = one_after_another s clean g h p.front q.front x.0 y.0 p.phrase q.phrase;
            again = λ others e.
                ap (read_both read more) (append_assoc p.front q.front others)
                ∙ ap (λ r. then_read r (λ x rest. then_read (more rest) (λ y last. Ok ((x, y), last))))
                (p.again (q.front ++ others) (next_behind q.front others y.1 e ∙ ap next_class (sym q.split)))
                ∙ ap (λ r. then_read r (λ y last. Ok ((x.0, y), last))) (q.again others e);
          }
      inner x p (Err left) q =
          record {
            front = p.front ++ q.front;
            rest = q.rest;
            split = p.split ∙ ap (λ ts. p.front ++ ts) q.split ∙ sym (append_assoc p.front q.front q.rest);
            left_is = q.left_is;
            begins = record {
              more = q.begins.more;
              tree = (x.0, q.begins.tree);
              phrase = subst (λ ts. IsPhrase s (sequence g h) ts (x.0, q.begins.tree))
                  (sym (append_assoc p.front q.front q.begins.more))
                  (one_after_another s clean g h p.front (q.front ++ q.begins.more) x.0 q.begins.tree p.phrase
                  q.begins.phrase);
            };
            again = λ others e.
                ap (read_both read more) (append_assoc p.front q.front others)
                ∙ ap (λ r. then_read r (λ x rest. then_read (more rest) (λ y last. Ok ((x, y), last))))
                (p.again (q.front ++ others) (next_behind q.front others q.rest e ∙ ap next_class (sym q.split)))
                ∙ ap (λ r. then_read r (λ y last. Ok ((x.0, y), last))) (q.again others e);
          }

      outer : (r : Read A) → Exact s g read tokens r → ((x : A × List Lexeme) → r ≡ Ok x
          → Exact s h more x.1 (more x.1))
          → Exact s (sequence g h) (read_both read more) tokens
          (then_read r (λ x rest. then_read (more rest) (λ y last. Ok ((x, y), last))))
      outer (Ok x) p q = inner x p (more x.1) (q x refl)
      outer (Err left) p q =
          let last : (tokens : List Lexeme) × (tree : B) × PhraseBy (Derives s clean.depth) h tokens tree =
          phrase_of s clean h in
          record {
            front = p.front;
            rest = p.rest;
            split = p.split;
            left_is = p.left_is;
            begins = record {
              more = p.begins.more ++ last.0;
              tree = (p.begins.tree, last.1);
              phrase = subst (λ ts. IsPhrase s (sequence g h) ts (p.begins.tree, last.1))
                  (append_assoc p.front p.begins.more last.0)
                  (one_after_another s clean g h (p.front ++ p.begins.more) last.0 p.begins.tree last.1 p.begins.phrase
                  (record { depth = clean.depth; is = last.2 }));
            };
            again = λ others e. ap (λ r. then_read r (λ x rest. then_read (more rest) (λ y last. Ok ((x, y), last))))
                (p.again others e);
          }

  -- what is found of a grammar that can't be empty has a token
  pub found_consumes : {A : Type 0} (g : Grammar I E A) (read : List Lexeme
      → Read A) (tokens : List Lexeme) (x : A × List Lexeme) → can_be_empty g ≡ false
      → Found s g read tokens x.0 x.1 → length x.1 < length tokens
  found_consumes g read tokens x e p = go p.front p.split p.phrase
    where
      go : (front : List Lexeme) → tokens ≡ front ++ x.1 → IsPhrase s g front x.0 → length x.1 < length tokens
      go [] f q = absurd (both_ways _ e (no_empty_phrase s clean g x.0 q))
      go (t ∷ ts) f q = omega (arith, ap length f, length-append ts x.1)

  pub consumes_by : {A : Type 0} (g : Grammar I E A) (read : List Lexeme → Read A) → ((tokens : List Lexeme)
      → Exact s g read tokens (read tokens)) → can_be_empty g ≡ false
      → (tokens : List Lexeme) (x : A × List Lexeme) → read tokens ≡ Ok x → length x.1 < length tokens
  consumes_by g read exact e tokens x f =
      found_consumes g read tokens x e (subst (Exact s g read tokens) f (exact tokens))

  exact_step : {A : Type 0} (g : Grammar I E A) (read : List Lexeme → Read A) → ((tokens : List Lexeme)
      → Exact s g read tokens (read tokens)) → can_be_empty g ≡ false → (tokens : List Lexeme)
      → ((x : A × List Lexeme) → read tokens ≡ Ok x
      → Exact s (repetition g) (many read (first s g)) x.1 (many read (first s g) x.1))
      → Exact s (repetition g) (many read (first s g)) tokens (many read (first s g) tokens)
  exact_step {A} g read exact e tokens more =
      subst (Exact s (repetition g) (many read (first s g)) tokens) (sym (one_step tokens))
      (chosen (Exact s (repetition g) (many read (first s g)) tokens) (next_in (first s g) tokens)
      (one_more read (many read (first s g)) tokens) (Ok ([], tokens))
      (λ f. carry s (action cons (sequence g (repetition g))) (repetition g) (one_more read (many read (first s g)))
      (many read (first s g)) tokens as_repetition
      (λ others h. one_step others
      ∙ ap (λ b. cond b (one_more read (many read (first s g)) others) (Ok ([], others)))
      (next_alike (first s g) others tokens h ∙ f))
      (one_more read (many read (first s g)) tokens)
      (exact_action s cons (sequence g (repetition g)) (read_both read (many read (first s g))) tokens
      (read_both read (many read (first s g)) tokens)
      (exact_sequence g (repetition g) read (many read (first s g)) tokens (exact tokens) more)))
      (λ f. record {
        front = [];
        split = refl;
        phrase = record { depth = 0; is = refl };
        again = λ others h. one_step others
            ∙ ap (λ b. cond b (one_more read (many read (first s g)) others) (Ok ([], others)))
            (next_alike (first s g) others tokens h ∙ f);
      }))
    where
      cons : A × List A → List A
      cons = λ p. p.0 ∷ p.1

      one_step : (others : List Lexeme)
          → many read (first s g) others ≡ cond (next_in (first s g) others)
          (one_more read (many read (first s g)) others) (Ok ([], others))
      one_step = step read (first s g) (consumes_by g read exact e)

      as_repetition : (front : List Lexeme) (tree : List A)
          → IsPhrase s (action cons (sequence g (repetition g))) front tree → IsPhrase s (repetition g) front tree
      as_repetition front tree p =
          record { depth = p.depth; is = subst (Phrases (PhraseBy (Derives s p.depth) g) front) (sym p.is.2) p.is.1 }

  pub exact_repetition : {A : Type 0} (g : Grammar I E A) (read : List Lexeme → Read A) → ((tokens : List Lexeme)
      → Exact s g read tokens (read tokens)) → can_be_empty g ≡ false → (m : ℕ) (tokens : List Lexeme)
      → length tokens ≤ m → Exact s (repetition g) (many read (first s g)) tokens (many read (first s g) tokens)
  exact_repetition g read exact e zero tokens le =
      exact_step g read exact e tokens
      (λ x h. absurd (let lt : length x.1 < length tokens = consumes_by g read exact e tokens x h in omega arith))
  exact_repetition g read exact e (suc m) tokens le =
      exact_step g read exact e tokens (λ x h.
      let lt : length x.1 < length tokens = consumes_by g read exact e tokens x h in
      exact_repetition g read exact e m x.1 (omega arith))

  -- a reading is exact where that of each rule is
  pub exact_by : (R : (i : I) → List Lexeme → Read (E i)) → ((i : I) (tokens : List Lexeme)
      → Exact s (nonterminal i) (R i) tokens (R i tokens)) → {A : Type 0} (g : Grammar I E A) → is_clean s g ≡ true
      → (tokens : List Lexeme) → Exact s g (read_by s R g) tokens (read_by s R g tokens)
  exact_by R rules (terminal c) e tokens = exact_terminal s c tokens
  exact_by R rules (empty x) e tokens =
      record { front = []; split = refl; phrase = record { depth = 0; is = (refl, refl) }; again = λ others _. refl }
  exact_by R rules (sequence g h) e tokens =
      let parts : (is_clean s g && is_clean s h ≡ true) × (are_apart (follow s g) (first s h) ≡ true) = and_parts _ _ e in
      let each : (is_clean s g ≡ true) × (is_clean s h ≡ true) = and_parts _ _ parts.0 in
      exact_sequence g h (read_by s R g) (read_by s R h) tokens (exact_by R rules g each.0 tokens)
      (λ x _. exact_by R rules h each.1 x.1)
  exact_by R rules (choice g h) e tokens =
      let parts : (is_clean s g && is_clean s h && not (can_be_empty g) ≡ true)
      × (are_apart (first s g) (first s h) ≡ true) = and_parts _ _ e in
      let parts2 : (is_clean s g && is_clean s h ≡ true) × (not (can_be_empty g) ≡ true) = and_parts _ _ parts.0 in
      let each : (is_clean s g ≡ true) × (is_clean s h ≡ true) = and_parts _ _ parts2.0 in
      chosen (Exact s (choice g h) (read_by s R (choice g h)) tokens) (next_in (first s g) tokens)
      (read_by s R g tokens) (read_by s R h tokens)
      (λ f. carry s g (choice g h) (read_by s R g) (read_by s R (choice g h)) tokens
      (λ front tree p. record { depth = p.depth; is = inl p.is })
      (λ others k. ap (λ b. cond b (read_by s R g others) (read_by s R h others))
      (next_alike (first s g) others tokens k ∙ f))
      (read_by s R g tokens) (exact_by R rules g each.0 tokens))
      (λ f. carry s h (choice g h) (read_by s R h) (read_by s R (choice g h)) tokens
      (λ front tree p. record { depth = p.depth; is = inr p.is })
      (λ others k. ap (λ b. cond b (read_by s R g others) (read_by s R h others))
      (next_alike (first s g) others tokens k ∙ f))
      (read_by s R h tokens) (exact_by R rules h each.1 tokens))
  exact_by R rules (action f g) e tokens =
      exact_action s f g (read_by s R g) tokens (read_by s R g tokens) (exact_by R rules g e tokens)
  exact_by R rules (repetition g) e tokens =
      let parts : (is_clean s g && not (can_be_empty g) ≡ true) × (are_apart (follow s g) (first s g) ≡ true) =
      and_parts _ _ e in
      let each : (is_clean s g ≡ true) × (not (can_be_empty g) ≡ true) = and_parts _ _ parts.0 in
      exact_repetition g (read_by s R g) (exact_by R rules g each.0) (not-true _ each.1) (length tokens) tokens
      (omega arith)
  exact_by R rules (nonterminal i) e tokens = rules i tokens
