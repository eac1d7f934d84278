-- What a loop over a repetition keeps.
use Rattle.std.specs.Prelude.{ℕ, ◌≡◌, true, false, not, cond, ◌&&◌, ◌<◌, List, [], ◌∷◌, ◌++◌, length, Result, Ok, Err}
use Rattle.std.proofs.Common.{refl, ap, sym, ◌∙◌, append_assoc}
use Rattle.std.proofs.lemmas.List.{append-nil}
use Rattle.std.proofs.lemmas.Bool.{and_parts, not-true}
use Rattle.qc_grammar.specs.declared.cursor.Stop.{Stop}
use Rattle.qc_grammar.specs.declared.cursor.Stop.TheVariants.{At, NoMemory}
use Rattle.qc_grammar.specs.Lexeme.{Lexeme}
use Rattle.qc_grammar.specs.Grammar.{Grammar, repetition, Syntax}
use Rattle.qc_grammar.specs.Reading.{Read, then_read, next_in, can_be_empty, first, reads}
use Rattle.qc_grammar.specs.ReaderResult.{Gives}
use Rattle.qc_grammar.specs.Law.LL1.{is_clean, are_apart, follow, IsClean}
use Rattle.qc_grammar.specs.Lists.{many}
use Rattle.qc_grammar.specs.Law.Repeating.{step, one_more}
use Rattle.qc_grammar.specs.Law.Exactness.{consumes_by}
use Rattle.qc_grammar.specs.Law.Fuel.{exact}

-- the items so far, and then those that reading gives
abbrev pub after_items : {A : Type 0} → List A → Read (List A) → Read (List A)
after_items items read = then_read read (λ more rest. Ok (items ++ more, rest))

-- nothing so far
pub after_none : {A : Type 0} (read : Read (List A)) → after_items [] read ≡ read
after_none (Ok x) = refl
after_none (Err left) = refl

-- one item was read, and then come those that reading gives
pub after_first : {A : Type 0} (read : List Lexeme → Read A) (more : List Lexeme
    → Read (List A)) (items : List A) (x : A) (tokens rest : List Lexeme) → items ≡ x ∷ []
    → read tokens ≡ Ok (x, rest) → after_items items (more rest) ≡ one_more read more tokens
after_first {A} read more items x tokens rest e f =
    ap (λ xs. after_items xs (more rest)) e ∙ joined (more rest)
    ∙ sym (ap
    (λ r. then_read {A = A × List A} (then_read r (λ y last. then_read (more last) (λ ys end. Ok ((y, ys), end))))
    (λ p last. Ok (p.0 ∷ p.1, last))) f)
  where
    joined : (r : Read (List A))
        → after_items (x ∷ []) r ≡ then_read {A = A × List A} (then_read r (λ xs rest. Ok ((x, xs), rest)))
        (λ p rest. Ok (p.0 ∷ p.1, rest))
    joined (Ok y) = refl
    joined (Err left) = refl

module _ {I : Type 0} {E : I → Type 0} (s : Syntax I E) (clean : IsClean s) {A : Type 0} (g : Grammar I E A)
    (repeats : is_clean s (repetition g) ≡ true) where
  one_step : (tokens : List Lexeme)
      → reads s (repetition g) tokens ≡ cond (next_in (first s g) tokens)
      (one_more (reads s g) (many (reads s g) (first s g)) tokens) (Ok ([], tokens))
  one_step tokens =
      let parts : (is_clean s g && not (can_be_empty g) ≡ true) × (are_apart (follow s g) (first s g) ≡ true) =
      and_parts _ _ repeats in
      let each : (is_clean s g ≡ true) × (not (can_be_empty g) ≡ true) = and_parts _ _ parts.0 in
      step (reads s g) (first s g) (consumes_by s clean g (reads s g) (exact s clean g each.0) (not-true _ each.1)) tokens

  -- one more item was read
  pub loop_goes_on : (items : List A) (x : A) (tokens rest : List Lexeme) → next_in (first s g) tokens ≡ true
      → reads s g tokens ≡ Ok (x, rest)
      → after_items items (reads s (repetition g) tokens) ≡ after_items (items ++ x ∷ []) (reads s (repetition g) rest)
  loop_goes_on items x tokens rest e f =
      ap (after_items items) (one_step tokens
      ∙ ap (λ b. cond b (one_more (reads s g) (many (reads s g) (first s g)) tokens) (Ok ([], tokens))) e
      ∙ ap (λ r. then_read {A = A × List A}
      (then_read r (λ y last. then_read (many (reads s g) (first s g) last) (λ ys end. Ok ((y, ys), end))))
      (λ q last. Ok (q.0 ∷ q.1, last))) f)
      ∙ joined (reads s (repetition g) rest)
    where
      joined : (r : Read (List A))
          → after_items items
          (then_read {A = A × List A} (then_read r (λ ys end. Ok ((x, ys), end))) (λ q last. Ok (q.0 ∷ q.1, last)))
          ≡ after_items (items ++ x ∷ []) r
      joined (Ok y) = ap (λ ys. Ok (ys, y.1)) (sym (append_assoc items (x ∷ []) y.0))
      joined (Err left) = refl

  -- no more item comes
  pub loop_ends : (items : List A) (tokens : List Lexeme) → next_in (first s g) tokens ≡ false
      → after_items items (reads s (repetition g) tokens) ≡ Ok (items, tokens)
  loop_ends items tokens e =
      ap (after_items items) (one_step tokens
      ∙ ap (λ b. cond b (one_more (reads s g) (many (reads s g) (first s g)) tokens) (Ok ([], tokens))) e)
      ∙ ap (λ xs. Ok (xs, tokens)) (append-nil items)

  -- the next item stopped
  pub loop_stops : (items : List A) (tokens : List Lexeme) (left : ℕ) → next_in (first s g) tokens ≡ true
      → reads s g tokens ≡ Err left → after_items items (reads s (repetition g) tokens) ≡ Err left
  loop_stops items tokens left e f =
      ap (after_items items) (one_step tokens
      ∙ ap (λ b. cond b (one_more (reads s g) (many (reads s g) (first s g)) tokens) (Ok ([], tokens))) e
      ∙ ap (λ r. then_read {A = A × List A}
      (then_read r (λ y last. then_read (many (reads s g) (first s g) last) (λ ys end. Ok ((y, ys), end))))
      (λ q last. Ok (q.0 ∷ q.1, last))) f)

  -- the function returns what stopped the next item
  pub loop_error : (items : List A) (tokens : List Lexeme) → next_in (first s g) tokens ≡ true
      → (why : Stop) (new : List Lexeme) → Gives {A = A} (Err why) tokens new (reads s g)
      → (old : List Lexeme) (read : List Lexeme → Read (List A))
      → after_items items (reads s (repetition g) tokens) ≡ read old → Gives {A = List A} (Err why) old new read
  loop_error items tokens e (At left) new p old read f = sym f ∙ loop_stops items tokens left e p
  loop_error items tokens e NoMemory new p old read f = tt

  -- an item has a token
  pub loop_shortens : (x : A) (tokens rest : List Lexeme) → reads s g tokens ≡ Ok (x, rest)
      → length rest < length tokens
  loop_shortens x tokens rest e =
      let parts : (is_clean s g && not (can_be_empty g) ≡ true) × (are_apart (follow s g) (first s g) ≡ true) =
      and_parts _ _ repeats in
      let each : (is_clean s g ≡ true) × (not (can_be_empty g) ≡ true) = and_parts _ _ parts.0 in
      consumes_by s clean g (reads s g) (exact s clean g each.0) (not-true _ each.1) tokens (x, rest) e

-- a function that returned what one reading gives returned what one that reads alike gives
pub gives_alike : {A : Type 0} (result : Result A Stop) (old new : List Lexeme) (read other : List Lexeme → Read A)
    → ((tokens : List Lexeme) → other tokens ≡ read tokens) → Gives result old new read → Gives result old new other
gives_alike (Ok x) old new read other e g = (e old ∙ g.0, g.1)
gives_alike (Err (At left)) old new read other e g = e old ∙ g
gives_alike (Err NoMemory) old new read other e g = tt
