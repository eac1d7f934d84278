-- What a loop over a list keeps, by what reading an item gives.
use Rattle.std.specs.Prelude.{ℕ, suc, ◌≡◌, Bool, true, false, cond, ◌<◌, List, [], ◌∷◌, ◌++◌, length, Result, Ok, Err}
use Rattle.std.proofs.Common.{refl, ap, sym, ◌∙◌, append_assoc, arith}
use Rattle.std.proofs.lemmas.List.{append-nil}
use Rattle.qc_text.specs.declared.token.Kind.TheVariants.{Name}
use Rattle.qc_grammar.specs.declared.cursor.Stop.{Stop}
use Rattle.qc_grammar.specs.declared.cursor.Stop.TheVariants.{At, NoMemory}
use Rattle.qc_grammar.specs.Lexeme.{Class, Word, Any, Lexeme, same_class, ident_of}
use Rattle.qc_grammar.specs.Grammar.{Grammar, Syntax}
use Rattle.qc_grammar.specs.Reading.{Read, then_read, read_ident, next_in, can_be_empty, reads}
use Rattle.qc_grammar.specs.ReaderResult.{Gives, GivesAfter}
pub use Rattle.qc_grammar.specs.Lists.{Shortens}
use Rattle.qc_grammar.specs.Lists.{many, next_reading, separated_reading}
use Rattle.qc_grammar.specs.Law.Exactness.{consumes_by}
use Rattle.qc_grammar.specs.Law.Fuel.{exact}
use Rattle.qc_grammar.specs.Law.LL1.{is_clean, IsClean}
use Rattle.qc_grammar.specs.Law.Loops.{after_items}
use Rattle.qc_grammar.specs.Law.Repeating.{step, one_more}

-- a name has a token
pub name_shortens : Shortens (read_ident Name)
name_shortens [] x e = cc e
name_shortens (t ∷ ts) x e = go (same_class t.class (Any Name)) e
  where
    go : (b : Bool)
        → then_read {A = Lexeme} (cond b (Ok (t, ts)) (Err (suc (length ts)))) (λ token rest. Ok (ident_of token, rest)) ≡ Ok x
        → length x.1 < suc (length ts)
    go true f = let same : x.1 ≡ ts = cc f in omega (arith, ap length same)
    go false f = cc f

-- a separator and an item have a token, where an item has one
pub next_shortens : {A : Type 0} (read : List Lexeme → Read A) (separator : List ℕ) → Shortens read
    → Shortens (next_reading read separator)
next_shortens {A} read separator shortens [] x e = cc e
next_shortens {A} read separator shortens (t ∷ ts) x e = go (same_class t.class (Word separator)) refl
  where
    whole : Bool → Read A
    whole b =
        then_read {A = ℕ × A} {B = A}
        (then_read {A = ℕ} {B = ℕ × A}
        (then_read {A = Lexeme} {B = ℕ} (cond b (Ok (t, ts)) (Err (suc (length ts))))
        (λ token rest. Ok (token.number, rest)))
        (λ n rest. then_read {A = A} {B = ℕ × A} (read rest) (λ y last. Ok ((n, y), last))))
        (λ p rest. Ok (p.1, rest))

    found : (r : Read A) → read ts ≡ r
        → then_read {A = ℕ × A} {B = A} (then_read {A = A} {B = ℕ × A} r (λ y last. Ok ((t.number, y), last)))
        (λ p rest. Ok (p.1, rest)) ≡ Ok x
        → length x.1 < suc (length ts)
    found (Ok y) f g =
        let shorter : length y.1 < length ts = shortens ts y f in
        let same : y.1 ≡ x.1 = cc g in
        omega (arith, shorter, ap length same)
    found (Err left) f g = cc g

    go : (b : Bool) → same_class t.class (Word separator) ≡ b → length x.1 < suc (length ts)
    go true f = found (read ts) refl (sym (ap whole f) ∙ e)
    go false f = cc (sym (ap whole f) ∙ e)

module _ {A : Type 0} (read : List Lexeme → Read A) (classes : List Class) (shortens : Shortens read) where
  -- one more item was read
  pub goes_on : (items : List A) (x : A) (tokens rest : List Lexeme) → next_in classes tokens ≡ true
      → read tokens ≡ Ok (x, rest)
      → after_items items (many read classes tokens) ≡ after_items (items ++ x ∷ []) (many read classes rest)
  goes_on items x tokens rest e f =
      ap (after_items items) (step read classes shortens tokens
      ∙ ap (λ b. cond b (one_more read (many read classes) tokens) (Ok ([], tokens))) e
      ∙ ap (λ r. then_read {A = A × List A}
      (then_read r (λ y last. then_read (many read classes last) (λ ys end. Ok ((y, ys), end))))
      (λ q last. Ok (q.0 ∷ q.1, last))) f)
      ∙ joined (many read classes rest)
    where
      joined : (r : Read (List A))
          → after_items items
          (then_read {A = A × List A} (then_read r (λ ys end. Ok ((x, ys), end))) (λ q last. Ok (q.0 ∷ q.1, last)))
          ≡ after_items (items ++ x ∷ []) r
      joined (Ok y) = ap (λ ys. Ok (ys, y.1)) (sym (append_assoc items (x ∷ []) y.0))
      joined (Err left) = refl

  -- no more item comes
  pub ends : (items : List A) (tokens : List Lexeme) → next_in classes tokens ≡ false
      → after_items items (many read classes tokens) ≡ Ok (items, tokens)
  ends items tokens e =
      ap (after_items items) (step read classes shortens tokens
      ∙ ap (λ b. cond b (one_more read (many read classes) tokens) (Ok ([], tokens))) e)
      ∙ ap (λ xs. Ok (xs, tokens)) (append-nil items)

  -- the next item stopped
  pub stops : (items : List A) (tokens : List Lexeme) (left : ℕ) → next_in classes tokens ≡ true
      → read tokens ≡ Err left → after_items items (many read classes tokens) ≡ Err left
  stops items tokens left e f =
      ap (after_items items) (step read classes shortens tokens
      ∙ ap (λ b. cond b (one_more read (many read classes) tokens) (Ok ([], tokens))) e
      ∙ ap (λ r. then_read {A = A × List A}
      (then_read r (λ y last. then_read (many read classes last) (λ ys end. Ok ((y, ys), end))))
      (λ q last. Ok (q.0 ∷ q.1, last))) f)

  -- the function returns what stopped the next item
  pub error : (items : List A) (tokens : List Lexeme) → next_in classes tokens ≡ true
      → (why : Stop) (new : List Lexeme) → Gives {A = A} (Err why) tokens new read
      → (old : List Lexeme) (all : List Lexeme → Read (List A))
      → after_items items (many read classes tokens) ≡ all old → Gives {A = List A} (Err why) old new all
  error items tokens e (At left) new p old all f = sym f ∙ stops items tokens left e p
  error items tokens e NoMemory new p old all f = tt

  -- the items are the first one that came before the loop, and those that reading gives
  pub all_after : (first : A) (items : List A) (old new : List Lexeme)
      → after_items (first ∷ []) (many read classes old) ≡ Ok (items, new)
      → (others : List A) × (items ≡ first ∷ others) × (many read classes old ≡ Ok (others, new))
  all_after first items old new e = go (many read classes old) e
    where
      go : (r : Read (List A)) → after_items (first ∷ []) r ≡ Ok (items, new)
          → (others : List A) × (items ≡ first ∷ others) × (r ≡ Ok (others, new))
      go (Ok y) f =
          let same : ◌≡◌ {A = List A × List Lexeme} (first ∷ y.0, y.1) (items, new) = cc f in
          (y.0, sym (ap (λ p. p.0) same), ap (λ p. Ok (y.0, p.1)) same)
      go (Err left) f = cc f

  -- what stopped after the first
  pub none_after : (first : A) (old : List Lexeme) (why : Stop) (new : List Lexeme)
      → Gives {A = List A} (Err why) old new (λ tokens. after_items (first ∷ []) (many read classes tokens))
      → Gives {A = List A} (Err why) old new (many read classes)
  none_after first old NoMemory new p = tt
  none_after first old (At left) new p = go (many read classes old) p
    where
      go : (r : Read (List A)) → after_items (first ∷ []) r ≡ Err left → r ≡ Err left
      go (Ok y) f = cc f
      go (Err n) f = cc f

-- the first item was read, and then the others
pub all_given : {A : Type 0} (read : List Lexeme → Read A) (separator : List ℕ) (first : A) (old middle new : List Lexeme)
    (result : Result (List A) Stop) → Gives (Ok first) old middle read
    → GivesAfter first result middle new (many (next_reading read separator) (Word separator ∷ []))
    → Gives result old new (separated_reading read separator)
all_given {A} read separator first old middle new result e given = go result given
  where
    others : List Lexeme → Read (List A)
    others = many (next_reading read separator) (Word separator ∷ [])

    after : Read (List A) → Read (List A)
    after r = then_read {A = A × List A} (then_read r (λ y last. Ok ((first, y), last))) (λ p rest. Ok (p.0 ∷ p.1, rest))

    whole : separated_reading read separator old ≡ after (others middle)
    whole =
        ap (λ r. then_read {A = A × List A} (then_read r (λ x rest. then_read (others rest) (λ y last. Ok ((x, y), last))))
        (λ p rest. Ok (p.0 ∷ p.1, rest))) e.0

    go : (r : Result (List A) Stop) → GivesAfter first r middle new others
        → Gives r old new (separated_reading read separator)
    go (Ok xs) (rest, is, g) =
        (whole ∙ ap after g.0 ∙ ap (λ ys. Ok (ys, new)) (sym is), omega (arith, g.1, e.1))
    go (Err (At left)) g = whole ∙ ap after g
    go (Err NoMemory) g = tt

-- a phrase of a grammar that can't be empty has a token
pub shortens_of : {I : Type 0} {E : I → Type 0} (s : Syntax I E) → IsClean s → {A : Type 0} (g : Grammar I E A)
    → is_clean s g ≡ true → can_be_empty g ≡ false → Shortens (reads s g)
shortens_of s clean g e f = consumes_by s clean g (reads s g) (exact s clean g e) f
