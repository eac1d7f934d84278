-- A reader of a readable grammar has one answer to each text, and reading gives it.
use Rattle.std.specs.Prelude.{ℕ, zero, suc, ◌≡◌, ◌+◌, ◌-◌, ◌≤◌, ◌<◌, true, false, ◌||◌, List, [], ◌∷◌, ◌++◌, length, take, Option, Some, None, Result, Ok, Err}
use Rattle.std.proofs.Common.{refl, ap, sym, ◌∙◌, inl, inr, subst, append_assoc, arith}
use Rattle.std.proofs.Math.Seq.{take-append_seam}
use Rattle.std.proofs.lemmas.Bool.{and_parts, both_ways, cases_lt, or_left, or_right}
use Rattle.std.proofs.lemmas.List.{take-take, length-take-le, length-append, append-nil}
use Rattle.std.proofs.lemmas.List.Folds.{list_any-append}
use Rattle.qc_text.specs.declared.token.Kind.TheVariants as kind
use Rattle.qc_grammar.specs.declared.cursor.Stop.{Stop}
use Rattle.qc_grammar.specs.declared.cursor.Stop.TheVariants as stop
use Rattle.qc_grammar.specs.declared.cursor.Stop.TheVariants.{At}
use Rattle.qc_grammar.specs.declared.cursor.ReadError.{ReadError}
use Rattle.qc_grammar.specs.declared.cursor.ReadError.TheVariants.{Syntax, TooDeep, NoMemory}
use Rattle.qc_grammar.specs.Lexeme.{Any, Lexeme, same_class}
use Rattle.qc_grammar.specs.Grammar as grammar
use Rattle.qc_grammar.specs.Grammar.{Grammar}
use Rattle.qc_grammar.specs.Language.{IsPhrase, Begins}
use Rattle.qc_grammar.specs.Reading.{reads}
use Rattle.qc_grammar.specs.Law.LL1.{is_clean, IsReadable}
use Rattle.qc_grammar.specs.Grammar.{text}
use Rattle.qc_grammar.specs.Brackets.{is_shallow, first_too_deep}
use Rattle.qc_grammar.specs.ReaderResult.{Gives}
use Rattle.qc_grammar.specs.Answer.{IsSyntax, IsAnswer, Answers, EndsText, cut, at_the_end, settled}
use Rattle.qc_grammar.specs.Law.Tests.{class_alike, next_class}
use Rattle.qc_grammar.specs.Law.Exactness.{Found, Stopped, Exact}
use Rattle.qc_grammar.specs.Law.Fuel.{exact}
use Rattle.qc_grammar.specs.Law.Complete.{complete_whole}
use Rattle.qc_grammar.specs.Law.Fronts.{take_one_more, begins_take, phrase_begins, shallow_take, shallow_all, none_too_deep, some_too_deep, FirstTooDeep, has_end, no_end_inside}

-- the tokens that a reader is given are a front of the text, and before their last no bracket is too deep
pub record IsCut (tokens given : List Lexeme) : Type 0 where
  pub within : length given ≤ length tokens
  pub same : (j : ℕ) → j ≤ length given → take j given ≡ take j tokens
  pub shallow : (j : ℕ) → j < length given → is_shallow 0 (take j tokens) ≡ true

pub cut_facts : (tokens : List Lexeme) (deep : Option ℕ) → first_too_deep 0 tokens ≡ deep
    → IsCut tokens (cut deep tokens)
cut_facts tokens None e =
    record {
      within = omega arith;
      same = λ j le. refl;
      shallow = λ j lt. shallow_all 0 tokens j (none_too_deep 0 tokens e);
    }
cut_facts tokens (Some k) e =
    let first : FirstTooDeep 0 tokens k = some_too_deep 0 tokens k e in
    let size : length (take (suc k) tokens) ≡ suc k =
    length-take-le (suc k) tokens (let lt : k < length tokens = first.within in omega arith) in
    record {
      within = let lt : k < length tokens = first.within in omega arith;
      same = λ j le. take-take j (suc k) tokens (omega arith);
      shallow = λ j lt. shallow_take 0 tokens j k (omega arith) first.shallow;
    }

module _ {I : Type 0} {E : I → Type 0} (s : grammar.Syntax I E) {A : Type 0} (g : Grammar I E A)
    (readable : IsReadable s g) where
  text_clean : is_clean s (text g) ≡ true
  text_clean = (and_parts _ _ readable.start).0

  -- two answers to a text are one
  at_most_one : (tokens : List Lexeme) (answer other : Result A ReadError) → IsAnswer s g tokens answer
      → IsAnswer s g tokens other → answer ≡ other
  at_most_one tokens (Ok a) (Ok b) p q =
      let one : reads s (text g) tokens ≡ Ok (a, []) =
      complete_whole s readable.rules (text g) text_clean tokens a p.phrase in
      let two : reads s (text g) tokens ≡ Ok (b, []) =
      complete_whole s readable.rules (text g) text_clean tokens b q.phrase in
      let x : A × List Lexeme = (a, []) in
      let y : A × List Lexeme = (b, []) in
      let both : x ≡ y = cc in
      ap (λ (z : A × List Lexeme). Ok z.0) both
  at_most_one tokens (Ok a) (Err (Syntax n)) p q = absurd (q.none (phrase_begins s (text g) tokens a p.phrase (suc n)))
  at_most_one tokens (Ok a) (Err (TooDeep n)) p q = absurd (both_ways _ q.deep (shallow_all 0 tokens (suc n) p.shallow))
  at_most_one tokens (Ok a) (Err NoMemory) p q = absurd q
  at_most_one tokens (Err (Syntax m)) (Ok b) p q = absurd (p.none (phrase_begins s (text g) tokens b q.phrase (suc m)))
  at_most_one tokens (Err (Syntax m)) (Err (Syntax n)) p q = elim (cases_lt m n) [
    | inl lt ↦ absurd (p.none (begins_take s (text g) tokens (suc m) n lt q.before))
    | inr le ↦ elim (cases_lt n m) [
      | inl lt ↦ absurd (q.none (begins_take s (text g) tokens (suc n) m lt p.before))
      | inr ge ↦ ap (λ k. Err (Syntax k)) (omega arith)
    ]
  ]
  at_most_one tokens (Err (Syntax m)) (Err (TooDeep n)) p q = elim (cases_lt n m) [
    | inl lt ↦ absurd (both_ways _ q.deep (shallow_take 0 tokens (suc n) m lt p.shallow))
    | inr le ↦ absurd (p.none (begins_take s (text g) tokens (suc m) (suc n) (omega arith) q.with_it))
  ]
  at_most_one tokens (Err (Syntax m)) (Err NoMemory) p q = absurd q
  at_most_one tokens (Err (TooDeep m)) (Ok b) p q = absurd (both_ways _ p.deep (shallow_all 0 tokens (suc m) q.shallow))
  at_most_one tokens (Err (TooDeep m)) (Err (Syntax n)) p q = elim (cases_lt m n) [
    | inl lt ↦ absurd (both_ways _ p.deep (shallow_take 0 tokens (suc m) n lt q.shallow))
    | inr le ↦ absurd (q.none (begins_take s (text g) tokens (suc n) (suc m) (omega arith) p.with_it))
  ]
  at_most_one tokens (Err (TooDeep m)) (Err (TooDeep n)) p q = elim (cases_lt m n) [
    | inl lt ↦ absurd (both_ways _ p.deep (shallow_take 0 tokens (suc m) n lt q.shallow))
    | inr le ↦ elim (cases_lt n m) [
      | inl lt ↦ absurd (both_ways _ q.deep (shallow_take 0 tokens (suc n) m lt p.shallow))
      | inr ge ↦ ap (λ k. Err (TooDeep k)) (omega arith)
    ]
  ]
  at_most_one tokens (Err (TooDeep m)) (Err NoMemory) p q = absurd q
  at_most_one tokens (Err NoMemory) other p q = absurd p

  -- nothing begins with the front and the next token, where reading stopped between them, or found a tree
  none_after_stop : (front : List Lexeme) (t : Lexeme) → ((more : List Lexeme)
      → reads s (text g) (front ++ t ∷ more) ≡ Err (suc (length more))) → Begins s (text g) (front ++ t ∷ []) → ⊥
  none_after_stop front t again b =
      let whole : reads s (text g) (front ++ t ∷ b.more) ≡ Ok (b.tree, []) =
      complete_whole s readable.rules (text g) text_clean (front ++ t ∷ b.more) b.tree
      (subst (λ ts. IsPhrase s (text g) ts b.tree) (append_assoc front (t ∷ []) b.more) b.phrase) in
      let stopped : reads s (text g) (front ++ t ∷ b.more) ≡ Err (suc (length b.more)) = again b.more in
      cc

  none_after_tree : (front : List Lexeme) (tree : A) (t : Lexeme) → ((more : List Lexeme)
      → reads s (text g) (front ++ t ∷ more) ≡ Ok (tree, t ∷ more)) → Begins s (text g) (front ++ t ∷ []) → ⊥
  none_after_tree front tree t again b =
      let whole : reads s (text g) (front ++ t ∷ b.more) ≡ Ok (b.tree, []) =
      complete_whole s readable.rules (text g) text_clean (front ++ t ∷ b.more) b.tree
      (subst (λ ts. IsPhrase s (text g) ts b.tree) (append_assoc front (t ∷ []) b.more) b.phrase) in
      let found : reads s (text g) (front ++ t ∷ b.more) ≡ Ok (tree, t ∷ b.more) = again b.more in
      let x : A × List Lexeme = (b.tree, []) in
      let y : A × List Lexeme = (tree, t ∷ b.more) in
      let same : x ≡ y = cc in
      let lists : [] ≡ t ∷ b.more = ap (λ (z : A × List Lexeme). z.1) same in
      cc

  -- the first token with which no text begins, among those that the reader is given
  syntax_at : (tokens given : List Lexeme) → IsCut tokens given
      → (front : List Lexeme) (t : Lexeme) (rest : List Lexeme) (n : ℕ) → given ≡ front ++ t ∷ rest
      → length (t ∷ rest) ≡ n → Begins s (text g) front → (Begins s (text g) (front ++ t ∷ []) → ⊥)
      → IsSyntax s g tokens (length given - n)
  syntax_at tokens given c front t rest n split left before none =
      let size : length given ≡ length front + n = ap length split ∙ length-append front (t ∷ rest)
      ∙ ap (λ k. length front + k) left in
      let place : length front ≡ length given - n = omega arith in
      let some : 0 < n = omega (arith, left) in
      let lt : length front < length given = omega arith in
      subst (IsSyntax s g tokens) place
      (record {
        within = omega (arith, c.within);
        before = subst (Begins s (text g)) (sym (ap (take (length front)) split ∙ take-append_seam front (t ∷ rest))
            ∙ c.same (length front) (omega arith)) before;
        none = λ b. none
            (subst (Begins s (text g)) (sym (c.same (suc (length front)) lt) ∙ ap (take (suc (length front))) split
            ∙ take_one_more front t rest) b);
        shallow = c.shallow (length front) lt;
      })

  -- no text begins with a whole text and more
  ends_there : (tokens : List Lexeme) → EndsText tokens → Begins s (text g) tokens
      → (tree : A) × IsPhrase s (text g) tokens tree
  ends_there tokens ends b = go b.more b.phrase
    where
      inner : (front : List Lexeme) (x : Lexeme) (us : List Lexeme) (m : Lexeme) (ms : List Lexeme)
          → us ++ m ∷ ms ≡ front ++ x ∷ [] → (zs : List Lexeme) × (front ≡ us ++ zs)
      inner front x [] m ms e = (front, refl)
      inner [] x (u ∷ us) m ms e = absurd (omega (arith, ap length e, length-append us (m ∷ ms)))
      inner (f ∷ fs) x (u ∷ us) m ms e =
          let tails : us ++ m ∷ ms ≡ fs ++ x ∷ [] = cc in
          let heads : f ≡ u = cc in
          let more : (zs : List Lexeme) × (fs ≡ us ++ zs) = inner fs x us m ms tails in
          (more.0, ap (λ y. y ∷ fs) heads ∙ ap (λ ts. u ∷ ts) more.1)

      ended : has_end tokens ≡ true
      ended =
          ap has_end ends.split ∙ list_any-append (λ t. same_class t.class (Any kind.End)) ends.front (ends.last ∷ [])
          ∙ or_right (has_end ends.front) _ (ap (λ d. same_class d (Any kind.End) || false) ends.end
          ∙ ap (λ b. b || false) (class_alike (Any kind.End)))

      go : (more : List Lexeme) → IsPhrase s (text g) (tokens ++ more) b.tree
          → (tree : A) × IsPhrase s (text g) tokens tree
      go [] p = (b.tree, subst (λ ts. IsPhrase s (text g) ts b.tree) (append-nil tokens) p)
      go (m ∷ ms) p =
          let both = p.is.1 in
          let cut_off : (zs : List Lexeme) × (both.0 ≡ tokens ++ zs) =
          inner both.0 both.4.0 tokens m ms (both.2 ∙ ap (λ ts. both.0 ++ ts) both.4.1.0) in
          let none : has_end both.0 ≡ false =
          no_end_inside s readable.rules g (and_parts _ _ readable.start).1 both.0 p.is.0.0
          (record { depth = p.depth; is = both.3 }) in
          let some : has_end both.0 ≡ true =
          ap has_end cut_off.1 ∙ list_any-append (λ t. same_class t.class (Any kind.End)) tokens cut_off.0
          ∙ or_left _ (has_end cut_off.0) ended in
          absurd (both_ways _ none some)

  -- what reading gives is an answer
  is_answer : (tokens : List Lexeme) → EndsText tokens → (deep : Option ℕ) → first_too_deep 0 tokens ≡ deep
      → (result : Result A Stop) (new : List Lexeme) → Gives result (cut deep tokens) new (reads s (text g))
      → (result ≡ Err stop.NoMemory → ⊥)
      → IsAnswer s g tokens (settled result deep (length (cut deep tokens)) (length new))
  is_answer tokens ends deep e (Ok tree) [] gives told =
      let at : Found s (text g) (reads s (text g)) (cut deep tokens) tree [] =
      subst (Exact s (text g) (reads s (text g)) (cut deep tokens)) gives.0
      (exact s readable.rules (text g) text_clean (cut deep tokens)) in
      let whole : IsPhrase s (text g) (cut deep tokens) tree =
      subst (λ ts. IsPhrase s (text g) ts tree) (sym (append-nil at.front) ∙ sym at.split) at.phrase in
      at_end deep e whole
    where
      at_end : (o : Option ℕ) → first_too_deep 0 tokens ≡ o → IsPhrase s (text g) (cut o tokens) tree
          → IsAnswer s g tokens (at_the_end o (Ok tree))
      at_end None f p = record { phrase = p; shallow = none_too_deep 0 tokens f }
      at_end (Some k) f p =
          let first : FirstTooDeep 0 tokens k = some_too_deep 0 tokens k f in
          record {
            within = first.within;
            with_it =
                subst (Begins s (text g)) (take-take (suc k) (suc k) tokens (omega arith))
                (phrase_begins s (text g) (take (suc k) tokens) tree p (suc k));
            shallow = first.shallow;
            deep = first.deep;
          }
  is_answer tokens ends deep e (Ok tree) (t ∷ rest) gives told =
      let at : Found s (text g) (reads s (text g)) (cut deep tokens) tree (t ∷ rest) =
      subst (Exact s (text g) (reads s (text g)) (cut deep tokens)) gives.0
      (exact s readable.rules (text g) text_clean (cut deep tokens)) in
      syntax_at tokens (cut deep tokens) (cut_facts tokens deep e) at.front t rest (length (t ∷ rest)) at.split refl
      (record {
        more = [];
        tree = tree;
        phrase =
            subst (λ ts. IsPhrase s (text g) ts tree) (sym (append-nil at.front)) at.phrase;
      })
      (none_after_tree at.front tree t (λ more. at.again (t ∷ more) refl))
  is_answer tokens ends deep e (Err (At zero)) new gives told =
      let at : Stopped s (text g) (reads s (text g)) (cut deep tokens) 0 =
      subst (Exact s (text g) (reads s (text g)) (cut deep tokens)) gives
      (exact s readable.rules (text g) text_clean (cut deep tokens)) in
      at_end deep e gives (none_left at.front at.rest at.split at.left_is at.begins)
    where
      none_left : (front rest : List Lexeme) → cut deep tokens ≡ front ++ rest → length rest ≡ 0
          → Begins s (text g) front → Begins s (text g) (cut deep tokens)
      none_left front [] f size b = subst (Begins s (text g)) (sym (append-nil front) ∙ sym f) b
      none_left front (t ∷ ts) f size b = absurd (omega arith)

      at_end : (o : Option ℕ) → first_too_deep 0 tokens ≡ o → reads s (text g) (cut o tokens) ≡ Err 0
          → Begins s (text g) (cut o tokens)
          → IsAnswer s g tokens (at_the_end o (Err (Syntax (length (cut o tokens)))))
      at_end None f stopped b =
          let p : (tree : A) × IsPhrase s (text g) tokens tree = ends_there tokens ends b in
          let found : reads s (text g) tokens ≡ Ok (p.0, []) =
          complete_whole s readable.rules (text g) text_clean tokens p.0 p.1 in
          absurd cc
      at_end (Some k) f stopped b =
          let first : FirstTooDeep 0 tokens k = some_too_deep 0 tokens k f in
          record { within = first.within; with_it = b; shallow = first.shallow; deep = first.deep }
  is_answer tokens ends deep e (Err (At (suc n))) new gives told =
      let at : Stopped s (text g) (reads s (text g)) (cut deep tokens) (suc n) =
      subst (Exact s (text g) (reads s (text g)) (cut deep tokens)) gives
      (exact s readable.rules (text g) text_clean (cut deep tokens)) in
      some_left at.front at.rest at.split at.left_is at.begins at.again
    where
      some_left : (front rest : List Lexeme) → cut deep tokens ≡ front ++ rest → length rest ≡ suc n
          → Begins s (text g) front → ((others : List Lexeme) → next_class others ≡ next_class rest
          → reads s (text g) (front ++ others) ≡ Err (length others))
          → IsSyntax s g tokens (length (cut deep tokens) - suc n)
      some_left front [] f size b again = absurd (omega arith)
      some_left front (t ∷ ts) f size b again =
          syntax_at tokens (cut deep tokens) (cut_facts tokens deep e) front t ts (suc n) f size b
          (none_after_stop front t (λ more. again (t ∷ more) refl))
  is_answer tokens ends deep e (Err stop.NoMemory) new gives told = absurd (told refl)

  one_answer : (tokens : List Lexeme) (answer : Result A ReadError) → IsAnswer s g tokens answer
      → Answers s g tokens answer
  one_answer tokens (Ok tree) p = record { is = p; only = λ other q. at_most_one tokens (Ok tree) other p q }
  one_answer tokens (Err (Syntax n)) p =
      record { is = p; only = λ other q. at_most_one tokens (Err (Syntax n)) other p q }
  one_answer tokens (Err (TooDeep n)) p =
      record { is = p; only = λ other q. at_most_one tokens (Err (TooDeep n)) other p q }
  one_answer tokens (Err NoMemory) p = absurd p

  -- A reader that was given the tokens up to the first bracket that is too deep, and gives what reading gives, has
  -- settled the one answer.
  pub answers : (tokens : List Lexeme) → EndsText tokens → (result : Result A Stop) (new : List Lexeme)
      → Gives result (cut (first_too_deep 0 tokens) tokens) new (reads s (text g))
      → Answers s g tokens
      (settled result (first_too_deep 0 tokens) (length (cut (first_too_deep 0 tokens) tokens)) (length new))
  answers tokens ends (Ok tree) new gives =
      one_answer tokens _ (is_answer tokens ends (first_too_deep 0 tokens) refl (Ok tree) new gives (λ e. cc))
  answers tokens ends (Err (At n)) new gives =
      one_answer tokens _ (is_answer tokens ends (first_too_deep 0 tokens) refl (Err (At n)) new gives (λ e. cc))
  answers tokens ends (Err stop.NoMemory) new gives = tt

  -- the same, where the code has these values
  pub answered : (tokens : List Lexeme) → EndsText tokens → (deep : Option ℕ) → deep ≡ first_too_deep 0 tokens
      → (given : List Lexeme) → given ≡ cut deep tokens → (result : Result A Stop) (new : List Lexeme)
      → Gives result given new (reads s (text g)) → (total left : ℕ) → total ≡ length given → left ≡ length new
      → (answer : Result A ReadError) → answer ≡ settled result deep total left → Answers s g tokens answer
  answered tokens ends deep e given f result new gives total left total_is left_is answer h =
      let given_is : given ≡ cut (first_too_deep 0 tokens) tokens = f ∙ ap (λ d. cut d tokens) e in
      subst (Answers s g tokens)
      (ap (λ d. settled result d (length (cut (first_too_deep 0 tokens) tokens)) (length new)) (sym e)
      ∙ ap (λ ts. settled result deep (length ts) (length new)) (sym given_is)
      ∙ ap (λ n. settled result deep n (length new)) (sym total_is) ∙ ap (settled result deep total) (sym left_is)
      ∙ sym h)
      (answers tokens ends result new (subst (λ ts. Gives result ts new (reads s (text g))) given_is gives))
