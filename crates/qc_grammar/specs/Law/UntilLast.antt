-- What a loop over items keeps that end with a phrase which may begin as they do.
use Rattle.std.specs.Prelude.{ℕ, zero, suc, ◌≡◌, ◌<◌, Bool, true, false, cond, List, [], ◌∷◌, ◌++◌, length, Ok, Err}
use Rattle.std.proofs.Common.{refl, ap, sym, ◌∙◌, append_assoc, arith}
use Rattle.std.proofs.lemmas.List.{append-nil}
use Rattle.qc_grammar.specs.declared.cursor.Stop.{Stop}
use Rattle.qc_grammar.specs.declared.cursor.Stop.TheVariants.{At, NoMemory}
use Rattle.qc_grammar.specs.declared.lists.ItemOrLast.{ItemOrLast}
use Rattle.qc_grammar.specs.declared.lists.ItemOrLast.TheVariants.{Item, Last}
use Rattle.qc_grammar.specs.Lexeme.{Class, Lexeme}
use Rattle.qc_grammar.specs.Grammar.{Grammar, sequence, choice, action, Syntax, headed, item_or_last, items_then_last}
use Rattle.qc_grammar.specs.Lists.{read_after, until_last, items_then_last_reading}
use Rattle.qc_grammar.specs.Reading.{Read, then_read, read_as, read_both, next_in, can_be_empty, first, reads}
use Rattle.qc_grammar.specs.ReaderResult.{Gives}
use Rattle.qc_grammar.specs.Law.Exactness.{consumes_by}
use Rattle.qc_grammar.specs.Law.Fuel.{exact}
use Rattle.qc_grammar.specs.Law.LL1.{is_clean, IsClean}
use Rattle.qc_grammar.specs.Law.Repeating.{then_alike}

-- An item has a token.
abbrev pub ItemsShorten : {A B : Type 0} → (List Lexeme → Read (ItemOrLast A B)) → Type 0
ItemsShorten {A} read = (tokens rest : List Lexeme) (x : A) → read tokens ≡ Ok (Item x, rest)
    → length rest < length tokens

-- what is read after an item matters only where one comes
after_alike : {A B : Type 0} (more other : List Lexeme → Read (List A × B)) (next : ItemOrLast A B)
    (tokens : List Lexeme) → ((x : A) → next ≡ Item x → more tokens ≡ other tokens)
    → read_after more next tokens ≡ read_after other next tokens
after_alike more other (Item x) tokens same =
    ap (λ r. then_read r (λ p rest. Ok ((x ∷ p.0, p.1), rest))) (same x refl)
after_alike more other (Last y) tokens same = refl

-- the items so far, and then what reading gives
abbrev pub after_list : {A B : Type 0} → List A → Read (List A × B) → Read (List A × B)
after_list items read = then_read read (λ p rest. Ok ((items ++ p.0, p.1), rest))

-- nothing so far
pub after_no_list : {A B : Type 0} (read : Read (List A × B)) → after_list [] read ≡ read
after_no_list (Ok x) = refl
after_no_list (Err left) = refl

module _ {A B : Type 0} (read : List Lexeme → Read (ItemOrLast A B)) (shortens : ItemsShorten read) where
  -- more fuel than tokens changes nothing
  enough_until : (m k : ℕ) (tokens : List Lexeme) → length tokens < m → length tokens < k
      → until_last read m tokens ≡ until_last read k tokens
  enough_until zero k tokens p q = absurd (omega arith)
  enough_until (suc m) zero tokens p q = absurd (omega arith)
  enough_until (suc m) (suc k) tokens p q =
      then_alike (read tokens) (read_after (until_last read m)) (read_after (until_last read k))
      (λ next e. after_alike (until_last read m) (until_last read k) next.0 next.1
      (λ x f. let shorter : length next.1 < length tokens =
      shortens tokens next.1 x (e ∙ ap (λ n. Ok (n, next.1)) f) in
      enough_until m k next.1 (omega arith) (omega arith)))

  -- one step
  step_until : (tokens : List Lexeme)
      → items_then_last_reading read tokens ≡ then_read (read tokens) (read_after (items_then_last_reading read))
  step_until tokens =
      then_alike (read tokens) (read_after (until_last read (length tokens)))
      (read_after (items_then_last_reading read))
      (λ next e. after_alike (until_last read (length tokens)) (items_then_last_reading read) next.0 next.1
      (λ x f. let shorter : length next.1 < length tokens =
      shortens tokens next.1 x (e ∙ ap (λ n. Ok (n, next.1)) f) in
      enough_until (length tokens) (suc (length next.1)) next.1 (omega arith) (omega arith)))

  -- one more item was read
  pub item_goes_on : (items : List A) (x : A) (tokens rest : List Lexeme) → read tokens ≡ Ok (Item x, rest)
      → after_list items (items_then_last_reading read tokens)
      ≡ after_list (items ++ x ∷ []) (items_then_last_reading read rest)
  item_goes_on items x tokens rest e =
      ap (after_list items)
      (step_until tokens ∙ ap (λ r. then_read r (read_after (items_then_last_reading read))) e)
      ∙ joined (items_then_last_reading read rest)
    where
      joined : (r : Read (List A × B))
          → after_list items (then_read r (λ p rest. Ok ((x ∷ p.0, p.1), rest))) ≡ after_list (items ++ x ∷ []) r
      joined (Ok y) = ap (λ ys. Ok ((ys, y.0.1), y.1)) (sym (append_assoc items (x ∷ []) y.0.0))
      joined (Err left) = refl

  -- the last phrase was read
  pub last_ends : (items : List A) (y : B) (tokens rest : List Lexeme) → read tokens ≡ Ok (Last y, rest)
      → after_list items (items_then_last_reading read tokens) ≡ Ok ((items, y), rest)
  last_ends items y tokens rest e =
      ap (after_list items)
      (step_until tokens ∙ ap (λ r. then_read r (read_after (items_then_last_reading read))) e)
      ∙ ap (λ xs. Ok ((xs, y), rest)) (append-nil items)

  -- reading stopped
  reading_stops : (items : List A) (tokens : List Lexeme) (left : ℕ) → read tokens ≡ Err left
      → after_list items (items_then_last_reading read tokens) ≡ Err left
  reading_stops items tokens left e =
      ap (after_list items)
      (step_until tokens ∙ ap (λ r. then_read r (read_after (items_then_last_reading read))) e)

  -- the function returns what stopped
  pub until_error : (items : List A) (tokens : List Lexeme) (why : Stop) (new : List Lexeme)
      → Gives {A = ItemOrLast A B} (Err why) tokens new read
      → (old : List Lexeme) (all : List Lexeme → Read (List A × B))
      → after_list items (items_then_last_reading read tokens) ≡ all old
      → Gives {A = List A × B} (Err why) old new all
  until_error items tokens (At left) new p old all f = sym f ∙ reading_stops items tokens left p
  until_error items tokens NoMemory new p old all f = tt

-- the tree of a tail that is read, at a head
abbrev finish : {H T : Type 0} → H → Read (H → T) → Read T
finish {H} {T} h r =
    then_read {A = H × (H → T)} (then_read r (λ y rest. Ok ((h, y), rest))) (λ p rest. Ok (p.1 p.0, rest))

-- what is read of the whole, by what is read of its parts
module _ {H A B : Type 0} (head : List Lexeme → Read H) (item : List Lexeme → Read (H → A))
    (last : List Lexeme → Read (H → B)) (end : List Lexeme → Read B) (more : List Lexeme → Read (List A × B))
    (heads items : List Class) where
  abbrev tail_read : List Class → List Lexeme → Read (H → List A × B)
  tail_read classes tokens =
      cond (next_in classes tokens) (read_as (λ p h. (p.0 h ∷ p.1.0, p.1.1)) (read_both item more) tokens)
      (read_as (λ f h. ([], f h)) last tokens)

  abbrev next_read : List Class → List Lexeme → Read (H → ItemOrLast A B)
  next_read classes tokens =
      cond (next_in classes tokens) (read_as (λ f h. Item (f h)) item tokens)
      (read_as (λ f h. Last (f h)) last tokens)

  abbrev whole_read : List Class → List Class → List Lexeme → Read (List A × B)
  whole_read begin_head begin_item tokens =
      cond (next_in begin_head tokens) (read_as (λ p. p.1 p.0) (read_both head (tail_read begin_item)) tokens)
      (read_as (λ y. ([], y)) end tokens)

  abbrev one_read : List Class → List Class → List Lexeme → Read (ItemOrLast A B)
  one_read begin_head begin_item tokens =
      cond (next_in begin_head tokens) (read_as (λ p. p.1 p.0) (read_both head (next_read begin_item)) tokens)
      (read_as Last end tokens)

  whole_by_one : (tokens : List Lexeme)
      → whole_read heads items tokens ≡ then_read (one_read heads items tokens) (read_after more)
  whole_by_one tokens = choose (next_in heads tokens)
    where
      with_more : (h : H) (f : H → A) (r : Read (List A × B))
          → finish {T = List A × B} h (then_read {A = (H → A) × (List A × B)} (then_read r (λ y rest. Ok ((f, y), rest)))
          (λ p rest. Ok ((λ x. (p.0 x ∷ p.1.0, p.1.1)), rest)))
          ≡ then_read r (λ p rest. Ok ((f h ∷ p.0, p.1), rest))
      with_more h f (Ok x) = refl
      with_more h f (Err left) = refl

      at_item : (h : H) (r : Read (H → A))
          → finish {T = List A × B} h (then_read {A = (H → A) × (List A × B)}
          (then_read r (λ f rest. then_read (more rest) (λ y last. Ok ((f, y), last))))
          (λ p rest. Ok ((λ x. (p.0 x ∷ p.1.0, p.1.1)), rest)))
          ≡ then_read (finish {T = ItemOrLast A B} h (then_read r (λ f rest. Ok ((λ x. Item (f x)), rest)))) (read_after more)
      at_item h (Ok f) = with_more h f.0 (more f.1)
      at_item h (Err left) = refl

      at_last : (h : H) (r : Read (H → B))
          → finish {T = List A × B} h (then_read r (λ f rest. Ok ((λ x. ([], f x)), rest)))
          ≡ then_read (finish {T = ItemOrLast A B} h (then_read r (λ f rest. Ok ((λ x. Last (f x)), rest)))) (read_after more)
      at_last h (Ok f) = refl
      at_last h (Err left) = refl

      at_tail : (h : H) (rest : List Lexeme) (b : Bool)
          → finish {T = List A × B} h (cond b (read_as (λ p x. (p.0 x ∷ p.1.0, p.1.1)) (read_both item more) rest)
          (read_as (λ f x. ([], f x)) last rest))
          ≡ then_read (finish {T = ItemOrLast A B} h (cond b (read_as (λ f x. Item (f x)) item rest)
          (read_as (λ f x. Last (f x)) last rest))) (read_after more)
      at_tail h rest true = at_item h (item rest)
      at_tail h rest false = at_last h (last rest)

      at_head : (r : Read H)
          → then_read {A = H × (H → List A × B)}
          (then_read r (λ x rest. then_read (tail_read items rest) (λ y last. Ok ((x, y), last))))
          (λ p rest. Ok (p.1 p.0, rest))
          ≡ then_read (then_read {A = H × (H → ItemOrLast A B)}
          (then_read r (λ x rest. then_read (next_read items rest) (λ y last. Ok ((x, y), last))))
          (λ p rest. Ok (p.1 p.0, rest))) (read_after more)
      at_head (Ok x) = at_tail x.0 x.1 (next_in items x.1)
      at_head (Err left) = refl

      at_end : (r : Read B)
          → then_read r (λ y rest. Ok (([], y), rest))
          ≡ then_read (then_read r (λ y rest. Ok (Last y, rest))) (read_after more)
      at_end (Ok y) = refl
      at_end (Err left) = refl

      choose : (b : Bool)
          → cond b (read_as (λ p. p.1 p.0) (read_both head (tail_read items)) tokens)
          (read_as (λ y. ([], y)) end tokens)
          ≡ then_read (cond b (read_as (λ p. p.1 p.0) (read_both head (next_read items)) tokens)
          (read_as Last end tokens)) (read_after more)
      choose true = at_head (head tokens)
      choose false = at_end (end tokens)

-- A rule of items and their last phrase is read item by item.
module _ {I : Type 0} {E : I → Type 0} (s : Syntax I E) (clean : IsClean s) {H A B : Type 0} (head : Grammar I E H)
    (item : Grammar I E (H → A)) (last : Grammar I E (H → B)) (end : Grammar I E B)
    (is : is_clean s (item_or_last head item last end) ≡ true)
    (token : can_be_empty (item_or_last head item last end) ≡ false) where
  -- an item has a token
  pub items_shorten : ItemsShorten (reads s (item_or_last head item last end))
  items_shorten tokens rest x e =
      consumes_by s clean (item_or_last head item last end) (reads s (item_or_last head item last end))
      (exact s clean (item_or_last head item last end) is) token tokens (Item x, rest) e

  module _ (again : Grammar I E (List A × B)) (unrolls : (tokens : List Lexeme)
      → reads s again tokens ≡ reads s (items_then_last head item last end again) tokens)
      (head_token : can_be_empty head ≡ false) (item_token : can_be_empty item ≡ false) where
    same_heads : {X Y : Type 0} (g : Grammar I E (H → X)) (h : Grammar I E (H → Y))
        → first s (headed head g) ≡ first s (headed head h)
    same_heads g h =
        ap (λ b. first s head ++ cond b (first s g) []) head_token
        ∙ sym (ap (λ b. first s head ++ cond b (first s h) []) head_token)

    one_by_one : (tokens : List Lexeme)
        → reads s again tokens
        ≡ then_read (reads s (item_or_last head item last end) tokens) (read_after (reads s again))
    one_by_one tokens =
        let whole : List Class → List Class → Read (List A × B) =
        λ heads items. whole_read (reads s head) (reads s item) (reads s last) (reads s end) (reads s again) [] [] heads
        items tokens in
        let next : Grammar I E (H → ItemOrLast A B) =
        choice (action (λ f h. Item (f h)) item) (action (λ f h. Last (f h)) last) in
        let tail : Grammar I E (H → List A × B) =
        choice (action (λ p h. (p.0 h ∷ p.1.0, p.1.1)) (sequence item again)) (action (λ f h. ([], f h)) last) in
        let heads : List Class = first s (headed head next) in
        unrolls tokens
        ∙ ap (λ heads. whole heads (first s item ++ cond (can_be_empty item) (first s again) [])) (same_heads tail next)
        ∙ ap (λ b. whole heads (first s item ++ cond b (first s again) [])) item_token
        ∙ ap (whole heads) (append-nil (first s item))
        ∙ whole_by_one (reads s head) (reads s item) (reads s last) (reads s end) (reads s again) heads (first s item)
        tokens

    item_by_item : (n : ℕ) (tokens : List Lexeme) → length tokens < n
        → reads s again tokens ≡ until_last (reads s (item_or_last head item last end)) n tokens
    item_by_item zero tokens lt = absurd (omega arith)
    item_by_item (suc n) tokens lt =
        let read : List Lexeme → Read (ItemOrLast A B) = reads s (item_or_last head item last end) in
        one_by_one tokens
        ∙ then_alike (read tokens) (read_after (reads s again)) (read_after (until_last read n))
        (λ next e. after_alike (reads s again) (until_last read n) next.0 next.1
        (λ x f. let shorter : length next.1 < length tokens =
        items_shorten tokens next.1 x (e ∙ ap (λ n. Ok (n, next.1)) f) in
        item_by_item n next.1 (omega arith)))

    pub until_last_unrolls : (tokens : List Lexeme)
        → reads s again tokens ≡ items_then_last_reading (reads s (item_or_last head item last end)) tokens
    until_last_unrolls tokens = item_by_item (suc (length tokens)) tokens (omega arith)
