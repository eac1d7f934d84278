-- Loops over two lists, whose results are joined one after the other.
use Rattle.std.proofs.Common.{ℕ, ◌≡◌, ◌+◌, ◌<◌, ◌≤◌, List, [], ◌∷◌, length, drop, min, get_or, sym, ap, ◌∙◌, arith, inl, inr}
use Rattle.std.proofs.lemmas.Bool.{cases_lt}
use Rattle.std.proofs.lemmas.List.{drop_more, drop_all}

-- what two lists give, element by element, as far as both go
pub record IsPairwise {A B M : Type 0} (join : M → M → M) (none : M) (F : List A → List B → M)
    (G : A → B → M) : Type 0 where
  pub assoc : (a b c : M) → join (join a b) c ≡ join a (join b c)
  pub unit : (a : M) → join a none ≡ a
  pub step : (a : A) (as' : List A) (b : B) (bs : List B) → F (a ∷ as') (b ∷ bs) ≡ join (G a b) (F as' bs)
  pub left : (bs : List B) → F [] bs ≡ none
  pub right : (as' : List A) → F as' [] ≡ none

-- one step of a loop, and its end
pub pairs_more : {A B M : Type 0} (join : M → M → M) (none : M) (F : List A → List B → M) (G : A → B → M)
    → IsPairwise join none F G
    → (xs : List A) (ys : List B) (i : ℕ) (d : A) (y : B) (found new next whole : M)
    → i < length xs → i < length ys → y ≡ get_or ys i y → new ≡ G (get_or xs i d) y → next ≡ join found new
    → join found (F (drop i xs) (drop i ys)) ≡ whole
    → join next (F (drop (i + 1) xs) (drop (i + 1) ys)) ≡ whole
pairs_more {M = M} join none F G pairwise xs ys i d y found new next whole within_xs within_ys is by joined before =
    let rest : M = F (drop (i + 1) xs) (drop (i + 1) ys) in
    let here : F (drop i xs) (drop i ys) ≡ join new rest =
    ap (λ zs. F zs (drop i ys)) (drop_more xs i d within_xs)
    ∙ ap (F (get_or xs i d ∷ drop (i + 1) xs)) (drop_more ys i y within_ys ∙ ap (λ z. z ∷ drop (i + 1) ys) (sym is))
    ∙ pairwise.step (get_or xs i d) (drop (i + 1) xs) y (drop (i + 1) ys)
    ∙ ap (λ n. join n rest) (sym by) in
    ap (λ n. join n rest) joined ∙ pairwise.assoc found new rest ∙ ap (join found) (sym here) ∙ before

pub pairs_all : {A B M : Type 0} (join : M → M → M) (none : M) (F : List A → List B → M) (G : A → B → M)
    → IsPairwise join none F G → (xs : List A) (ys : List B) (i : ℕ) (found whole : M)
    → min (length xs) (length ys) ≤ i → join found (F (drop i xs) (drop i ys)) ≡ whole → found ≡ whole
pairs_all join none F G pairwise xs ys i found whole past before =
    let ended : F (drop i xs) (drop i ys) ≡ none =
    elim (cases_lt i (length xs)) [
      | inr few ↦ ap (λ zs. F zs (drop i ys)) (drop_all i xs few) ∙ pairwise.left (drop i ys)
      | inl many ↦ ap (F (drop i xs)) (drop_all i ys (omega arith)) ∙ pairwise.right (drop i xs)
    ] in
    sym (pairwise.unit found) ∙ ap (join found) (sym ended) ∙ before
