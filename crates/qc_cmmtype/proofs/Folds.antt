-- Loops that take one thing after the other into a state.
use Rattle.std.specs.Prelude.{ℕ, ◌+◌, ◌≡◌, ◌<◌, List, [], ◌∷◌, ◌++◌, length, map, drop}
use Rattle.std.specs.List.{flat_map, fold}
use Rattle.std.proofs.Common.{refl, ap, sym, ◌∙◌, get_or}
use Rattle.std.proofs.lemmas.List.{at_drop_more}

module _ {S X : Type 0} (step : S → X → S) where
  pub folded_append : (s : S) (xs ys : List X) → fold step s (xs ++ ys) ≡ fold step (fold step s xs) ys
  folded_append s [] ys = refl
  folded_append s (x ∷ xs) ys = folded_append (step s x) xs ys

  -- a loop over what has lists of things
  pub folded_more : {A : Type 0} (f : A → List X) (old new whole : S) (xs : List A) (i : ℕ) (x : A)
      → i < length xs → x ≡ get_or xs i x → new ≡ fold step old (f x)
      → fold step old (flat_map f (drop i xs)) ≡ whole → fold step new (flat_map f (drop (i + 1) xs)) ≡ whole
  folded_more f old new whole xs i x within is next before =
      ap (λ s. fold step s (flat_map f (drop (i + 1) xs))) next
      ∙ sym (folded_append old (f x) (flat_map f (drop (i + 1) xs)))
      ∙ ap (λ y. fold step old (flat_map f (y ∷ drop (i + 1) xs))) is
      ∙ sym (at_drop_more (λ ys. fold step old (flat_map f ys)) xs i x within)
      ∙ before

  -- a loop over what has one thing each
  pub folded_each : {A : Type 0} (f : A → X) (old new whole : S) (xs : List A) (i : ℕ) (x : A)
      → i < length xs → x ≡ get_or xs i x → new ≡ step old (f x)
      → fold step old (map f (drop i xs)) ≡ whole → fold step new (map f (drop (i + 1) xs)) ≡ whole
  folded_each f old new whole xs i x within is next before =
      ap (λ s. fold step s (map f (drop (i + 1) xs))) next
      ∙ ap (λ y. fold step old (map f (y ∷ drop (i + 1) xs))) is
      ∙ sym (at_drop_more (λ ys. fold step old (map f ys)) xs i x within)
      ∙ before
