-- What several expressions come to.
use Rattle.std.proofs.Common.{◌≡◌, ℕ, List, [], ◌∷◌, length, map, slice_get, refl, ◌∙◌, ap}
use Rattle.std.specs.Option.{option_map}
use Rattle.std.proofs.lemmas.List.{length-map}
use Rattle.std.proofs.lemmas.Option.{slice_get-map}
use Rattle.qc_bodies.specs.Trees.{Core, one, several}
use Rattle.qc_bodies.specs.Meanings.{Algebra, Fun, Meaning, value}

pub value_several : {V A : Type 0} (a : Algebra V) (ms : List (Meaning V)) (fs : List (Fun V)) (vs : List V)
    → (f : A → Core one) (xs : List A) → value a ms fs vs (several (map f xs)) ≡ map (λ x. value a ms fs vs (f x)) xs
value_several a ms fs vs f [] = refl
value_several a ms fs vs f (x ∷ xs) = ap (λ l. value a ms fs vs (f x) ∷ l) (value_several a ms fs vs f xs)

pub length_several : {V A : Type 0} (a : Algebra V) (ms : List (Meaning V)) (fs : List (Fun V)) (vs : List V)
    → (f : A → Core one) (xs : List A) → length (value a ms fs vs (several (map f xs))) ≡ length xs
length_several a ms fs vs f xs = ap length (value_several a ms fs vs f xs) ∙ length-map xs (λ x. value a ms fs vs (f x))

pub get_several : {V A : Type 0} (a : Algebra V) (ms : List (Meaning V)) (fs : List (Fun V)) (vs : List V)
    → (f : A → Core one) (xs : List A) (k : ℕ)
    → slice_get (value a ms fs vs (several (map f xs))) k ≡ option_map (λ x. value a ms fs vs (f x)) (slice_get xs k)
get_several a ms fs vs f xs k =
    ap (λ l. slice_get l k) (value_several a ms fs vs f xs) ∙ slice_get-map (λ x. value a ms fs vs (f x)) xs k
