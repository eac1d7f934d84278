-- Names behind references.
use Rattle.std.proofs.Common.{◌≡◌, refl, List, [], ◌∷◌, ℕ, Bool, ◌||◌, map, Bor, ap}
use Rattle.std.specs.List.{list_any}

pub any_behind : (P : List ℕ → Bool) (words : List (Bor (List ℕ)))
    → list_any (λ word. P word.now) words ≡ list_any P (map (λ word. word.now) words)
any_behind P [] = refl
any_behind P (word ∷ words) = ap (λ b. P word.now || b) (any_behind P words)
