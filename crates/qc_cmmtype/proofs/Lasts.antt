-- The last of a list that isn't empty.
use Rattle.std.specs.Prelude.{suc, ◌-◌, ◌≡◌, ◌<◌, Bool, List, [], ◌∷◌, length, map}
use Rattle.std.proofs.Common.{refl, ap, sym, ◌∙◌, arith, get_or}
use Rattle.qc_cmmtype.specs.Endings.{last_ends}

pub last_is : {A : Type 0} (f : A → Bool) (xs : List A) (d : A) → 0 < length xs
    → last_ends (map f xs) ≡ f (get_or xs (length xs - 1) d)
last_is f [] d some = absurd (omega (arith, some))
last_is f (x ∷ []) d some = refl
last_is f (x ∷ y ∷ ys) d some =
    let place : length (x ∷ y ∷ ys) - 1 ≡ suc (length (y ∷ ys) - 1) = omega arith in
    last_is f (y ∷ ys) d (omega arith) ∙ sym (ap (λ n. f (get_or (x ∷ y ∷ ys) n d)) place)
