-- Lists as loops go over them.
use Rattle.std.proofs.Common.{◌≡◌, ◌+◌, ◌*◌, ◌<◌, ◌≤◌, ℕ, zero, suc, List, [], ◌∷◌, ◌++◌, length, map, take, slice_get, slice_index_or, Some, None, Result, Ok, Err, IfOk, OnOk, refl, sym, ◌∙◌, ap, arith}
use Rattle.std.proofs.lemmas.List.{take_more, map-append}
use Rattle.std.proofs.lemmas.Option.{slice_get-get_or, slice_get_within}
use Rattle.qc_bodies.specs.Meanings.{value_or}
use Rattle.qc_bodies.specs.Sizes.{stopped, weighed}

-- one element more
pub map_more : {A B : Type 0} (f : A → B) (xs : List A) (k : ℕ) (x : A) → k < length xs → x ≡ slice_index_or xs k x
    → map f (take (k + 1) xs) ≡ map f (take k xs) ++ f x ∷ []
map_more f xs k x h e =
    ap (map f) (take_more xs k x h) ∙ (map-append f (take k xs) (slice_index_or xs k x ∷ []) ∙ ap (λ y. map f (take k xs) ++ f y ∷ []) (sym e))

-- of the first so many of a list
pub get_take : {A : Type 0} (xs : List A) (level number : ℕ) → number < level → slice_get (take level xs) number ≡ slice_get xs number
get_take xs zero number h = absurd (omega arith)
get_take [] (suc level) number h = refl
get_take (x ∷ xs) (suc level) zero h = refl
get_take (x ∷ xs) (suc level) (suc number) h = get_take xs level number (omega arith)

pub get_past : {A : Type 0} (xs : List A) (level number : ℕ) → level ≤ number → slice_get (take level xs) number ≡ None
get_past xs zero number h = refl
get_past [] (suc level) number h = refl
get_past (x ∷ xs) (suc level) zero h = absurd (omega arith)
get_past (x ∷ xs) (suc level) (suc number) h = get_past xs level number (omega arith)

pub get_within : {A : Type 0} (xs : List A) (k : ℕ) → k < length xs → (x : A) × (slice_get xs k ≡ Some x)
get_within [] k h = absurd (omega arith)
get_within (x ∷ xs) zero h = (x, refl)
get_within (x ∷ xs) (suc k) h = get_within xs k (omega arith)

-- one count more
pub weighed_more : (counts ns : List ℕ) (k : ℕ) → k < length counts
    → weighed (take (k + 1) counts) ns ≡ weighed (take k counts) ns + slice_index_or counts k 0 * value_or 1 (slice_get ns k)
weighed_more [] ns k h = absurd (omega arith)
weighed_more (c ∷ cs) [] zero h = omega arith
weighed_more (c ∷ cs) (n ∷ ns) zero h = omega arith
weighed_more (c ∷ cs) [] (suc k) h =
    let e : suc k + 1 ≡ suc (k + 1) = omega arith in
    let s = weighed_more cs [] k (omega arith) in
    ap (λ j. weighed (take j (c ∷ cs)) []) e ∙ (ap (λ x. c + x) s ∙ omega arith)
weighed_more (c ∷ cs) (n ∷ ns) (suc k) h =
    let e : suc k + 1 ≡ suc (k + 1) = omega arith in
    let s = weighed_more cs ns k (omega arith) in
    ap (λ j. weighed (take j (c ∷ cs)) (n ∷ ns)) e ∙ (ap (λ x. c * n + x) s ∙ omega arith)

-- stopping earlier changes nothing
pub stopped_more : (a b : ℕ) → stopped (stopped a + stopped b) ≡ stopped (a + b)
stopped_more a b = omega arith

-- two lists that agree on one element more
pub take_both : {A : Type 0} (xs ys : List A) (k : ℕ) (x y : A) → k < length xs → x ≡ slice_index_or xs k x → slice_get ys k ≡ Some y → x ≡ y
    → take k xs ≡ take k ys → take (k + 1) xs ≡ take (k + 1) ys
take_both xs ys k x y h is get same so_far =
    let within : k < length ys = slice_get_within ys k y get in
    let left : take (k + 1) xs ≡ take k xs ++ slice_index_or xs k x ∷ [] = take_more xs k x h in
    let right : take (k + 1) ys ≡ take k ys ++ slice_index_or ys k y ∷ [] = take_more ys k y within in
    let there : slice_get ys k ≡ Some (slice_index_or ys k y) = slice_get-get_or ys k y within in
    cc

-- a fact of a value and one that holds where there is one
pub both_ok : {T E : Type 0} (P R : T → Type 0) (Q : Type 0) (r : Result T E) → IfOk r P → OnOk r Q → ((x : T) → P x → Q → R x) → IfOk r R
both_ok P R Q (Ok x) p q f = f x p q
both_ok P R Q (Err e) p q f = tt
