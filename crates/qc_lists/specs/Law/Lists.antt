-- Of two lists one after the other: what all their elements have, and where each of them stands.
use Rattle.std.proofs.Common.{◌≡◌, ℕ, zero, suc, ◌+◌, ◌<◌, List, [], ◌∷◌, ◌++◌, length, take, drop, refl, sym, ◌∙◌, ap, arith}
use Rattle.std.proofs.Math.Seq.{take-append_seam, drop-append_seam}
use Rattle.std.specs.List.{AllByRecursion, slice_get}

-- what holds of each element of both lists holds of each element of the whole
pub each_append : {X : Type 0} (P : X → Type 0) (xs ys : List X) → AllByRecursion P xs → AllByRecursion P ys → AllByRecursion P (xs ++ ys)
each_append P [] ys h k = k
each_append P (x ∷ xs) ys h k = (h.0, each_append P xs ys h.1 k)

-- what holds of each element of the whole holds of each element of both lists
pub each_of_append : {X : Type 0} (P : X → Type 0) (xs ys : List X) → AllByRecursion P (xs ++ ys) → AllByRecursion P xs × AllByRecursion P ys
each_of_append P [] ys h = (tt, h)
each_of_append P (x ∷ xs) ys h =
    let parts : AllByRecursion P xs × AllByRecursion P ys = each_of_append P xs ys h.1 in
    ((h.0, parts.0), parts.1)

-- an element of the first list
pub slice_get-append_left : {X : Type 0} (xs ys : List X) (k : ℕ) → k < length xs → slice_get (xs ++ ys) k ≡ slice_get xs k
slice_get-append_left [] ys k h = absurd (omega arith)
slice_get-append_left (x ∷ xs) ys zero h = refl
slice_get-append_left (x ∷ xs) ys (suc k) h = slice_get-append_left xs ys k (omega arith)

-- an element of the second list
pub slice_get-append_right : {X : Type 0} (xs ys : List X) (k : ℕ) → slice_get (xs ++ ys) (length xs + k) ≡ slice_get ys k
slice_get-append_right [] ys k = let e : 0 + k ≡ k = omega arith in ap (slice_get ys) e
slice_get-append_right (x ∷ xs) ys k =
    let e : suc (length xs) + k ≡ suc (length xs + k) = omega arith in
    ap (slice_get (x ∷ (xs ++ ys))) e ∙ slice_get-append_right xs ys k

-- a whole that is cut at one place in two ways has the same parts
pub same_parts : {X : Type 0} (xs ys r s : List X) → length xs ≡ length ys → xs ++ r ≡ ys ++ s → (xs ≡ ys) × (r ≡ s)
same_parts xs ys r s size e = (
  sym (take-append_seam xs r) ∙ ap (take (length xs)) e ∙ ap (λ n. take n (ys ++ s)) size ∙ take-append_seam ys s,
  sym (drop-append_seam xs r) ∙ ap (drop (length xs)) e ∙ ap (λ n. drop n (ys ++ s)) size ∙ drop-append_seam ys s,
)
