-- Bytes of codings side by side.
use Rattle.std.proofs.Common.{◌≡◌, ℕ, zero, suc, ◌+◌, ◌≤◌, List, [], ◌∷◌, length, drop, true, false, ◌||◌, Some, refl, ◌∙◌, ap, arith, add-one, min}
use Rattle.std.specs.List.{slice_get}
use Rattle.std.proofs.lemmas.Option.{get_or_from_slice_get, slice_get_within}
use Rattle.std.proofs.Math.Seq.{drop-cons}
use Rattle.qc_descr.specs.declared.coding.Bit.{Bit}
use Rattle.qc_descr.specs.Coding.{bits_differ, bytes_differ}

drop_at : {X : Type 0} (xs : List X) (i : ℕ) (x : X) → slice_get xs i ≡ Some x → drop i xs ≡ x ∷ drop (i + 1) xs
drop_at xs i x h =
    rw (add-one, drop-cons xs i x (slice_get_within xs i x h)) (ap (λ y. y ∷ drop (suc i) xs) (get_or_from_slice_get xs i x x h))

bytes_step : (xs ys : List (List Bit)) (i : ℕ) (x y : List Bit) → slice_get xs i ≡ Some x → slice_get ys i ≡ Some y →
    bytes_differ (drop i xs) (drop i ys) ≡ (bits_differ x y || bytes_differ (drop (i + 1) xs) (drop (i + 1) ys))
bytes_step xs ys i x y h k = rw (drop_at xs i x h, drop_at ys i y k) refl

-- two bytes that differ
pub bytes_found : (xs ys : List (List Bit)) (i : ℕ) (x y : List Bit) → slice_get xs i ≡ Some x → slice_get ys i ≡ Some y →
    bits_differ x y ≡ true → bytes_differ (drop i xs) (drop i ys) ≡ true
bytes_found xs ys i x y h k differ =
    bytes_step xs ys i x y h k ∙ ap (λ b. b || bytes_differ (drop (i + 1) xs) (drop (i + 1) ys)) differ

-- two bytes that don't
pub bytes_passed : (xs ys : List (List Bit)) (i : ℕ) (x y : List Bit) → slice_get xs i ≡ Some x → slice_get ys i ≡ Some y →
    bits_differ x y ≡ false → bytes_differ (drop i xs) (drop i ys) ≡ bytes_differ (drop (i + 1) xs) (drop (i + 1) ys)
bytes_passed xs ys i x y h k same =
    bytes_step xs ys i x y h k ∙ ap (λ b. b || bytes_differ (drop (i + 1) xs) (drop (i + 1) ys)) same

none_left : (xs : List (List Bit)) → bytes_differ xs [] ≡ false
none_left [] = refl
none_left (x ∷ xs) = refl

nothing_left : (i : ℕ) → ◌≡◌ {A = List (List Bit)} (drop i []) []
nothing_left zero = refl
nothing_left (suc i) = refl

-- no bytes are left of one of the two
pub bytes_end : (xs ys : List (List Bit)) (i : ℕ) → min (length xs) (length ys) ≤ i → bytes_differ (drop i xs) (drop i ys) ≡ false
bytes_end [] ys i h = rw nothing_left refl
bytes_end (x ∷ xs) [] i h = rw (nothing_left i) (none_left (drop i (x ∷ xs)))
bytes_end (x ∷ xs) (y ∷ ys) zero h = absurd (omega arith)
bytes_end (x ∷ xs) (y ∷ ys) (suc i) h = bytes_end xs ys i (omega arith)
