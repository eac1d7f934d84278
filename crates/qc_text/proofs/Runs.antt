-- Runs of bytes that pass a test.
use Rattle.std.proofs.Common.{ℕ, suc, ◌≡◌, ◌+◌, ◌≤◌, Bool, true, false, cond, List, [], ◌∷◌, ◌++◌, length, take, refl, arith}
use Rattle.std.proofs.lemmas.Bool.{and_parts}
use Rattle.std.specs.List.{list_all, prefix_len}

-- bytes that pass, at the front, are no more than the longest run
pub run_covers : (p : ℕ → Bool) (xs ys : List ℕ) → list_all p xs ≡ true → length xs ≤ prefix_len p (xs ++ ys)
run_covers p [] ys all = omega arith
run_covers p (x ∷ xs) ys all =
    let both = and_parts (p x) (list_all p xs) all in
    rw both.0 (omega (arith, run_covers p xs ys both.1))

-- and all of it, where a byte follows that doesn't pass
pub run_ends : (p : ℕ → Bool) (xs : List ℕ) (y : ℕ) (ys : List ℕ) → list_all p xs ≡ true → p y ≡ false
    → prefix_len p (xs ++ y ∷ ys) ≡ length xs
run_ends p [] y ys all stops = rw stops refl
run_ends p (x ∷ xs) y ys all stops =
    let both = and_parts (p x) (list_all p xs) all in
    rw both.0 (omega (arith, run_ends p xs y ys both.1 stops))

run_passes_on : (p : ℕ → Bool) (x : ℕ) (xs : List ℕ) (b : Bool) → p x ≡ b
    → list_all p (take (prefix_len p xs) xs) ≡ true → list_all p (take (cond b (1 + prefix_len p xs) 0) (x ∷ xs)) ≡ true
run_passes_on p x xs true e rest = let next : 1 + prefix_len p xs ≡ suc (prefix_len p xs) = omega arith in
    rw next (rw e rest)
run_passes_on p x xs false e rest = refl

-- the longest run passes
pub run_passes : (p : ℕ → Bool) (xs : List ℕ) → list_all p (take (prefix_len p xs) xs) ≡ true
run_passes p [] = refl
run_passes p (x ∷ xs) = run_passes_on p x xs (p x) refl (run_passes p xs)

pub same_first : (xs : List ℕ) (a b : ℕ) (further bs : List ℕ) → xs ≡ a ∷ further → xs ≡ b ∷ bs → a ≡ b
same_first xs a b further bs e f = cc (e, f)
