-- What is printed for lists.
use Rattle.std.specs.Prelude.{ℕ, ◌≡◌, List, [], ◌∷◌, ◌++◌, map}
use Rattle.std.specs.List.{flat_map}
use Rattle.std.proofs.Common.{refl, ap, sym, ◌∙◌, append_assoc}
use Rattle.qc_text.specs.PrintedWords.{Words, spaced}

pub spaced-append : (xs ys : Words) → spaced (xs ++ ys) ≡ spaced xs ++ spaced ys
spaced-append [] ys = refl
spaced-append (x ∷ xs) ys =
    ap (λ bytes. (x ++ 32 ∷ []) ++ bytes) (spaced-append xs ys)
    ∙ sym (append_assoc (x ++ 32 ∷ []) (spaced xs) (spaced ys))

-- those that have a separator before them
pub after_separators : {X : Type 0} (separator : List ℕ) (words next : X → Words)
    → ((x : X) → separator ∷ words x ≡ next x) → (xs : List X)
    → flat_map (λ y. separator ∷ y) (map words xs) ≡ flat_map next xs
after_separators separator words next each [] = refl
after_separators separator words next each (x ∷ xs) =
    ap (λ ws. ws ++ flat_map (λ y. separator ∷ y) (map words xs)) (each x)
    ∙ ap (λ ws. next x ++ ws) (after_separators separator words next each xs)
