-- Lists of bits that are made one after another.
use Rattle.std.proofs.Common.{◌≡◌, ◌∙◌, ℕ, ◌+◌, List, [], ◌∷◌, ◌++◌, ap, sym, add-one, append_assoc, append-nil}
use Rattle.qc_descr.specs.declared.coding.Bit.{Bit}
use Rattle.qc_constants.specs.Constants.{each_below}

-- no number is below 0
pub append_none : (bits : List Bit) (f : ℕ → Bit) → bits ≡ bits ++ each_below 0 f
unfolding each_below
append_none bits f = sym (append-nil bits)

-- one more bit at the end
pub append_one : (old bits new : List Bit) (n : ℕ) (f : ℕ → Bit) → bits ≡ old ++ each_below n f → new ≡ bits ++ f n ∷ [] → new ≡ old ++ each_below (n + 1) f
unfolding each_below
append_one old bits new n f so_far pushed =
    pushed ∙ ap (λ xs. xs ++ f n ∷ []) so_far ∙ append_assoc old (each_below n f) (f n ∷ []) ∙ ap (λ k. old ++ each_below k f) (sym (add-one n))
