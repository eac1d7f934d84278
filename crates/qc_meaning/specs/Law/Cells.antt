-- Cells and bytes after a write: the written one is the new word, and all others are as before.
use Rattle.std.proofs.Common.{◌≡◌, ◌≢◌, ◌∙◌, ◌⊎◌, ℕ, zero, suc, List, [], ◌∷◌, length, map, drop, get_or, slice_index, slice_set, inl, inr, refl, ap, sym, arith}
use Rattle.std.proofs.lemmas.Bool.{cases_lt}
use Rattle.std.proofs.lemmas.List.{get_or-set_other, get_or-set_same, get_or_past, length-set}
use Rattle.qc_terms.specs.Cells.{cell_of, with_cell}

-- ---- one row

-- in two rows of one length the written word is the same, or there is none in both
pub row_same : (xs ys : List ℕ) (i word : ℕ) → length ys ≡ length xs → slice_index (slice_set ys i word) i ≡ slice_index (slice_set xs i word) i
row_same xs ys i word lengths = elim (cases_lt i (length xs)) [
  | inl inside ↦ get_or-set_same ys i word 0 (omega (arith, lengths, inside)) ∙ sym (get_or-set_same xs i word 0 inside)
  | inr outside ↦
      get_or_past (slice_set ys i word) i 0 (omega (arith, length-set ys i word, lengths, outside))
      ∙ sym (get_or_past (slice_set xs i word) i 0 (omega (arith, length-set xs i word, outside)))
]

pub row_other : (xs : List ℕ) (i j word : ℕ) → j ≢ i → slice_index (slice_set xs i word) j ≡ slice_index xs j
row_other xs i j word other = get_or-set_other xs i j word 0 other

-- ---- cells

heads : (x y : ℕ) (xs ys : List ℕ) → y ∷ ys ≡ x ∷ xs → (y ≡ x) × (ys ≡ xs)
heads x y xs ys same = (ap (λ l. get_or l 0 0) same, ap (drop 1) same)

-- in cells of one shape the written word is the same, or there is none in both
pub cell_same : (xs ys : List (List ℕ)) (space index word : ℕ) → map length ys ≡ map length xs →
    cell_of (with_cell ys space index word) space index ≡ cell_of (with_cell xs space index word) space index
cell_same [] [] space index word lengths = refl
cell_same [] (y ∷ ys) space index word lengths = cc
cell_same (x ∷ xs) [] space index word lengths = cc
cell_same (x ∷ xs) (y ∷ ys) zero index word lengths = row_same x y index word (heads (length x) (length y) (map length xs) (map length ys) lengths).0
cell_same (x ∷ xs) (y ∷ ys) (suc space) index word lengths =
    cell_same xs ys space index word (heads (length x) (length y) (map length xs) (map length ys) lengths).1

-- another cell stays
pub cell_other : (xs : List (List ℕ)) (space index other number word : ℕ) → (other ≢ space) ⊎ (number ≢ index) →
    cell_of (with_cell xs space index word) other number ≡ cell_of xs other number
cell_other [] space index other number word apart = refl
cell_other (x ∷ xs) zero index zero number word (inl apart) = absurd (apart refl)
cell_other (x ∷ xs) zero index zero number word (inr apart) = row_other x index number word apart
cell_other (x ∷ xs) zero index (suc other) number word apart = refl
cell_other (x ∷ xs) (suc space) index zero number word apart = refl
cell_other (x ∷ xs) (suc space) index (suc other) number word apart =
    cell_other xs space index other number word (elim apart [ inl spaces ↦ inl (λ same. spaces (ap suc same)) | inr cells ↦ inr cells ])

-- a write leaves the number of cells of each space as it is
pub lengths-with_cell : (cells : List (List ℕ)) (space index word : ℕ) → map length (with_cell cells space index word) ≡ map length cells
lengths-with_cell [] space index word = refl
lengths-with_cell (row ∷ rows) zero index word = ap (λ n. n ∷ map length rows) (length-set row index word)
lengths-with_cell (row ∷ rows) (suc space) index word = ap (λ ns. length row ∷ ns) (lengths-with_cell rows space index word)
