-- A file has one first faulty place at most.
use Rattle.std.proofs.Common.{◌≡◌, ◌<◌, ◌⊎◌, inl, inr, ℕ, List}
use Rattle.std.proofs.lemmas.Bool.{cases_order}
use Rattle.qc_descr.specs.declared.description.Description.{Description}
use Rattle.qc_layout.specs.ImageFaults.{IsBadImage}

one_of : (d : Description) (bytes : List ℕ) (a b : ℕ) → IsBadImage d bytes a → IsBadImage d bytes b →
    (a ≡ b) ⊎ ((a < b) ⊎ (b < a)) → a ≡ b
one_of d bytes a b p q (inl e) = e
one_of d bytes a b p q (inr (inl lt)) = absurd (q.first a lt p.faulty)
one_of d bytes a b p q (inr (inr lt)) = absurd (p.first b lt q.faulty)

pub one_bad_image : (d : Description) (bytes : List ℕ) (a b : ℕ) → IsBadImage d bytes a → IsBadImage d bytes b → a ≡ b
one_bad_image d bytes a b p q = one_of d bytes a b p q (cases_order a b)
