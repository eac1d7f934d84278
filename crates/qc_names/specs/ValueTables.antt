-- Tables of what names stand for: the values, and of each name the number of its first value.
use Rattle.std.specs.Prelude.{ℕ, ◌≡◌, List, map}
use Rattle.qc_names.specs.Tables.{IsIndexOf}

-- The table has the values of these pairs, and the place of the first pair of each name.
pub record IsTableOf {A : Type 0} (pairs : List (List ℕ × A)) (values : List A) (es : List (List ℕ × ℕ)) : Type 0 where
  pub values_are : values ≡ map (λ p. p.1) pairs
  pub index : IsIndexOf (map (λ p. p.0) pairs) es
