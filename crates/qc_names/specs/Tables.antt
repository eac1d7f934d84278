-- Symbol tables, as lists of entries, and the places of names in a list.
use Rattle.std.specs.Prelude.{ℕ, suc, ◌≡◌, Bool, cond, List, [], ◌∷◌, ◌++◌, map, Option, None, Some, is_some}
use Rattle.std.specs.List.{list_any}
use Rattle.std.specs.Map.{lookup}
use Rattle.std.specs.Str.{bytes_eq}

-- the value of the first of the pairs that has this name
abbrev pub named : {A : Type 0} → List (List ℕ × A) → List ℕ → Option A
named pairs name = lookup (bytes_eq name) pairs

-- the number that the entries give a name
abbrev pub number_at : List (List ℕ × ℕ) → List ℕ → Option ℕ
number_at es name = named es name

-- the entries after a name is entered, which stay as they are where they have it
abbrev pub entered : List (List ℕ × ℕ) → List ℕ → ℕ → List (List ℕ × ℕ)
entered es name number = cond (is_some (number_at es name)) es (es ++ (name, number) ∷ [])

-- the names that the entries have, in the order in which they came
abbrev pub names_in : List (List ℕ × ℕ) → List (List ℕ)
names_in es = map (λ e. e.0) es

-- the name is one of these
abbrev pub is_among : List (List ℕ) → List ℕ → Bool
is_among names name = list_any (bytes_eq name) names

-- The same names are in both lists.
pub record SameNames (names others : List (List ℕ)) : Type 0 where
  pub same : (name : List ℕ) → is_among names name ≡ is_among others name

-- The entries have these names and no other.
abbrev pub HasNames : List (List ℕ × ℕ) → List (List ℕ) → Type 0
HasNames es names = SameNames (names_in es) names

-- the place of the first of the names that is this one, counted from a number
abbrev pub first_place_from : ℕ → List (List ℕ) → List ℕ → Option ℕ
first_place_from at [] name = None
first_place_from at (n ∷ names) name = cond (bytes_eq name n) (Some at) (first_place_from (suc at) names name)

-- the place of the first of the names that is this one
abbrev pub first_place : List (List ℕ) → List ℕ → Option ℕ
first_place names name = first_place_from 0 names name

-- The entries give each of these names its first place among them, and no other name.
pub record IsIndexOf (names : List (List ℕ)) (es : List (List ℕ × ℕ)) : Type 0 where
  pub places : (name : List ℕ) → number_at es name ≡ first_place names name
