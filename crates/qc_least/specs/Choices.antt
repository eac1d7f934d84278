-- Least counts by recursion, where all choices of what children are to compute are listed.
use Rattle.std.specs.Prelude.{ℕ, ◌≡◌, ◌+◌, min, zero, suc, List, [], ◌∷◌, map, slice_get, Option, None, Some}
use Rattle.std.specs.Option.{option_map}
use Rattle.qc_derivations.specs.Forest.{Node}
use Rattle.qc_derivations.specs.Goals.{Need}
use Rattle.qc_derivations.specs.Nodes.{Task, children_of}
use Rattle.qc_least.specs.Least.{HasCount}

-- The lists for a need are what the children of its nodes are to compute, for all nodes that keep the rules.
pub record AreChoices (task : Task) (choices : Need → List (List Need)) : Type 0 where
  pub listed : (need : Need) (node : Node) (inner : List Need) → children_of task need node ≡ Some inner →
      (i : ℕ) × (slice_get (choices need) i ≡ Some inner)
  pub chosen : (need : Need) (i : ℕ) (inner : List Need) → slice_get (choices need) i ≡ Some inner →
      (node : Node) × (children_of task need node ≡ Some inner)

-- ---- least numbers, where None is more than any

abbrev pub plus : Option ℕ → Option ℕ → Option ℕ
plus None other = None
plus (Some m) other = option_map (λ n. m + n) other

abbrev pub lesser : Option ℕ → Option ℕ → Option ℕ
lesser None other = other
lesser (Some m) None = Some m
lesser (Some m) (Some n) = Some (min m n)

abbrev pub least_among : List (Option ℕ) → Option ℕ
least_among [] = None
least_among (least ∷ others) = lesser least (least_among others)

-- the sum of the least counts of needs
abbrev pub least_sum : (Need → Option ℕ) → List Need → Option ℕ
least_sum least [] = Some 0
least_sum least (need ∷ needs) = plus (least need) (least_sum least needs)

-- the least count for a need within a height
abbrev pub least_of : (Need → List (List Need)) → ℕ → Need → Option ℕ
least_of choices zero need = None
least_of choices (suc height) need =
    least_among (map (λ inner. plus (Some 1) (least_sum (least_of choices height) inner)) (choices need))

-- ---- one of some alternatives each

-- the least count of an alternative, which may need nothing
abbrev pub least_alternative : (Need → Option ℕ) → Option Need → Option ℕ
least_alternative least None = Some 0
least_alternative least (Some need) = least need

abbrev pub least_selection : (Need → Option ℕ) → List (List (Option Need)) → Option ℕ
least_selection least [] = Some 0
least_selection least (alternatives ∷ others) =
    plus (least_among (map (least_alternative least) alternatives)) (least_selection least others)

-- an alternative has the count
abbrev pub HasAlternative : Task → (height : ℕ) → Option Need → ℕ → Type 0
HasAlternative task height None count = count ≡ 0
HasAlternative task height (Some need) count = HasCount task height (need ∷ []) count

-- one alternative of each list together have the count
abbrev pub HasSelection : Task → (height : ℕ) → List (List (Option Need)) → ℕ → Type 0
HasSelection task height [] count = count ≡ 0
HasSelection task height (alternatives ∷ others) count =
    (i : ℕ) × (alternative : Option Need) × (slice_get alternatives i ≡ Some alternative)
    × (m : ℕ) × (n : ℕ) × HasAlternative task height alternative m × HasSelection task height others n × (count ≡ m + n)
