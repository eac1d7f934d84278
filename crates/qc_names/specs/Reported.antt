-- Which of several faults of a text is reported.
use Rattle.std.specs.Prelude.{ℕ, Bool, ◌&&◌, ◌||◌, nat_eq, nat_lt, if◌then◌else◌, List, [], ◌∷◌, Option, None, Some}

module _ {F : Type 0} (token_of rank_of : F → ℕ) where
  -- the fault is at a smaller token than the other, or at the same one and of a sort that comes first
  abbrev pub comes_before : F → F → Bool
  comes_before f g =
      nat_lt (token_of f) (token_of g) || (nat_eq (token_of f) (token_of g) && nat_lt (rank_of f) (rank_of g))

  -- a fault, or one that is listed after it and comes before it
  abbrev pub reported_of_two : F → Option F → F
  reported_of_two f None = f
  reported_of_two f (Some g) = if comes_before g f then g else f

  -- the fault that is reported of those of two lists, by what is reported of each
  abbrev pub reported_of_both : Option F → Option F → Option F
  reported_of_both None g = g
  reported_of_both (Some f) g = Some (reported_of_two f g)

  -- The fault that is reported of a list: that of the least token, at one token that of the first sort, and of one sort
  -- the first of the list.
  abbrev pub reported : List F → Option F
  reported [] = None
  reported (f ∷ fs) = Some (reported_of_two f (reported fs))

-- the fault of a use of a name at a token, unless that is known
abbrev pub unknown_unless : {F : Type 0} → (ℕ → F) → Bool → ℕ → List F
unknown_unless unknown known token = if known then [] else unknown token ∷ []

-- the fault of a declaration of a name at a token, if it was seen
abbrev pub twice_if : {F : Type 0} → (ℕ → F) → Bool → ℕ → List F
twice_if twice seen token = if seen then twice token ∷ [] else []
