-- What contracts say of the list of the terms of a pool's ids, and of what calls make of it.
use Rattle.std.specs.Prelude.{ℕ, ◌≡◌, ◌<◌, List, [], ◌∷◌, ◌++◌, length, slice_get, Some, ◌⊎◌}
use Rattle.qc_terms.specs.Tree.{Tree, Number, Unary, Binary, Register, Immediate, Load, NextInput, AddressAfter}
use Rattle.qc_pool.specs.Nodes.{term_at}
use Rattle.qc_pool.specs.Widths.{HasWidths}

-- the term stands somewhere in the list
abbrev pub IsThere : List Tree → Tree → Type 0
IsThere terms t = (id : ℕ) × (slice_get terms id ≡ Some t)

-- Each term has the widths that it needs, and no term stands twice.
pub record IsRegion (terms : List Tree) : Type 0 where
  pub widths : (id : ℕ) (t : Tree) → slice_get terms id ≡ Some t → HasWidths t
  pub distinct : (i j : ℕ) → i < length terms → j < length terms → term_at terms i ≡ term_at terms j → i ≡ j

-- The term has the id. A term that was there changes nothing, and any other stands last.
pub record IsAdded (old new : List Tree) (t : Tree) (id : ℕ) : Type 0 where
  pub at : slice_get new id ≡ Some t
  pub change : (IsThere old t × (new ≡ old)) ⊎ ((IsThere old t → ⊥) × (new ≡ old ++ t ∷ []))

-- one term is the other or stands inside it
abbrev pub IsWithin : Tree → Tree → Type 0
IsWithin part (Number value width) = part ≡ Number value width
IsWithin part (Unary op arg) = (part ≡ Unary op arg) ⊎ IsWithin part arg
IsWithin part (Binary op left right) = (part ≡ Binary op left right) ⊎ (IsWithin part left ⊎ IsWithin part right)
IsWithin part (Register place width) = part ≡ Register place width
IsWithin part (Immediate operand width) = part ≡ Immediate operand width
IsWithin part (Load width address) = (part ≡ Load width address) ⊎ IsWithin part address
IsWithin part (NextInput width) = part ≡ NextInput width
IsWithin part (AddressAfter width) = part ≡ AddressAfter width

-- each of the terms is the other or stands inside it
abbrev pub AreWithin : List Tree → Tree → Type 0
AreWithin [] t = Unit {0}
AreWithin (part ∷ parts) t = IsWithin part t × AreWithin parts t

-- the old terms keep their ids
abbrev pub Keeps : List Tree → List Tree → Type 0
Keeps old new = (more : List Tree) × (new ≡ old ++ more)

-- The term has the id, all that stands inside it is there, the old terms keep their ids, and what is new stands inside the
-- term.
pub record IsInterned (old new : List Tree) (t : Tree) (id : ℕ) : Type 0 where
  pub at : slice_get new id ≡ Some t
  pub parts : (part : Tree) → IsWithin part t → IsThere new part
  pub change : (more : List Tree) × (new ≡ old ++ more) × AreWithin more t
