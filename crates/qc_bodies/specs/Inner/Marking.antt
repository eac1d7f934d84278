-- The parameters that stand in an expression, and their ranks.
use Rattle.std.specs.Prelude.{ℕ, ◌≡◌, List, Option, Some, slice_get}
use Rattle.qc_bodies.specs.declared.marks.Marks.{Marks}
use Rattle.qc_bodies.specs.Trees.{Core, Sort, Leaf, Absent, Param, Wrap, Operate, Use, Apply, none, more}

-- what holds of each parameter of an expression
abbrev pub Each : {s : Sort} → (ℕ → Type 0) → Core s → Type 0
Each P (Leaf token leaf width) = Unit {0}
Each P (Absent token) = Unit {0}
Each P (Param number) = P number
Each P (Wrap token wrap width part) = Each P part
Each P (Operate token op args) = Each P args
Each P (Use token number callees args) = Each P args
Each P (Apply token number args) = Each P args
Each P none = Unit {0}
Each P (more e es) = Each P e × Each P es

-- a parameter has a rank, and is the one of that rank
pub record IsRanked (ranks : List (Option ℕ)) (used : List ℕ) (number : ℕ) : Type 0 where
  pub rank : ℕ
  pub has : slice_get ranks number ≡ Some (Some rank)
  pub is : slice_get used rank ≡ Some number

abbrev pub IsMarked : Marks → ℕ → Type 0
IsMarked marks number = IsRanked marks.ranks marks.used number

-- each rank is that of its parameter
abbrev pub AreMarks : Marks → Type 0
AreMarks marks = (number rank : ℕ) → slice_get marks.ranks number ≡ Some (Some rank) → slice_get marks.used rank ≡ Some number

-- Parameters keep their ranks, and this holds then.
pub record Marked (old new : Marks) (P : Type 0) : Type 0 where
  pub are : AreMarks new
  pub keeps : (number : ℕ) → IsMarked old number → IsMarked new number
  pub holds : P
