-- The parts of a term by their numbers.
use Rattle.std.specs.Prelude.{ℕ, ◌≡◌, nat_eq, Option, None, Some, if◌then◌else◌}
use Rattle.qc_terms.specs.Tree.{Tree, Binary, Load, Unary, width_of}

-- the part that has a number; a load's address is its part 0
abbrev pub part_of : Tree → ℕ → Option Tree
part_of (Unary op arg) number = if nat_eq number 0 then Some arg else None
part_of (Binary op left right) number =
    if nat_eq number 0 then Some left else (if nat_eq number 1 then Some right else None)
part_of (Load width address) number = if nat_eq number 0 then Some address else None
part_of _ number = None

-- the term over another part in place of the one that has the number
abbrev pub with_part : ℕ → Tree → Tree → Tree
with_part number part (Unary op arg) = Unary op part
with_part number part (Binary op left right) =
    if nat_eq number 0 then Binary op part right else Binary op left part
with_part number part (Load width address) = Load width part
with_part number part t = t

-- there is such a part, and the term has its width
abbrev pub HasWidthOf : Tree → Option Tree → Type 0
HasWidthOf t None = ⊥
HasWidthOf t (Some part) = width_of t ≡ width_of part
