-- Operators whose operands' widths don't fit. A term has a width where it has no clash.
use Rattle.std.specs.Prelude.{ℕ, ◌+◌, List, [], ◌∷◌, ◌++◌, min, nat_lt, nat_eq, Result, Ok, Err, if◌then◌else◌}
use Rattle.qc_words.specs.declared.operator.Op.{Op}
use Rattle.qc_words.specs.declared.operator.Op.TheVariants.{Zx, Sx, Slice}
use Rattle.qc_terms.specs.declared.typing.WidthClash.{WidthClash}
use Rattle.qc_terms.specs.Tree.{Tree, Number, Unary, Binary, Register, Immediate, Load, NextInput, AddressAfter, width_of}

-- two widths that should be equal, if they differ
abbrev pub clash_of_widths : (a b : ℕ) → List WidthClash
clash_of_widths a b = if nat_eq a b then [] else record { a = a; b = b } ∷ []

-- an extension to a smaller width, or a slice past the operand's end, where 65 stands for all ends above 64
abbrev pub clash_of_operand : Op → ℕ → List WidthClash
clash_of_operand (Zx to) width = if nat_lt to width then record { a = width; b = to } ∷ [] else []
clash_of_operand (Sx to) width = if nat_lt to width then record { a = width; b = to } ∷ [] else []
clash_of_operand (Slice low to) width =
    if nat_lt width (low + to) then record { a = width; b = min (low + to) 65 } ∷ [] else []
clash_of_operand _ width = []

-- the clashes of a term in post-order
abbrev pub clashes_of : Tree → List WidthClash
clashes_of (Number value width) = []
clashes_of (Unary op arg) = clashes_of arg ++ clash_of_operand op (width_of arg)
clashes_of (Binary op left right) = clashes_of left ++ (clashes_of right ++ clash_of_widths (width_of left) (width_of right))
clashes_of (Register place width) = []
clashes_of (Immediate operand width) = []
clashes_of (Load width address) = clashes_of address
clashes_of (NextInput width) = []
clashes_of (AddressAfter width) = []

-- the first clash, or this width where there is none
abbrev pub width_or_clash : List WidthClash → ℕ → Result ℕ WidthClash
width_or_clash [] width = Ok width
width_or_clash (clash ∷ clashes) width = Err clash
