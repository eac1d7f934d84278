-- Terms whose numbers and operands have the widths that they need, whatever the machine.
use Rattle.std.specs.Prelude.{◌≡◌, ◌<◌, ◌^◌, true, false}
use Rattle.qc_words.specs.Operators.{Accepts, is_unary}
use Rattle.qc_terms.specs.Tree.{Tree, Number, Unary, Binary, Register, Immediate, Load, NextInput, AddressAfter, width_of}

-- Each number fits its width, and an operator's operands have one width that it accepts.
abbrev pub HasWidths : Tree → Type 0
HasWidths (Number value width) = value < 2 ^ width
HasWidths (Unary op arg) = (is_unary op ≡ true) × Accepts op (width_of arg) × HasWidths arg
HasWidths (Binary op left right) =
    (is_unary op ≡ false) × Accepts op (width_of left) × (width_of left ≡ width_of right) × HasWidths left × HasWidths right
HasWidths (Register place width) = Unit {0}
HasWidths (Immediate operand width) = Unit {0}
HasWidths (Load width address) = HasWidths address
HasWidths (NextInput width) = Unit {0}
HasWidths (AddressAfter width) = Unit {0}
