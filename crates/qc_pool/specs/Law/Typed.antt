-- A term that is typed for some machine has the widths that it needs.
use Rattle.qc_terms.specs.State.{Context}
use Rattle.qc_terms.specs.Tree.{Tree, Number, Unary, Binary, Register, Immediate, Load, NextInput, AddressAfter}
use Rattle.qc_terms.specs.Typing.{IsTyped}
use Rattle.qc_pool.specs.Widths.{HasWidths}

pub typed_has_widths : (context : Context) (t : Tree) → IsTyped context t → HasWidths t
typed_has_widths context (Number value width) typed = typed
typed_has_widths context (Unary op arg) typed = (typed.0, typed.1, typed_has_widths context arg typed.2)
typed_has_widths context (Binary op left right) typed =
    (typed.0, typed.1, typed.2, typed_has_widths context left typed.3, typed_has_widths context right typed.4)
typed_has_widths context (Register place width) typed = tt
typed_has_widths context (Immediate operand width) typed = tt
typed_has_widths context (Load width address) typed = typed_has_widths context address typed.1
typed_has_widths context (NextInput width) typed = tt
typed_has_widths context (AddressAfter width) typed = tt
