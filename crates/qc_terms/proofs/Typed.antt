-- Typed terms have no clash of widths.
use Rattle.std.proofs.Common.{◌≡◌, ◌∙◌, ℕ, [], ◌++◌, refl, ap, arith}
use Rattle.qc_words.specs.declared.operator.Op.{Op}
use Rattle.qc_words.specs.declared.operator.Op.TheVariants.{Zx, Sx, Slice}
use Rattle.qc_words.specs.Operators.{Accepts}
use Rattle.qc_terms.specs.Clashes.{clash_of_operand, clash_of_widths, clashes_of}
use Rattle.qc_terms.specs.State.{Context}
use Rattle.qc_terms.specs.Tree.{AddressAfter, Binary, Immediate, Load, NextInput, Number, Register, Tree, Unary, width_of}
use Rattle.qc_terms.specs.Typing.{IsTyped}

no_operand_clash : (op : Op) (width : ℕ) → Accepts op width → clash_of_operand op width ≡ []
no_operand_clash (Zx to) width fits = grind (arith, fits)
no_operand_clash (Sx to) width fits = grind (arith, fits)
no_operand_clash (Slice low to) width fits = grind (arith, fits)
no_operand_clash _ width fits = refl

no_width_clash : (a b : ℕ) → a ≡ b → clash_of_widths a b ≡ []
no_width_clash a b same = grind (arith, same)

pub no_clash : (context : Context) (t : Tree) → IsTyped context t → clashes_of t ≡ []
no_clash context (Number value width) typed = refl
no_clash context (Unary op arg) typed =
    ap (λ xs. xs ++ clash_of_operand op (width_of arg)) (no_clash context arg typed.2)
    ∙ no_operand_clash op (width_of arg) typed.1
no_clash context (Binary op left right) typed =
    ap (λ xs. xs ++ (clashes_of right ++ clash_of_widths (width_of left) (width_of right))) (no_clash context left typed.3)
    ∙ ap (λ xs. xs ++ clash_of_widths (width_of left) (width_of right)) (no_clash context right typed.4)
    ∙ no_width_clash (width_of left) (width_of right) typed.2
no_clash context (Register place width) typed = refl
no_clash context (Immediate operand width) typed = refl
no_clash context (Load width address) typed = no_clash context address typed.1
no_clash context (NextInput width) typed = refl
no_clash context (AddressAfter width) typed = refl
