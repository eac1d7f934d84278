-- A tree is the tree of its term.
use Rattle.std.proofs.Common.{◌≡◌, ◌∙◌, ap}
use Rattle.qc_terms.specs.Tree.{AddressAfter, Binary, Immediate, Load, NextInput, Number, Register, Tree, Unary, tree_of, tree_of-after, tree_of-bin, tree_of-imm, tree_of-input, tree_of-mem, tree_of-num, tree_of-reg, tree_of-un}
use Rattle.qc_tiles.specs.Terms.{term_of}

pub tree_of-term_of : (t : Tree) → tree_of (term_of t) ≡ t
tree_of-term_of (Number value width) = tree_of-num value width
tree_of-term_of (Unary op arg) = tree_of-un op (term_of arg) ∙ ap (Unary op) (tree_of-term_of arg)
tree_of-term_of (Binary op left right) =
    tree_of-bin op (term_of left) (term_of right) ∙ ap (λ l. Binary op l (tree_of (term_of right))) (tree_of-term_of left)
    ∙ ap (Binary op left) (tree_of-term_of right)
tree_of-term_of (Register place width) = tree_of-reg place width
tree_of-term_of (Immediate operand width) = tree_of-imm operand width
tree_of-term_of (Load width address) = tree_of-mem width (term_of address) ∙ ap (Load width) (tree_of-term_of address)
tree_of-term_of (NextInput width) = tree_of-input width
tree_of-term_of (AddressAfter width) = tree_of-after width
