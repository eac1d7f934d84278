-- Trees are stored as the terms whose trees they are, by which a proof tells two of them apart.
use Rattle.std.specs.Prelude.{◌≡◌}
use Rattle.std.specs.Coded.{Coded, code_by}
use Rattle.std.proofs.Common.{ap, ◌∙◌}
use Rattle.qc_terms.specs.contracts.term.Term as e
use Rattle.qc_terms.specs.declared.term.Term.{Term}
use Rattle.qc_terms.specs.declared.term.Term.TheVariants as term
use Rattle.qc_terms.specs.Tree.{Tree, Number, Unary, Binary, Register, Immediate, Load, NextInput, AddressAfter, tree_of, tree_of-num, tree_of-un, tree_of-bin, tree_of-reg, tree_of-imm, tree_of-mem, tree_of-input, tree_of-after}

-- the term of a tree
abbrev pub term_for : Tree → Term
term_for (Number value width) = term.Num value width
term_for (Unary op arg) = term.Un op (term_for arg)
term_for (Binary op left right) = term.Bin op (term_for left) (term_for right)
term_for (Register place width) = term.Reg place width
term_for (Immediate operand width) = term.Imm operand width
term_for (Load width address) = term.Mem width (term_for address)
term_for (NextInput width) = term.Input width
term_for (AddressAfter width) = term.After width

pub tree_of-term_for : (t : Tree) → tree_of (term_for t) ≡ t
tree_of-term_for (Number value width) = tree_of-num value width
tree_of-term_for (Unary op arg) = tree_of-un op (term_for arg) ∙ ap (λ x. Unary op x) (tree_of-term_for arg)
tree_of-term_for (Binary op left right) =
    tree_of-bin op (term_for left) (term_for right)
    ∙ ap (λ x. Binary op x (tree_of (term_for right))) (tree_of-term_for left)
    ∙ ap (λ y. Binary op left y) (tree_of-term_for right)
tree_of-term_for (Register place width) = tree_of-reg place width
tree_of-term_for (Immediate operand width) = tree_of-imm operand width
tree_of-term_for (Load width address) = tree_of-mem width (term_for address) ∙ ap (λ x. Load width x) (tree_of-term_for address)
tree_of-term_for (NextInput width) = tree_of-input width
tree_of-term_for (AddressAfter width) = tree_of-after width

abbrev pub tree_code : Coded Tree
tree_code = code_by Term e.the_row.coded term_for tree_of tree_of-term_for
