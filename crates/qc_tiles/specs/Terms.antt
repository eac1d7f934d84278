-- The term of a tree, for lists of effects that are given by trees.
use Rattle.qc_terms.specs.declared.term.Term.{Term}
use Rattle.qc_terms.specs.declared.term.Term.TheVariants as term
use Rattle.qc_terms.specs.Tree.{Tree, Number, Unary, Binary, Register, Immediate, Load, NextInput, AddressAfter}

abbrev pub term_of : Tree → Term
term_of (Number value width) = term.Num value width
term_of (Unary op arg) = term.Un op (term_of arg)
term_of (Binary op left right) = term.Bin op (term_of left) (term_of right)
term_of (Register place width) = term.Reg place width
term_of (Immediate operand width) = term.Imm operand width
term_of (Load width address) = term.Mem width (term_of address)
term_of (NextInput width) = term.Input width
term_of (AddressAfter width) = term.After width
