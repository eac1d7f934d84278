-- Terms as plain trees, without where they lie in memory. Definitions about terms are recursions on trees.
use Rattle.std.specs.Prelude.{ℕ, ◌≡◌, ◌+◌, Bool, true, false, ◌||◌}
use Rattle.std.proofs.Common.{ap, sym, ◌∙◌}
use Rattle.qc_words.specs.declared.operator.Op.{Op}
use Rattle.qc_words.specs.Operators.{result_width_of}
use Rattle.qc_terms.specs.declared.term.Place.{Place}
use Rattle.qc_terms.specs.declared.term.Term.{Term, fold-Term, fold-roll-Term}
use Rattle.qc_terms.specs.declared.term.Term.TheVariants as term
use Rattle.qc_terms.specs.declared.term.Term.TheOpen.{Term-F, Num, Un, Bin, Reg, Imm, Mem, Input, After}

pub data Tree : Type 0 where
  Number : (value width : ℕ) → Tree
  Unary : (op : Op) (arg : Tree) → Tree
  Binary : (op : Op) (left right : Tree) → Tree
  Register : (place : Place) (width : ℕ) → Tree
  Immediate : (operand width : ℕ) → Tree
  Load : (width : ℕ) (address : Tree) → Tree
  NextInput : (width : ℕ) → Tree
  AddressAfter : (width : ℕ) → Tree

-- one layer of a term over the trees of its parts
abbrev pub tree_layer : Term-F Tree → Tree
tree_layer (Num value width) = Number value width
tree_layer (Un op arg) = Unary op arg
tree_layer (Bin op left right) = Binary op left right
tree_layer (Reg place width) = Register place width
tree_layer (Imm operand width) = Immediate operand width
tree_layer (Mem width address) = Load width address
tree_layer (Input width) = NextInput width
tree_layer (After width) = AddressAfter width

-- the tree of a term
abbrev pub tree_of : Term → Tree
tree_of = fold-Term Tree tree_layer

-- The width of a term. That of an ill-typed one has no meaning.
abbrev pub width_of : Tree → ℕ
width_of (Number value width) = width
width_of (Unary op arg) = result_width_of op (width_of arg)
width_of (Binary op left right) = result_width_of op (width_of left)
width_of (Register place width) = width
width_of (Immediate operand width) = width
width_of (Load width address) = width
width_of (NextInput width) = width
width_of (AddressAfter width) = width

-- the number of a term's nodes
abbrev pub nodes_of : Tree → ℕ
nodes_of (Number value width) = 1
nodes_of (Unary op arg) = 1 + nodes_of arg
nodes_of (Binary op left right) = 1 + (nodes_of left + nodes_of right)
nodes_of (Register place width) = 1
nodes_of (Immediate operand width) = 1
nodes_of (Load width address) = 1 + nodes_of address
nodes_of (NextInput width) = 1
nodes_of (AddressAfter width) = 1

-- the next word of the input stands in the term
abbrev pub has_input : Tree → Bool
has_input (Number value width) = false
has_input (Unary op arg) = has_input arg
has_input (Binary op left right) = has_input left || has_input right
has_input (Register place width) = false
has_input (Immediate operand width) = false
has_input (Load width address) = has_input address
has_input (NextInput width) = true
has_input (AddressAfter width) = false

-- the tree of each variant
pub tree_of-num : (value width : ℕ) → tree_of (term.Num value width) ≡ Number value width
tree_of-num value width =
    ap tree_of (sym (term.rolls-Num value width)) ∙ fold-roll-Term Tree tree_layer (Num value width)

pub tree_of-reg : (place : Place) (width : ℕ) → tree_of (term.Reg place width) ≡ Register place width
tree_of-reg place width =
    ap tree_of (sym (term.rolls-Reg place width)) ∙ fold-roll-Term Tree tree_layer (Reg place width)

pub tree_of-imm : (operand width : ℕ) → tree_of (term.Imm operand width) ≡ Immediate operand width
tree_of-imm operand width =
    ap tree_of (sym (term.rolls-Imm operand width)) ∙ fold-roll-Term Tree tree_layer (Imm operand width)

pub tree_of-input : (width : ℕ) → tree_of (term.Input width) ≡ NextInput width
tree_of-input width = ap tree_of (sym (term.rolls-Input width)) ∙ fold-roll-Term Tree tree_layer (Input width)

pub tree_of-after : (width : ℕ) → tree_of (term.After width) ≡ AddressAfter width
tree_of-after width = ap tree_of (sym (term.rolls-After width)) ∙ fold-roll-Term Tree tree_layer (After width)

pub tree_of-mem : (width : ℕ) (address : Term) → tree_of (term.Mem width address) ≡ Load width (tree_of address)
tree_of-mem width address =
    ap tree_of (sym (term.rolls-Mem width address)) ∙ fold-roll-Term Tree tree_layer (Mem width address)

pub tree_of-un : (op : Op) (arg : Term) → tree_of (term.Un op arg) ≡ Unary op (tree_of arg)
tree_of-un op arg = ap tree_of (sym (term.rolls-Un op arg)) ∙ fold-roll-Term Tree tree_layer (Un op arg)

pub tree_of-bin : (op : Op) (left right : Term) → tree_of (term.Bin op left right) ≡ Binary op (tree_of left) (tree_of right)
tree_of-bin op left right =
    ap tree_of (sym (term.rolls-Bin op left right)) ∙ fold-roll-Term Tree tree_layer (Bin op left right)
