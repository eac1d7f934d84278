-- The terms that nodes stand for, over the list of the terms of a pool's ids.
use Rattle.std.specs.Prelude.{ℕ, ◌≡◌, ◌<◌, ◌^◌, List, length, slice_index_or, true, false}
use Rattle.qc_words.specs.Operators.{Accepts, is_unary}
use Rattle.qc_terms.specs.Tree.{Tree, Number, Unary, Binary, Register, Immediate, Load, NextInput, AddressAfter, width_of}
use Rattle.qc_pool.specs.declared.node.Node.{Node}
use Rattle.qc_pool.specs.declared.node.Node.TheVariants.{Num, Un, Bin, Reg, Imm, Mem, Input, After}

-- the term of an id
abbrev pub term_at : List Tree → ℕ → Tree
term_at terms id = slice_index_or terms id (Number 0 1)

-- the term of a node
abbrev pub term_of : List Tree → Node → Tree
term_of terms (Num value width) = Number value width
term_of terms (Un op arg) = Unary op (term_at terms arg)
term_of terms (Bin op left right) = Binary op (term_at terms left) (term_at terms right)
term_of terms (Reg place width) = Register place width
term_of terms (Imm operand width) = Immediate operand width
term_of terms (Mem width address) = Load width (term_at terms address)
term_of terms (Input width) = NextInput width
term_of terms (After width) = AddressAfter width

-- A node's parts are terms of the list, with widths that its operator accepts, and a number fits its width.
abbrev pub NodeFits : List Tree → Node → Type 0
NodeFits terms (Num value width) = value < 2 ^ width
NodeFits terms (Un op arg) = (arg < length terms) × (is_unary op ≡ true) × Accepts op (width_of (term_at terms arg))
NodeFits terms (Bin op left right) =
    (left < length terms) × (right < length terms) × (is_unary op ≡ false)
    × Accepts op (width_of (term_at terms left)) × (width_of (term_at terms left) ≡ width_of (term_at terms right))
NodeFits terms (Reg place width) = Unit {0}
NodeFits terms (Imm operand width) = Unit {0}
NodeFits terms (Mem width address) = address < length terms
NodeFits terms (Input width) = Unit {0}
NodeFits terms (After width) = Unit {0}
