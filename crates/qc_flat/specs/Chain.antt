-- Terms as chains: a word that is at hand, and then links, each of which makes a word of the one that was made last.
use Rattle.std.specs.Prelude.{ℕ, ◌≡◌, ◌+◌, ◌*◌, ◌<◌, ◌≤◌, ◌^◌, Bool, true, false, if◌then◌else◌, nat_eq, nat_le, List, [], ◌∷◌, Option, None, Some, option_and_then, length, slice_index}
use Rattle.std.specs.Option.{is_some}
use Rattle.qc_words.specs.Operators.{Accepts, result_of, result_width_of}
use Rattle.qc_terms.specs.declared.state.State.{State}
use Rattle.qc_terms.specs.Cells.{cell_of}
use Rattle.qc_terms.specs.Memory.{load_of}
use Rattle.qc_terms.specs.State.{Context}
use Rattle.qc_terms.specs.Tree.{Tree, width_of, Unary, Binary, Register, Immediate, NextInput, AddressAfter}
use Rattle.qc_terms.specs.Tree as tree
use Rattle.qc_terms.specs.Value.{value_of}
use Rattle.qc_flat.specs.declared.chain.Chain.{Chain}
use Rattle.qc_flat.specs.declared.chain.Link.{Link}
use Rattle.qc_flat.specs.declared.chain.Link.TheVariants.{Apply, Load}
use Rattle.qc_flat.specs.declared.chain.Source.{Source}
use Rattle.qc_flat.specs.declared.chain.Source.TheVariants.{Number, Cell, Zero}

-- the word at hand
abbrev pub word_of_source : Source → State → ℕ
word_of_source (Number value) s = value
word_of_source (Cell space index) s = cell_of s.cells space index
word_of_source Zero s = 0

-- the word that a link makes of another; none where a load isn't wholly inside the memory
abbrev pub after_link : Link → ℕ → State → Option ℕ
after_link (Apply op width second) word s = Some (result_of op width word (word_of_source second s))
after_link (Load width count) word s = load_of s.facts.order s.memory count word

abbrev pub after_links : List Link → ℕ → State → Option ℕ
after_links [] word s = Some word
after_links (link ∷ links) word s = option_and_then (λ next. after_links links next s) (after_link link word s)

-- the value of a chain
abbrev pub value_of_chain : Chain → State → Option ℕ
value_of_chain c s = after_links c.links.items (word_of_source c.start s) s

-- the word at hand is there, and has this width
abbrev pub IsTypedSource : Context → ℕ → Source → Type 0
IsTypedSource context width (Number value) = value < 2 ^ width
IsTypedSource context width (Cell space index) =
    (space < length context.widths) × (index < slice_index context.counts space) × (width ≡ slice_index context.widths space)
IsTypedSource context width Zero = Unit {0}

-- the width of the word that a link takes, and of the one that it makes
abbrev pub width_taken : Link → ℕ
width_taken (Apply op width second) = width
width_taken (Load width count) = width

abbrev pub width_made : Link → ℕ
width_made (Apply op width second) = result_width_of op width
width_made (Load width count) = 8 * count

-- the operator may be applied to words of this width, and the second one is there
abbrev pub IsTypedLink : Context → Link → Type 0
IsTypedLink context (Apply op width second) = Accepts op width × IsTypedSource context width second
IsTypedLink context (Load width count) = count ≤ 8

-- the width of the word that links take, of which the last makes a word of this width
abbrev pub width_before : ℕ → List Link → ℕ
width_before width [] = width
width_before width (link ∷ links) = width_taken link

-- each link makes a word of the width that the next one takes, and the last makes one of this width
abbrev pub AreTypedLinks : Context → ℕ → List Link → Type 0
AreTypedLinks context width [] = Unit {0}
AreTypedLinks context width (link ∷ links) =
    IsTypedLink context link × (width_made link ≡ width_before width links) × AreTypedLinks context width links

-- the chain can be run in each state with this word and these spaces
pub record IsTypedChain (context : Context) (c : Chain) : Type 0 where
  pub start : IsTypedSource context (width_before c.width c.links.items) c.start
  pub links : AreTypedLinks context c.width c.links.items

-- The chain stands for a term under these operands, with this address after the instruction, in each state where this
-- cell always reads 0.
pub record IsChainOf (context : Context) (zero : Option (ℕ × ℕ)) (operands : List ℕ) (after : ℕ) (t : Tree) (c : Chain) : Type 0 where
  pub typed : IsTypedChain context c
  pub width : c.width ≡ width_of t
  pub value : (s : State) → s.facts.zero ≡ zero → value_of_chain c s ≡ value_of t operands after s

-- The term is a number of the instance: one that stands in the list, an operand or the address after the instruction, or
-- an operator of one operand at such a one.
abbrev pub is_number : Tree → Bool
is_number (tree.Number value width) = true
is_number (Unary op arg) = is_number arg
is_number (Binary op left right) = false
is_number (Register place width) = false
is_number (Immediate operand width) = true
is_number (tree.Load width address) = false
is_number (NextInput width) = false
is_number (AddressAfter width) = true

-- the number of links with one more, where a chain has room for it: it has four at most
abbrev pub one_link_more : ℕ → Option ℕ
one_link_more n = if nat_le 4 n then None else Some (n + 1)

-- The number of links of a term's chain: one for each operator and each load, but for operators at numbers of the
-- instance. There is no chain where the input is read, where the second operand of an operator has a link, and where
-- there are more than four links.
abbrev pub link_count : Tree → Option ℕ
link_count (tree.Number value width) = Some 0
link_count (Unary op arg) = if is_number arg then Some 0 else option_and_then one_link_more (link_count arg)
link_count (Binary op left right) =
    option_and_then (λ n. if nat_eq n 0 then option_and_then one_link_more (link_count left) else None) (link_count right)
link_count (Register place width) = Some 0
link_count (Immediate operand width) = Some 0
link_count (tree.Load width address) = option_and_then one_link_more (link_count address)
link_count (NextInput width) = None
link_count (AddressAfter width) = Some 0

-- the term has a chain
abbrev pub has_chain : Tree → Bool
has_chain t = is_some (link_count t)
