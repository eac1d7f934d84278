-- Chains that grow by a link, and how many links they have.
use Rattle.std.specs.Prelude.{ℕ, ◌≡◌, ◌<◌, Bool, true, false, if◌then◌else◌, List, [], ◌∷◌, ◌++◌, Option, Some, length, slice_index}
use Rattle.std.specs.Option.{option_map}
use Rattle.qc_words.specs.declared.operator.Op.{Op}
use Rattle.qc_words.specs.Operators.{Accepts, result_of, result_width_of}
use Rattle.qc_terms.specs.declared.state.State.{State}
use Rattle.qc_terms.specs.State.{Context}
use Rattle.qc_flat.specs.declared.chain.Chain.{Chain}
use Rattle.qc_flat.specs.declared.chain.Link.{Link}
use Rattle.qc_flat.specs.declared.chain.Source.{Source}
use Rattle.qc_flat.specs.declared.chain.Source.TheVariants.{Number, Cell, Zero}
use Rattle.qc_flat.specs.Chain.{AreTypedLinks, IsTypedChain, IsTypedSource, after_links, one_link_more, value_of_chain, width_before, word_of_source}

-- the word at hand is there
abbrev pub IsThere : Context → Source → Type 0
IsThere context (Number value) = Unit {0}
IsThere context (Cell space index) = (space < length context.widths) × (index < slice_index context.counts space)
IsThere context Zero = Unit {0}

-- the word at hand and these links, with one link more, whose word has this width
pub record IsLinked (first : Source) (before : List Link) (link : Link) (made : ℕ) (c : Chain) : Type 0 where
  pub start : c.start ≡ first
  pub links : c.links.items ≡ before ++ link ∷ []
  pub width : c.width ≡ made

-- the value of a word at hand with these links
abbrev pub value_of_links : Source → List Link → State → Option ℕ
value_of_links start links s = after_links links (word_of_source start s) s

-- The word at hand with these links, which make a word of this width, can be run in each state with this word and these
-- spaces.
pub record AreTypedFrom (context : Context) (start : Source) (links : List Link) (width : ℕ) : Type 0 where
  pub first : IsTypedSource context (width_before width links) start
  pub rest : AreTypedLinks context width links

-- The chain of an operator of one operand: it has the operator's width, can be run where the operand can, and has the
-- operator's value at the operand's.
pub record IsUnaryChain (op : Op) (start : Source) (links : List Link) (operand : ℕ) (c : Chain) : Type 0 where
  pub typed : (context : Context) → AreTypedFrom context start links operand → Accepts op operand → IsTypedChain context c
  pub width : c.width ≡ result_width_of op operand
  pub value : (s : State) → value_of_chain c s ≡ option_map (λ word. result_of op operand word 0) (value_of_links start links s)

-- the word at hand with these links is a number
abbrev pub is_number_alone : Source → List Link → Bool
is_number_alone (Number value) [] = true
is_number_alone _ _ = false

-- the number of links of a chain, where there is one
abbrev pub links_of : Option Chain → Option ℕ
links_of chain = option_map (λ c. length c.links.items) chain

-- the number of links after an operator of one operand, which is applied at once to a number
abbrev pub links_after_one : Source → List Link → Option ℕ
links_after_one start links = if is_number_alone start links then Some 0 else one_link_more (length links)
