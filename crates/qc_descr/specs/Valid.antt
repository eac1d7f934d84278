-- Valid descriptions.
use Rattle.std.specs.Prelude.{ℕ, zero, suc, ◌≡◌, ◌≢◌, ◌<◌, ◌≤◌, ◌+◌, ◌/◌, ◌%◌, ◌^◌, ◌⊎◌, List, [], ◌∷◌, length, sum}
use Rattle.std.specs.Prelude.{map, count_by, slice_get, slice_index, All, Contains, IsTrue, Bool, true, false, ◌&&◌}
use Rattle.std.specs.Prelude.{◌||◌, nat_eq, nat_lt, if◌then◌else◌, Option, None, Some, IfSome}
use Rattle.std.specs.List.{list_all}
use Rattle.qc_terms.specs.declared.state.Order.{Order}
use Rattle.qc_terms.specs.declared.term.Dest.{Dest}
use Rattle.qc_terms.specs.declared.term.Dest.TheVariants as dest
use Rattle.qc_terms.specs.declared.term.Effect.{Effect}
use Rattle.qc_terms.specs.declared.term.Place.{Place}
use Rattle.qc_terms.specs.declared.term.Rtl.{Rtl}
use Rattle.qc_terms.specs.declared.term.Term.{Term}
use Rattle.qc_terms.specs.declared.term.Place.TheVariants as place
use Rattle.qc_terms.specs.Tree.{Tree, Number, Unary, Binary, Register, Immediate, Load, NextInput, AddressAfter}
use Rattle.qc_terms.specs.Tree.{tree_of, nodes_of}
use Rattle.qc_terms.specs.Typing.{HasOneEvent, IsTypedRtl}
use Rattle.qc_descr.specs.declared.coding.Bit.{Bit}
use Rattle.qc_descr.specs.declared.coding.Bit.TheVariants.{Fixed, Piece}
use Rattle.qc_descr.specs.declared.coding.Coding.{Coding}
use Rattle.qc_descr.specs.declared.coding.Reach.{Reach}
use Rattle.qc_descr.specs.declared.coding.Reach.TheVariants.{Plain, Relative, Absolute}
use Rattle.qc_descr.specs.declared.description.Description.{Description}
use Rattle.qc_descr.specs.declared.description.Instruction.{Instruction}
use Rattle.qc_descr.specs.declared.description.OperandKind.{OperandKind}
use Rattle.qc_descr.specs.declared.description.OperandKind.TheVariants as kind
use Rattle.qc_descr.specs.declared.description.Space.{Space}
use Rattle.qc_descr.specs.Coding.{memory_bytes, bytes_differ, is_piece}
use Rattle.qc_descr.specs.Description.{widths_of, counts_of, context_of_description, kinds_of, size_of}
use Rattle.qc_descr.specs.Limits.{least_code, least_data, least_slot_bits, most_cells, most_code, most_effects, most_instructions, most_memory, most_nodes, most_operands, most_spaces, most_tokens}
use Rattle.qc_descr.specs.Names.{HasNames}

-- a cell of a space whose cells are words of the machine
abbrev pub IsWordCell : Description → ℕ × ℕ → Type 0
IsWordCell d cell =
    (cell.0 < length d.spaces) × (cell.1 < slice_index (counts_of d) cell.0)
    × (slice_index (widths_of d) cell.0 ≡ d.facts.word)

-- one of the cells that a compiler may use
abbrev pub IsAllocatable : Description → ℕ × ℕ → Type 0
IsAllocatable d cell = (cell.0 ≡ d.allocatable) × (d.first ≤ cell.1) × (cell.1 ≤ d.last)

-- the sizes of the word, the memory and its regions, the frame, link and zero cells, and the cells of a compiler
pub record HasLayout (d : Description) : Type 0 where
  pub word : (d.facts.word ≡ 16) ⊎ (d.facts.word ≡ 32)
  pub memory_fits : d.memory ≤ 2 ^ d.facts.word
  pub memory_size : d.memory ≤ most_memory
  pub memory_words : d.memory % (d.facts.word / 8) ≡ 0
  pub code_least : least_code ≤ d.code_end
  pub code_most : d.code_end ≤ most_code
  pub «data» : d.code_end + least_data ≤ d.data_end
  pub stack : d.data_end < d.memory
  pub align : Contains (1 ∷ 2 ∷ 4 ∷ 8 ∷ 16 ∷ []) d.align
  pub aligned : All (λ i. size_of i % d.align ≡ 0) d.instructions
  pub slot_least : least_slot_bits ≤ d.slot_bits
  pub slot_most : d.slot_bits ≤ d.facts.word
  pub frame : IsWordCell d d.frame
  pub link : IsWordCell d d.link
  pub other_link : d.link ≢ d.frame
  pub «zero» : IfSome d.facts.zero (λ z. IsWordCell d z × (z ≢ d.frame) × (z ≢ d.link))
  pub range : d.first ≤ d.last
  pub allocatable : IsWordCell d (d.allocatable, d.last)
  pub same_space : (d.frame.0 ≡ d.allocatable) × (d.link.0 ≡ d.allocatable)
  pub free_frame : IsAllocatable d d.frame → ⊥
  pub free_link : IsAllocatable d d.link → ⊥
  pub free_zero : IfSome d.facts.zero (λ z. IsAllocatable d z → ⊥)
  pub no_flags : (s : Space) → slice_get d.spaces d.allocatable ≡ Some s → s.flags ≡ false
  pub flags : All (λ s. s.flags ≡ true → s.width ≡ 1) d.spaces

-- the number of the nodes of an instruction's terms
abbrev pub nodes_of_guard : Option Term → ℕ
nodes_of_guard None = 0
nodes_of_guard (Some guard) = nodes_of (tree_of guard)

abbrev pub nodes_of_dest : Dest → ℕ
nodes_of_dest (dest.Mem width address) = nodes_of (tree_of address)
nodes_of_dest _ = 0

abbrev pub nodes_of_rtl : Rtl → ℕ
nodes_of_rtl rtl =
    sum (map (λ e. nodes_of_guard e.guard + (nodes_of_dest e.to + nodes_of (tree_of e.value))) rtl.effects)

-- how many things of each sort there may be
pub record IsWithinLimits (d : Description) : Type 0 where
  pub instructions : length d.instructions ≤ most_instructions
  pub operands : All (λ i. length i.operands ≤ most_operands) d.instructions
  pub spaces : length d.spaces ≤ most_spaces
  pub cells : All (λ s. s.cells ≤ most_cells) d.spaces
  pub effects : All (λ i. length i.rtl.effects ≤ most_effects) d.instructions
  pub nodes : All (λ i. nodes_of_rtl i.rtl ≤ most_nodes) d.instructions

-- An operand that is named as a register is one, of this space. One that is named as an immediate is one of this width,
-- or an address, where the width is the word's.
abbrev pub NamesPlace : List OperandKind → Place → Type 0
NamesPlace kinds (place.Cell space index) = Unit {0}
NamesPlace kinds (place.Operand space number) = slice_get kinds number ≡ Some (kind.Register space)

abbrev pub NamesImmediate : ℕ → List OperandKind → ℕ → ℕ → Type 0
NamesImmediate word kinds operand width =
    (slice_get kinds operand ≡ Some (kind.Imm width))
    ⊎ ((slice_get kinds operand ≡ Some kind.Addr) × (width ≡ word))

abbrev pub NamesOperands : ℕ → List OperandKind → Tree → Type 0
NamesOperands word kinds (Number value width) = Unit {0}
NamesOperands word kinds (Unary op arg) = NamesOperands word kinds arg
NamesOperands word kinds (Binary op left right) = NamesOperands word kinds left × NamesOperands word kinds right
NamesOperands word kinds (Register place width) = NamesPlace kinds place
NamesOperands word kinds (Immediate operand width) = NamesImmediate word kinds operand width
NamesOperands word kinds (Load width address) = NamesOperands word kinds address
NamesOperands word kinds (NextInput width) = Unit {0}
NamesOperands word kinds (AddressAfter width) = Unit {0}

-- a destination names each operand as what it is
abbrev pub NamesDest : ℕ → List OperandKind → Dest → Type 0
NamesDest word kinds (dest.Reg place) = NamesPlace kinds place
NamesDest word kinds (dest.Mem width address) = NamesOperands word kinds (tree_of address)
NamesDest word kinds _ = Unit {0}

-- an effect names each operand as what it is, for a machine of words of this width
pub record EffectNames (word : ℕ) (kinds : List OperandKind) (e : Effect) : Type 0 where
  pub guard : IfSome e.guard (λ g. NamesOperands word kinds (tree_of g))
  pub value : NamesOperands word kinds (tree_of e.value)
  pub to : NamesDest word kinds e.to

-- An operand's number of bits: 2 to that number is its space's number of cells, or it is the immediate's width. These
-- are coded as they are. An address is relative or absolute, and has the bits of its reach, at most a word's.
abbrev pub HasSize : Description → OperandKind → Reach → ℕ → Type 0
HasSize d (kind.Register space) Plain size =
    (space < length d.spaces) × (slice_index (counts_of d) space ≡ 2 ^ size)
HasSize d (kind.Imm width) Plain size = size ≡ width
HasSize d kind.Addr (Relative bits) size = (1 ≤ bits) × (bits ≤ d.facts.word) × (size ≡ bits)
HasSize d kind.Addr (Absolute bits) size = (1 ≤ bits) × (bits ≤ d.facts.word) × (size ≡ bits)
HasSize d _ _ size = ⊥

-- how many of an operand's lowest bits stand nowhere in the coding: of an address some, of any other operand none
abbrev pub MayDrop : OperandKind → ℕ → ℕ → Type 0
MayDrop kind.Addr size dropped = dropped ≤ size
MayDrop _ size dropped = dropped ≡ 0

-- each operand has one reach, a size, and a number of dropped bits
abbrev pub HaveSizes : Description → List OperandKind → List Reach → List ℕ → List ℕ → Type 0
HaveSizes d [] [] [] [] = Unit {0}
HaveSizes d (k ∷ kinds) (reach ∷ reaches) (size ∷ sizes) (n ∷ dropped) =
    HasSize d k reach size × MayDrop k size n × HaveSizes d kinds reaches sizes dropped
HaveSizes d _ _ _ _ = ⊥

-- the test of each number below n
unfoldable pub all_below : ℕ → (ℕ → Bool) → Bool
all_below zero test = true
all_below (suc n) test = test n && all_below n test

-- a fixed bit, or a bit that an operand of these sizes has
abbrev pub is_within : List ℕ → Bit → Bool
is_within sizes (Fixed one) = true
is_within sizes (Piece operand bit) = nat_lt operand (length sizes) && nat_lt bit (slice_index sizes operand)

-- each bit of each operand stands in just one place, but for the lowest ones that are dropped, which stand in none
abbrev pub stands_once : List ℕ → List ℕ → List Bit → Bool
stands_once sizes dropped bits =
    all_below (length sizes) (λ operand.
    all_below (slice_index sizes operand) (λ bit.
    nat_eq (count_by (is_piece operand bit) bits) (if nat_lt bit (slice_index dropped operand) then 0 else 1)))

-- a size that a token may have
abbrev pub is_token : ℕ → Bool
is_token size = nat_eq size 8 || nat_eq size 16 || nat_eq size 32

-- The tokens have fitting sizes and no free bit, and each bit of each operand stands in just one place, but for lowest
-- bits of addresses that are dropped.
pub record IsCovered (d : Description) (i : Instruction) : Type 0 where
  pub some_token : 1 ≤ length i.coding.tokens
  pub few_tokens : length i.coding.tokens ≤ most_tokens
  pub tokens : IsTrue (list_all is_token i.coding.tokens)
  pub no_free_bit : length i.coding.bits ≡ sum i.coding.tokens
  pub sizes : List ℕ
  pub dropped : List ℕ
  pub sized : HaveSizes d (kinds_of i) i.coding.reaches sizes dropped
  pub within : IsTrue (list_all (is_within sizes) i.coding.bits)
  pub once : IsTrue (stands_once sizes dropped i.coding.bits)

-- The register transfer list is well typed, shows one thing at most and names the operands as what they are; and the
-- coding leaves no bit open.
pub record IsValidInstruction (d : Description) (i : Instruction) : Type 0 where
  pub typed : IsTypedRtl (context_of_description d) i.rtl
  pub event : HasOneEvent i.rtl
  pub names : All (EffectNames d.facts.word (kinds_of i)) i.rtl.effects
  pub covered : IsCovered d i

-- For each two instructions some bit, by its place in memory and below both lengths, is constant in both and not equal,
-- so that no bytes begin with both.
abbrev pub all_differ : Order → List Coding → Bool
all_differ order [] = true
all_differ order (c ∷ cs) =
    list_all (λ other. bytes_differ (memory_bytes order c) (memory_bytes order other)) cs && all_differ order cs

-- a description that the machine and the compiler may stand on
pub record IsValid (d : Description) : Type 0 where
  pub layout : HasLayout d
  pub limits : IsWithinLimits d
  pub names : HasNames d
  pub instructions : All (IsValidInstruction d) d.instructions
  pub differ : IsTrue (all_differ d.facts.order (map (λ i. i.coding) d.instructions))
