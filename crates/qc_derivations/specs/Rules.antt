-- The rules that the parts of a node keep: leaves that meet parts of the goal, operands with what stands for them,
-- assignments beside the goal, and addresses.
use Rattle.std.specs.Prelude.{ℕ, ◌+◌, ◌%◌, ◌^◌, Bool, true, false, ◌&&◌, ◌||◌, not, List, [], ◌∷◌, length, nat_eq, nat_le, nat_lt, slice_get, slice_index, Option, None, Some, if◌then◌else◌}
use Rattle.std.specs.List.{find, list_any}
use Rattle.std.specs.Option.{option_map}
use Rattle.qc_words.specs.declared.operator.Op.{Op}
use Rattle.qc_words.specs.declared.operator.Op.TheVariants.{Zx, Sx}
use Rattle.qc_words.specs.Operators.{result_of, result_width_of}
use Rattle.qc_terms.specs.declared.term.Place.{Place}
use Rattle.qc_terms.specs.declared.term.Place.TheVariants as place
use Rattle.qc_terms.specs.Tree.{Tree, Number, has_input, width_of}
use Rattle.qc_descr.specs.declared.coding.Coding.{Coding}
use Rattle.qc_descr.specs.declared.coding.Reach.{Reach}
use Rattle.qc_descr.specs.declared.coding.Reach.TheVariants.{Plain, Relative, Absolute}
use Rattle.qc_descr.specs.declared.description.OperandKind.{OperandKind}
use Rattle.qc_descr.specs.declared.description.OperandKind.TheVariants as kind
use Rattle.qc_descr.specs.CodingFaults.{missing_from}
use Rattle.qc_equations.specs.Matching.{is_constant}
use Rattle.qc_tiles.specs.Sound.{has_load}
use Rattle.qc_derivations.specs.declared.derivation.Leaf.{Leaf}
use Rattle.qc_derivations.specs.declared.derivation.Leaf.TheVariants as leaf
use Rattle.qc_derivations.specs.Forest.{Stand, Own, Spare, Child, Param, Cell, Constant}
use Rattle.qc_derivations.specs.Machine.{Assignment, Destination, Machine, ToPlace, ToMemory, has_flags, is_zero}
use Rattle.qc_derivations.specs.Matching.{Pair}
use Rattle.qc_derivations.specs.Same.{has_immediate, is_immediate, is_number, is_operand, is_register, reads_operand, same_place, same_tree}

-- ---- what stands at an operand or a flag

-- the leaf is the register of the operand of this number
abbrev pub is_register_leaf : ℕ → Leaf → Bool
is_register_leaf number (leaf.Register p width) = is_operand number p
is_register_leaf number _ = false

-- the leaf is of the operand of this number
abbrev pub is_leaf_of : ℕ → Leaf → Bool
is_leaf_of number (leaf.Register p width) = is_operand number p
is_leaf_of number (leaf.Immediate operand width) = nat_eq number operand
is_leaf_of number (leaf.Extended op operand width) = nat_eq number operand

abbrev pub is_flag : Machine → Place → Bool
is_flag m (place.Cell space index) = has_flags m space
is_flag m (place.Operand space number) = false

-- the leaf is a flag cell that the instruction names by its number
abbrev pub is_flag_leaf : Machine → Leaf → Bool
is_flag_leaf m (leaf.Register p width) = is_flag m p
is_flag_leaf m _ = false

-- the operand meets a part of the goal
abbrev pub is_met : ℕ → List Pair → Bool
is_met number pairs = list_any (λ p. is_leaf_of number p.leaf) pairs

-- the first part of the goal that the register of an operand meets: what a child has to compute for it
abbrev pub register_part : ℕ → List Pair → Option Tree
register_part number pairs = option_map (λ p. p.part) (find (λ p. is_register_leaf number p.leaf) pairs)

-- the first flag that the instruction reads, with the part of the goal that it meets
abbrev pub flag_pair : Machine → List Pair → Option Pair
flag_pair m pairs = find (λ p. is_flag_leaf m p.leaf) pairs

-- ---- leaves

-- the tree is the cell, or the number 0 where the cell always reads 0
abbrev pub is_read_as : Machine → ℕ → ℕ → ℕ → Tree → Bool
is_read_as m space index width part =
    is_register (place.Cell space index) width part || (is_zero m space index && is_number 0 width part)

abbrev pub is_same_part : Tree → Option Tree → Bool
is_same_part part None = false
is_same_part part (Some other) = same_tree part other

-- A part of the goal is what a child computes: it has the register's width, and the operand meets it everywhere.
abbrev pub is_computed : Option Tree → ℕ → Tree → Bool
is_computed first width part = nat_eq width (width_of part) && is_same_part part first

-- the register of an operand of a space meets the part
abbrev pub operand_meets : Machine → List Pair → ℕ → ℕ → ℕ → Tree → Option Stand → Bool
operand_meets m pairs space number width part (Some (Param parameter)) =
    is_register (place.Operand space parameter) width part
operand_meets m pairs space number width part (Some (Cell other index)) = is_read_as m other index width part
operand_meets m pairs space number width part (Some Child) = is_computed (register_part number pairs) width part
operand_meets m pairs space number width part _ = false

abbrev pub is_same_leaf : Leaf → Leaf → Bool
is_same_leaf (leaf.Register p width) (leaf.Register q other) = same_place p q
is_same_leaf _ _ = false

-- the flag and the part of the goal are the first ones
abbrev pub is_flag_of : Option Pair → Leaf → ℕ → Tree → Bool
is_flag_of None l width part = false
is_flag_of (Some first) l width part = is_same_leaf first.leaf l && is_computed (Some first.part) width part

-- the number of a tree that is one
abbrev pub value_in : Tree → Option ℕ
value_in (Number value width) = Some value
value_in _ = None

-- an extension of words of this width
abbrev pub is_extension : ℕ → Op → Bool
is_extension width (Zx to) = nat_le width to
is_extension width (Sx to) = nat_le width to
is_extension width _ = false

-- a number that its low bits give back by the extension, and the literal of these bits
abbrev pub is_extended : Op → ℕ → Tree → Tree → Option ℕ → Bool
is_extended op width literal part None = false
is_extended op width literal part (Some value) =
    is_extension width op
    && (is_number (result_of op width (value % 2 ^ width) 0) (result_width_of op width) part
    && is_number (value % 2 ^ width) width literal)

-- the tile's target, which its operand of this number is, stands in the tree
abbrev pub names_target : Option ℕ → Tree → Bool
names_target None t = false
names_target (Some number) t = has_immediate number t

-- An immediate meets a constant of its width without the target, by that constant, or the target.
abbrev pub immediate_meets : Option ℕ → ℕ → Tree → Option Stand → Bool
immediate_meets target width part (Some (Constant term)) =
    is_constant part && (nat_eq width (width_of part) && (not (names_target target part) && same_tree term part))
immediate_meets target width part (Some (Param parameter)) = is_immediate parameter width part
immediate_meets target width part _ = false

abbrev pub extended_meets : Op → ℕ → Tree → Option Stand → Bool
extended_meets op width part (Some (Constant term)) = is_extended op width term part (value_in part)
extended_meets op width part _ = false

-- a register meets what stands for its operand, or its own cell; a flag meets what the flag's child computes
abbrev pub register_meets : Machine → List Stand → List Pair → Place → ℕ → Tree → Bool
register_meets m stands pairs (place.Operand space number) width part =
    operand_meets m pairs space number width part (slice_get stands number)
register_meets m stands pairs (place.Cell space index) width part =
    if has_flags m space then is_flag_of (flag_pair m pairs) (leaf.Register (place.Cell space index) width) width part
    else is_read_as m space index width part

-- the leaf meets the part of the goal
abbrev pub leaf_meets : Machine → Option ℕ → List Stand → List Pair → Leaf → Tree → Bool
leaf_meets m target stands pairs (leaf.Register p width) part = register_meets m stands pairs p width part
leaf_meets m target stands pairs (leaf.Immediate operand width) part =
    immediate_meets target width part (slice_get stands operand)
leaf_meets m target stands pairs (leaf.Extended op operand width) part =
    extended_meets op width part (slice_get stands operand)

-- ---- operands

abbrev pub reads_in_guard : ℕ → Option Tree → Bool
reads_in_guard number None = false
reads_in_guard number (Some guard) = reads_operand number guard

abbrev pub reads_in_destination : ℕ → Destination → Bool
reads_in_destination number (ToMemory width address) = reads_operand number address
reads_in_destination number _ = false

-- the register of the operand is read
abbrev pub assignment_reads : ℕ → Assignment → Bool
assignment_reads number a =
    reads_in_guard number a.guard || (reads_in_destination number a.to || reads_operand number a.value)

-- the register of the operand is written
abbrev pub writes_operand : ℕ → Destination → Bool
writes_operand number (ToPlace p) = is_operand number p
writes_operand number _ = false

abbrev pub is_read : ℕ → List Assignment → Bool
is_read number assignments = list_any (assignment_reads number) assignments

abbrev pub is_written : ℕ → List Assignment → Bool
is_written number assignments = list_any (λ a. writes_operand number a.to) assignments

-- A register is of the allocatable space, unless a cell stands for it. One that is only written is the node's own, or
-- spare. One that is only read meets a part of the goal, as a parameter, a cell or a child; where it meets none, it is a
-- cell. One that is read and written is a child, which is computed into the node's own register; the root has none.
abbrev pub register_suits : Machine → (root read written met : Bool) → ℕ → Stand → Bool
register_suits m root read written met space Own = nat_eq space m.allocatable && (written && not read)
register_suits m root read written met space Spare = nat_eq space m.allocatable && (written && not read)
register_suits m root read written met space (Param number) = nat_eq space m.allocatable && (met && not written)
register_suits m root read written met space Child =
    nat_eq space m.allocatable && (met && (not written || (read && not root)))
register_suits m root read written met space (Cell other index) =
    not written && (nat_eq space other && nat_lt index (slice_index m.counts space))
register_suits m root read written met space (Constant term) = false

-- a number of this width
abbrev pub is_number_of : ℕ → Tree → Bool
is_number_of width (Number value w) = nat_eq width w && nat_lt value (2 ^ width)
is_number_of width _ = false

-- a constant stands for an immediate, a number of its width where it meets no part of the goal
abbrev pub immediate_suits : Bool → ℕ → Stand → Bool
immediate_suits met width (Constant term) = met || is_number_of width term
immediate_suits met width _ = false

abbrev pub is_some_number : ℕ → Option ℕ → Bool
is_some_number number None = false
is_some_number number (Some other) = nat_eq number other

-- the target stands for an address
abbrev pub address_suits : Option ℕ → Stand → Bool
address_suits target (Param number) = is_some_number number target
address_suits target _ = false

-- the operand of this number and kind has a fitting stand
abbrev pub operand_suits : Machine → Option ℕ → Bool → List Assignment → List Pair → ℕ → OperandKind → Stand → Bool
operand_suits m target root assignments pairs number (kind.Register space) stand =
    register_suits m root (is_read number assignments) (is_written number assignments) (is_met number pairs) space stand
operand_suits m target root assignments pairs number (kind.Imm width) stand =
    immediate_suits (is_met number pairs) width stand
operand_suits m target root assignments pairs number kind.Addr stand = address_suits target stand

abbrev pub suits_if_there : (ℕ → OperandKind → Stand → Bool) → ℕ → OperandKind → Option Stand → Bool
suits_if_there suits number kind None = false
suits_if_there suits number kind (Some stand) = suits number kind stand

-- something fitting stands for each operand of these kinds, of which the first has this number, and for no further one
abbrev pub operands_suit : (ℕ → OperandKind → Stand → Bool) → List Stand → ℕ → List OperandKind → Bool
operands_suit suits stands number [] = nat_eq number (length stands)
operands_suit suits stands number (kind ∷ kinds) =
    suits_if_there suits number kind (slice_get stands number) && operands_suit suits stands (number + 1) kinds

-- ---- assignments beside the goal

abbrev pub is_spare : Option Stand → Bool
is_spare (Some Spare) = true
is_spare _ = false

abbrev pub touches_input_or_memory : Tree → Bool
touches_input_or_memory t = has_load t || has_input t

abbrev pub guard_touches : Option Tree → Bool
guard_touches None = false
guard_touches (Some guard) = touches_input_or_memory guard

-- a flag, the zero cell, or a spare register
abbrev pub is_free_place : Machine → List Stand → Place → Bool
is_free_place m stands (place.Cell space index) = has_flags m space || is_zero m space index
is_free_place m stands (place.Operand space number) = is_spare (slice_get stands number)

abbrev pub is_free_destination : Machine → List Stand → Destination → Bool
is_free_destination m stands (ToPlace p) = is_free_place m stands p
is_free_destination m stands _ = false

-- an assignment that meets no goal writes nothing that counts, and has nothing to do with memory or the input
abbrev pub is_harmless : Machine → List Stand → Assignment → Bool
is_harmless m stands a =
    is_free_destination m stands a.to && (not (guard_touches a.guard) && not (touches_input_or_memory a.value))

-- ---- addresses

-- how many bits the coded value of an address has
abbrev pub bits_of : Reach → ℕ
bits_of Plain = 0
bits_of (Relative bits) = bits
bits_of (Absolute bits) = bits

abbrev pub is_relative : Reach → Bool
is_relative (Relative bits) = true
is_relative _ = false

-- The address is a multiple of what the bits left out of it are worth, where the alignment is. A relative one is kept out
-- where the test says so.
abbrev pub address_reaches : ℕ → Bool → ℕ → Coding → Reach → Bool
address_reaches align near number coding reach =
    nat_eq (align % 2 ^ missing_from number coding.bits 0 (bits_of reach)) 0 && not (near && is_relative reach)

abbrev pub kind_reaches : ℕ → Bool → ℕ → Coding → OperandKind → Option Reach → Bool
kind_reaches align near number coding kind.Addr (Some reach) = address_reaches align near number coding reach
kind_reaches align near number coding _ _ = true

-- each address among the operands of these kinds, of which the first has this number, reaches so
abbrev pub addresses_reach : ℕ → Bool → Coding → ℕ → List OperandKind → Bool
addresses_reach align near coding number [] = true
addresses_reach align near coding number (kind ∷ kinds) =
    kind_reaches align near number coding kind (slice_get coding.reaches number)
    && addresses_reach align near coding (number + 1) kinds
