-- Slots of the frame, and which of them a line names.
use Rattle.std.specs.Prelude.{ℕ, ◌+◌, ◌*◌, ◌/◌, ◌%◌, ◌^◌, List, [], ◌∷◌, ◌++◌, slice_get, Option, None, Some, Bool, true, false, ◌&&◌, ◌||◌, if◌then◌else◌, nat_eq, nat_le, nat_lt}
use Rattle.qc_words.specs.declared.operator.Op.{Op}
use Rattle.qc_words.specs.declared.operator.Op.TheVariants as op
use Rattle.qc_terms.specs.declared.term.Dest.{Dest}
use Rattle.qc_terms.specs.declared.term.Dest.TheVariants as dest
use Rattle.qc_terms.specs.declared.term.Effect.{Effect}
use Rattle.qc_terms.specs.declared.term.Place.TheVariants.{Cell}
use Rattle.qc_terms.specs.declared.term.Term.{Term}
use Rattle.qc_terms.specs.Tree.{Tree, Number, Unary, Binary, Register, Immediate, Load, NextInput, AddressAfter, tree_of}
use Rattle.qc_descr.specs.declared.description.Description.{Description}
use Rattle.qc_meaning.specs.Code.{Inst}
use Rattle.qc_meaning.specs.Normal.{normal}

-- the bytes of a word
abbrev pub word_bytes : Description → ℕ
word_bytes d = d.facts.word / 8

-- an operand that stands for the address of a target
abbrev pub is_true : Option Bool → Bool
is_true None = false
is_true (Some b) = b

abbrev pub is_addressed : Inst → ℕ → Bool
is_addressed inst n = is_true (slice_get inst.addressed n)

-- the normal form of a term of a line
abbrev pub normal_in : Description → Inst → Tree → Tree
normal_in d inst t = normal d.facts.zero inst.operands (is_addressed inst) t

-- ---- addresses that are slots

abbrev pub is_frame_cell : Description → Tree → Bool
is_frame_cell d (Register (Cell space index) width) = nat_eq space d.frame.0 && nat_eq index d.frame.1
is_frame_cell d _ = false

abbrev pub is_sum : Op → Bool
is_sum op.Add = true
is_sum _ = false

abbrev pub number_if : Bool → Tree → Option ℕ
number_if true (Number value width) = Some value
number_if test _ = None

-- what is added to the frame cell in an address in normal form
abbrev pub frame_offset : Description → Tree → Option ℕ
frame_offset d (Binary o left right) = number_if (is_sum o && is_frame_cell d left) right
frame_offset d t = if is_frame_cell d t then Some 0 else None

-- The slot at an offset in a frame of so many bytes, if there is one: a multiple of the word's bytes below the frame's, or that
-- less the frame's bytes.
abbrev pub slot_if : Description → (frame offset : ℕ) → Option ℕ
slot_if d frame offset =
    if nat_lt offset frame && nat_eq (offset % word_bytes d) 0 then Some (offset / word_bytes d) else None

abbrev pub first_slot : Option ℕ → Option ℕ → Option ℕ
first_slot None other = other
first_slot (Some slot) other = Some slot

abbrev pub slot_of_offset : Description → ℕ → Option ℕ → Option ℕ
slot_of_offset d frame None = None
slot_of_offset d frame (Some offset) =
    first_slot (slot_if d frame offset) (slot_if d frame ((offset + frame) % 2 ^ d.facts.word))

abbrev pub listed : Option ℕ → List ℕ
listed None = []
listed (Some slot) = slot ∷ []

-- the slot that an address names
abbrev pub slot_named : Description → (frame : ℕ) → Inst → Tree → List ℕ
slot_named d frame inst address = listed (slot_of_offset d frame (frame_offset d (normal_in d inst address)))

-- ---- lines

abbrev pub slots_in : Description → (frame : ℕ) → Inst → Tree → List ℕ
slots_in d frame inst (Number value width) = []
slots_in d frame inst (Unary o arg) = slots_in d frame inst arg
slots_in d frame inst (Binary o left right) = slots_in d frame inst left ++ slots_in d frame inst right
slots_in d frame inst (Register place width) = []
slots_in d frame inst (Immediate operand width) = []
slots_in d frame inst (Load width address) = slot_named d frame inst address ++ slots_in d frame inst address
slots_in d frame inst (NextInput width) = []
slots_in d frame inst (AddressAfter width) = []

abbrev pub slots_in_guard : Description → (frame : ℕ) → Inst → Option Term → List ℕ
slots_in_guard d frame inst None = []
slots_in_guard d frame inst (Some guard) = slots_in d frame inst (tree_of guard)

abbrev pub slots_in_destination : Description → (frame : ℕ) → Inst → Dest → List ℕ
slots_in_destination d frame inst (dest.Mem width address) =
    slot_named d frame inst (tree_of address) ++ slots_in d frame inst (tree_of address)
slots_in_destination d frame inst _ = []

abbrev pub slots_in_effects : Description → (frame : ℕ) → Inst → List Effect → List ℕ
slots_in_effects d frame inst [] = []
slots_in_effects d frame inst (e ∷ es) =
    slots_in_guard d frame inst e.guard
    ++ (slots_in_destination d frame inst e.to ++ (slots_in d frame inst (tree_of e.value) ++ slots_in_effects d frame inst es))

-- the slots that a line names, where each frame has so many bytes
abbrev pub slots_of : Description → (frame : ℕ) → Inst → List ℕ
slots_of d frame inst = slots_in_effects d frame inst inst.rtl.effects

-- ---- accesses

-- So many bytes at an address are inside the data region.
abbrev pub is_in_data : Description → (address count : ℕ) → Bool
is_in_data d address count = nat_le d.code_end address && nat_le (address + count) d.data_end

-- the address is that of a slot from here, in the frame that stands here or in the one below it
abbrev pub is_slot_address : Description → (frame here slot address : ℕ) → Bool
is_slot_address d frame here slot address =
    nat_eq address ((here + slot * word_bytes d) % 2 ^ d.facts.word)
    || nat_eq (address + frame) (here + slot * word_bytes d)

-- So many bytes at an address are in a slot, and that is inside the stack region.
abbrev pub is_in_slot : Description → (frame here address count slot : ℕ) → Bool
is_in_slot d frame here address count slot =
    is_slot_address d frame here slot address
    && (nat_le count (word_bytes d) && (nat_le d.data_end address && nat_le (address + word_bytes d) d.memory))
