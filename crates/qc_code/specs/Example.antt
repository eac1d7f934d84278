-- A worked example, by hand: a small machine, templates of its tiles, and for each condition one that breaks it.
use Rattle.std.specs.Prelude.{ℕ, ◌+◌, ◌*◌, zero, suc, List, [], ◌∷◌, map, None, Some, true, false, codes}
use Rattle.qc_words.specs.declared.operator.Op.TheVariants.{Add, Sub, Shl, Eq, Zx, Sx, Slice}
use Rattle.qc_terms.specs.declared.state.Order.TheVariants.{Little}
use Rattle.qc_terms.specs.declared.state.State.{State}
use Rattle.qc_terms.specs.declared.term.Dest.TheVariants as dest
use Rattle.qc_terms.specs.declared.term.Effect.{Effect}
use Rattle.qc_terms.specs.declared.term.Place.TheVariants as place
use Rattle.qc_terms.specs.Cells.{row_of}
use Rattle.qc_terms.specs.Tree.{Tree, Number, Unary, Binary, Register, Immediate, AddressAfter}
use Rattle.qc_descr.specs.declared.coding.Bit.{Bit}
use Rattle.qc_descr.specs.declared.coding.Bit.TheVariants.{Piece}
use Rattle.qc_descr.specs.declared.coding.Reach.{Reach}
use Rattle.qc_descr.specs.declared.coding.Reach.TheVariants.{Plain, Relative}
use Rattle.qc_descr.specs.declared.description.Description.{Description}
use Rattle.qc_descr.specs.declared.description.Instruction.{Instruction}
use Rattle.qc_descr.specs.declared.description.OperandKind.{OperandKind}
use Rattle.qc_descr.specs.declared.description.OperandKind.TheVariants as kind
use Rattle.qc_tiles.specs.declared.name.TileName.{TileName}
use Rattle.qc_tiles.specs.declared.name.TileName.TheVariants as name
use Rattle.qc_tiles.specs.declared.tile.Tile.{Tile}
use Rattle.qc_tiles.specs.Sound.{facts_of}
use Rattle.qc_tiles.specs.Terms.{term_of}
use Rattle.qc_tiles.specs.Tiles.{gives, tile_of}
use Rattle.qc_code.specs.declared.template.Slot.{Slot}
use Rattle.qc_code.specs.declared.template.Slot.TheVariants as slot
use Rattle.qc_code.specs.declared.template.Template.{Template}
use Rattle.qc_code.specs.Running.{run_of}
use Rattle.qc_code.specs.Setting.{Line, Setting, transfers_from}

-- ---- the machine

-- registers of 32 bits and immediates, as operands of these numbers
abbrev pub r : ℕ → Tree
r number = Register (place.Operand 0 number) 32

abbrev pub flag : Tree
flag = Register (place.Cell 1 0) 1

abbrev pub is_equal : Tree
is_equal = Binary Eq (r 0) (r 1)

-- the first operand, the flag, the program counter gets a word
abbrev pub gets : Tree → Effect
gets value = gives (dest.Reg (place.Operand 0 0)) value

abbrev pub sets_flag : Tree → Effect
sets_flag value = gives (dest.Reg (place.Cell 1 0)) value

abbrev pub goes : ℕ → Effect
goes number = gives dest.Pc (Immediate number 32)

-- where the flag is 1
abbrev pub if_flag : Effect → Effect
if_flag e = record e { guard = Some (term_of flag) }

abbrev pub made_of : List OperandKind → List Reach → List Bit → List Effect → Instruction
made_of kinds reaches bits effects = record {
  name = codes "i";
  operands = map (λ k. (codes "o", k)) kinds;
  rtl = record { effects = effects };
  coding = record { tokens = 32 ∷ []; bits = bits; reaches = reaches };
}

-- one without an address
abbrev pub plain : List OperandKind → List Effect → Instruction
plain kinds effects = made_of kinds [] [] effects

-- one whose only operand is an address of so many bits, of which those from a number on have a place
abbrev pub pieces : ℕ → ℕ → List Bit
pieces from zero = []
pieces from (suc count) = Piece 0 from ∷ pieces (suc from) count

abbrev pub addressed : ℕ → (from count : ℕ) → List Effect → Instruction
addressed bits from count effects = made_of (kind.Addr ∷ []) (Relative bits ∷ []) (pieces from count) effects

abbrev pub three : List OperandKind
three = kind.Register 0 ∷ kind.Register 0 ∷ kind.Register 0 ∷ []

abbrev pub adds : Instruction
adds = plain three (gets (Binary Add (r 1) (r 2)) ∷ [])

-- Registers 3 to 7 of 8 are allocatable. Cell 0 reads 0, cell 1 is the link and cell 2 the frame. There is one flag.
abbrev pub machine : Description
machine = record {
  name = codes "m";
  facts = record { word = 32; order = Little; zero = Some (0, 0) };
  spaces =
      record { name = codes "x"; cells = 8; width = 32; flags = false }
      ∷ record { name = codes "c"; cells = 1; width = 1; flags = true } ∷ [];
  align = 4;
  slot_bits = 12;
  frame = (0, 2);
  link = (0, 1);
  first = 3;
  last = 7;
  allocatable = 0;
  memory = 1024;
  code_end = 256;
  data_end = 512;
  instructions =
      adds
      ∷ plain (kind.Register 0 ∷ kind.Imm 20 ∷ []) (gets (Binary Shl (Unary (Zx 32) (Immediate 1 20)) (Number 12 32)) ∷ [])
      ∷ plain (kind.Register 0 ∷ kind.Register 0 ∷ kind.Imm 12 ∷ []) (gets (Binary Add (r 1) (Unary (Sx 32) (Immediate 2 12))) ∷ [])
      ∷ plain (kind.Register 0 ∷ kind.Register 0 ∷ []) (sets_flag is_equal ∷ [])
      ∷ addressed 6 1 5 (if_flag (goes 0) ∷ [])
      ∷ addressed 10 2 8 (goes 0 ∷ [])
      ∷ addressed 10 3 7 (goes 0 ∷ [])
      ∷ plain three (if_flag (gets (Binary Add (r 1) (r 2))) ∷ [])
      ∷ plain (kind.Register 0 ∷ []) (gets (AddressAfter 32) ∷ [])
      ∷ plain (kind.Register 0 ∷ []) (gets (Register (place.Cell 0 5) 32) ∷ [])
      ∷ made_of (kind.Register 0 ∷ kind.Addr ∷ []) (Plain ∷ Relative 10 ∷ []) [] (gets (AddressAfter 32) ∷ goes 1 ∷ [])
      ∷ [];
}

-- the instructions by their numbers: add, the high and the low part of a constant, a comparison that sets the flag, a
-- branch by it of 6 bits, jumps of 10 bits without the lowest 2 and 3, an addition where the flag is 1, the address after,
-- the word of cell 5, and a jump that gives the address after to a register
abbrev pub add : ℕ
add = 0

abbrev pub high : ℕ
high = 1

abbrev pub low : ℕ
low = 2

abbrev pub compare : ℕ
compare = 3

abbrev pub branch : ℕ
branch = 4

abbrev pub jump : ℕ
jump = 5

abbrev pub far_jump : ℕ
far_jump = 6

abbrev pub add_if : ℕ
add_if = 7

abbrev pub here : ℕ
here = 8

abbrev pub fifth : ℕ
fifth = 9

abbrev pub linking : ℕ
linking = 10

abbrev pub the_tile : TileName → Tile
the_tile tile = tile_of (facts_of machine) tile

-- ---- templates

abbrev pub p : ℕ → Slot
p number = slot.Param number

abbrev pub s : ℕ → Slot
s number = slot.Scratch number

abbrev pub lines : ℕ → List Line → Template
lines scratches instances = record { instances = instances; scratches = scratches }

abbrev pub sum : Line
sum = (add, p 0 ∷ p 1 ∷ p 2 ∷ [])

abbrev pub addition : Template
addition = lines 0 (sum ∷ [])

-- a constant k in two parts, of which the high one makes up for the low one's sign
abbrev pub k : Tree
k = Immediate 1 32

abbrev pub low_part : Tree
low_part = Unary (Slice 0 12) k

abbrev pub high_part : Tree
high_part = Unary (Slice 12 20) (Binary Sub k (Unary (Sx 32) low_part))

abbrev pub constant : Template
constant = lines 1
    ((high, s 0 ∷ slot.Constant (term_of high_part) ∷ []) ∷ (low, p 0 ∷ s 0 ∷ slot.Constant (term_of low_part) ∷ []) ∷ [])

abbrev pub equal_branch : Template
equal_branch = lines 0 ((compare, p 0 ∷ p 1 ∷ []) ∷ (branch, slot.Target ∷ []) ∷ [])

abbrev pub going : Template
going = lines 0 ((jump, slot.Target ∷ []) ∷ [])

-- ---- templates that break a condition

-- a line that is not the last writes a parameter
abbrev pub early : Template
early = lines 0 (sum ∷ sum ∷ [])

-- of a move: the parameter that is set is read
abbrev pub reading : Template
reading = lines 0 ((add, p 0 ∷ p 1 ∷ p 0 ∷ []) ∷ [])

abbrev pub guarded : Template
guarded = lines 0 ((add_if, p 0 ∷ p 1 ∷ p 2 ∷ []) ∷ [])

abbrev pub unset : Template
unset = lines 1 ((add, p 0 ∷ p 1 ∷ s 0 ∷ []) ∷ [])

-- of a jump: it goes by a flag that no line sets
abbrev pub stray_flag : Template
stray_flag = lines 0 ((branch, slot.Target ∷ []) ∷ [])

-- of a move: an address after, and a cell by its number, go to the parameter
abbrev pub stray_after : Template
stray_after = lines 1 ((here, s 0 ∷ []) ∷ (add, p 0 ∷ p 1 ∷ s 0 ∷ []) ∷ [])

abbrev pub stray_cell : Template
stray_cell = lines 0 ((fifth, p 0 ∷ []) ∷ [])

-- of a jump: addresses are multiples of 4, and the lowest 3 bits are left out
abbrev pub unaligned : Template
unaligned = lines 0 ((far_jump, slot.Target ∷ []) ∷ [])

abbrev pub in_two : Template
in_two = lines 0 ((fifth, p 0 ∷ []) ∷ (fifth, p 0 ∷ []) ∷ [])

abbrev pub with_scratch : Template
with_scratch = lines 1 ((fifth, p 0 ∷ []) ∷ [])

abbrev pub with_flag : Template
with_flag = lines 0 ((compare, p 0 ∷ p 0 ∷ []) ∷ [])

-- of a call: the line that jumps has a scratch of its own, and one that another line names
abbrev pub calling : Template
calling = lines 1 ((linking, s 0 ∷ slot.Target ∷ []) ∷ [])

abbrev pub sharing : Template
sharing = lines 1 ((fifth, s 0 ∷ []) ∷ (linking, s 0 ∷ slot.Target ∷ []) ∷ [])

-- of a branch: the relative operand is in the first line
abbrev pub branch_first : Template
branch_first = lines 0 ((branch, slot.Target ∷ []) ∷ (compare, p 0 ∷ p 1 ∷ []) ∷ [])

-- more scratches than there are registers beside the parameters
abbrev pub too_many : Template
too_many = lines 3 (sum ∷ [])

-- ---- a run of the constant

-- all words are 0, register 4 is the parameter and register 5 the scratch
abbrev pub start : State
start = record {
  facts = machine.facts;
  widths = 32 ∷ 1 ∷ [];
  cells = (0 ∷ 0 ∷ 0 ∷ 0 ∷ 0 ∷ 0 ∷ 0 ∷ 0 ∷ []) ∷ (0 ∷ []) ∷ [];
  memory = [];
  pc = 0;
  input = [];
  taken = 0;
  ending = None;
}

abbrev pub at_start : ℕ → Setting
at_start number = record { operands = 4 ∷ number ∷ []; scratch = λ k. 5; next = λ k. 4 * (k + 1) }

-- the registers after both lines, for a constant
abbrev pub registers_after : ℕ → List ℕ
registers_after number =
    row_of (run_of (transfers_from machine (the_tile name.Const) (at_start number) 0 constant.instances)
    (record { state = start; output = [] })).state.cells 0
