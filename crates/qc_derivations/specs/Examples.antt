-- Worked examples: derivations on small machines, each with the first node that breaks a rule, and with its sequence.
use Rattle.std.specs.Prelude.{ℕ, ◌≡◌, Bool, true, false, List, [], ◌∷◌, Option, None, Some}
use Rattle.qc_words.specs.declared.operator.Op.TheVariants.{Add, Sub, And, Xor, Com, Neg, Shl, Eq, Ne, Lt, Ge, Ltu, Zx, Sx, Slice}
use Rattle.qc_terms.specs.declared.term.Place.TheVariants.{Operand}
use Rattle.qc_terms.specs.declared.term.Place.TheVariants as place
use Rattle.qc_terms.specs.Tree.{Tree, Number, Unary, Binary, Register, Immediate, NextInput, AddressAfter}
use Rattle.qc_descr.specs.declared.coding.Bit.TheVariants.{Piece}
use Rattle.qc_descr.specs.declared.coding.Coding.{Coding}
use Rattle.qc_descr.specs.declared.coding.Reach.TheVariants.{Relative}
use Rattle.qc_descr.specs.declared.description.OperandKind.{OperandKind}
use Rattle.qc_descr.specs.declared.description.OperandKind.TheVariants as kind
use Rattle.qc_equations.specs.declared.names.Law.{Law}
use Rattle.qc_equations.specs.declared.names.Law.TheVariants.{AddZero, ComXor, EqLtu, GeLt, NegSub, NeLtu, Split12}
use Rattle.qc_code.specs.declared.template.Slot.TheVariants as slot
use Rattle.qc_code.specs.Setting.{Line}
use Rattle.qc_tiles.specs.Terms.{term_of}
use Rattle.qc_derivations.specs.Forest.{Cell, Child, Constant, Empty, Forest, Grow, Own, Param, Spare, Stand}
use Rattle.qc_derivations.specs.Goals.{AsTile, gets}
use Rattle.qc_derivations.specs.Machine.{Assignment, Form, Machine, ToCounter, ToPlace}
use Rattle.qc_derivations.specs.Nodes.{Task}
use Rattle.qc_derivations.specs.Sequence.{lines_of}
use Rattle.qc_derivations.specs.Valid.{first_fault}

-- A tile's assignments, a derivation of it, the first node that breaks a rule, and the lines of the sequence.
pub record Example : Type 0 where
  pub task : Task
  pub tile : List Assignment
  pub forest : Forest
  pub fault : Option ℕ
  pub lines : List Line

abbrev pub AllHold : List Example → Type 0
AllHold [] = Unit {0}
AllHold (e ∷ es) =
    (first_fault e.task 0 e.forest (AsTile e.tile ∷ []) ≡ e.fault) × (lines_of e.task.machine e.forest (slot.Param 0 ∷ []) 0 ≡ e.lines)
    × AllHold es

-- a node with its children; of one that reads a flag the last child computes it
abbrev pub node : ℕ → List (Law × List ℕ) → List Stand → Forest → Forest → Forest
node instruction steps stands children rest =
    Grow (record { instruction = instruction; steps = steps; stands = stands; flag = false }) children rest

abbrev pub after_flag : ℕ → List (Law × List ℕ) → List Stand → Forest → Forest
after_flag instruction steps stands children =
    Grow (record { instruction = instruction; steps = steps; stands = stands; flag = true }) children Empty

abbrev pub plain : Coding
plain = record { tokens = []; bits = []; reaches = [] }

abbrev pub form : List OperandKind → List Assignment → Form
form kinds assignments = record { kinds = kinds; assignments = assignments; coding = plain }

abbrev pub own : Tree → Assignment
own value = gets (ToPlace (Operand 0 0)) value

-- ---- a machine of three operands, with a zero cell

abbrev pub r : ℕ → Tree
r number = Register (Operand 0 number) 32

abbrev pub three : List OperandKind
three = kind.Register 0 ∷ kind.Register 0 ∷ kind.Register 0 ∷ []

abbrev pub two_and_immediate : List OperandKind
two_and_immediate = kind.Register 0 ∷ kind.Register 0 ∷ kind.Imm 12 ∷ []

abbrev pub signed : Tree
signed = Unary (Sx 32) (Immediate 2 12)

-- lui, addi, sltu, sltiu, xor, xori, sub, jalr, and an instruction that puts the next word of the input into a register
abbrev pub risc : Machine
risc = record {
  forms =
      form (kind.Register 0 ∷ kind.Imm 20 ∷ []) (own (Binary Shl (Unary (Zx 32) (Immediate 1 20)) (Number 12 32)) ∷ [])
      ∷ form two_and_immediate (own (Binary Add (r 1) signed) ∷ [])
      ∷ form three (own (Unary (Zx 32) (Binary Ltu (r 1) (r 2))) ∷ [])
      ∷ form two_and_immediate (own (Unary (Zx 32) (Binary Ltu (r 1) signed)) ∷ [])
      ∷ form three (own (Binary Xor (r 1) (r 2)) ∷ [])
      ∷ form two_and_immediate (own (Binary Xor (r 1) signed) ∷ [])
      ∷ form three (own (Binary Sub (r 1) (r 2)) ∷ [])
      ∷ form two_and_immediate
      (own (AddressAfter 32) ∷ gets ToCounter (Binary And (Binary Add (r 1) signed) (Number 4294967294 32)) ∷ [])
      ∷ form (kind.Register 0 ∷ []) (own (NextInput 32) ∷ [])
      ∷ [];
  «zero» = Some (0, 0);
  flags = false ∷ [];
  counts = 32 ∷ [];
  allocatable = 0;
  align = 2;
}

abbrev pub on_risc : Task
on_risc = record { machine = risc; target = None; branch = false; single = false; bare = false; laws = 3 }

abbrev pub k : Tree
k = Immediate 1 32

abbrev pub low : Tree
low = Unary (Slice 0 12) k

abbrev pub high : Tree
high = Unary (Slice 12 20) (Binary Sub k (Unary (Sx 32) low))

-- a constant in two parts, the high one in a scratch
abbrev pub constant : Example
constant = record {
  task = on_risc;
  tile = own k ∷ [];
  forest =
      node 1 ((Split12, 0 ∷ 2 ∷ []) ∷ []) (Own ∷ Child ∷ Constant low ∷ []) (node 0 [] (Own ∷ Constant high ∷ []) Empty Empty) Empty;
  fault = None;
  lines =
      (0, slot.Scratch 0 ∷ slot.Constant (term_of high) ∷ [])
      ∷ (1, slot.Param 0 ∷ slot.Scratch 0 ∷ slot.Constant (term_of low) ∷ []) ∷ [];
}

-- the same with the whole constant in place of its high part breaks the child, and at another place the root
abbrev pub whole_constant : Example
whole_constant = record {
  task = on_risc;
  tile = own k ∷ [];
  forest =
      node 1 ((Split12, 0 ∷ 2 ∷ []) ∷ []) (Own ∷ Child ∷ Constant low ∷ []) (node 0 [] (Own ∷ Constant k ∷ []) Empty Empty) Empty;
  fault = Some 1;
  lines =
      (0, slot.Scratch 0 ∷ slot.Constant (term_of k) ∷ [])
      ∷ (1, slot.Param 0 ∷ slot.Scratch 0 ∷ slot.Constant (term_of low) ∷ []) ∷ [];
}

abbrev pub equal : Tree
equal = Unary (Zx 32) (Binary Eq (r 1) (r 2))

-- whether two registers are equal: their difference is below 1
abbrev pub set_equal : Example
set_equal = record {
  task = on_risc;
  tile = own equal ∷ [];
  forest =
      node 3 ((EqLtu, 0 ∷ 2 ∷ 0 ∷ []) ∷ []) (Own ∷ Child ∷ Constant (Number 1 12) ∷ [])
      (node 4 [] (Own ∷ Param 1 ∷ Param 2 ∷ []) Empty Empty) Empty;
  fault = None;
  lines =
      (4, slot.Scratch 0 ∷ slot.Param 1 ∷ slot.Param 2 ∷ [])
      ∷ (3, slot.Param 0 ∷ slot.Scratch 0 ∷ slot.Constant (term_of (Number 1 12)) ∷ []) ∷ [];
}

-- whether they differ: 0, which the zero cell is read as, is below their difference
abbrev pub set_unequal : Example
set_unequal = record {
  task = on_risc;
  tile = own (Unary (Zx 32) (Binary Ne (r 1) (r 2))) ∷ [];
  forest =
      node 2 ((NeLtu, 0 ∷ 2 ∷ 0 ∷ []) ∷ []) (Own ∷ Cell 0 0 ∷ Child ∷ []) (node 4 [] (Own ∷ Param 1 ∷ Param 2 ∷ []) Empty Empty) Empty;
  fault = None;
  lines =
      (4, slot.Scratch 0 ∷ slot.Param 1 ∷ slot.Param 2 ∷ []) ∷ (2, slot.Param 0 ∷ slot.Cell 0 ∷ slot.Scratch 0 ∷ []) ∷ [];
}

-- a number that its low bits give back by the extension
abbrev pub complement : Example
complement = record {
  task = on_risc;
  tile = own (Unary Com (r 1)) ∷ [];
  forest = node 5 ((ComXor, 0 ∷ 2 ∷ []) ∷ []) (Own ∷ Param 1 ∷ Constant (Number 4095 12) ∷ []) Empty Empty;
  fault = None;
  lines = (5, slot.Param 0 ∷ slot.Param 1 ∷ slot.Constant (term_of (Number 4095 12)) ∷ []) ∷ [];
}

abbrev pub negation : Example
negation = record {
  task = on_risc;
  tile = own (Unary Neg (r 1)) ∷ [];
  forest = node 6 ((NegSub, 0 ∷ 2 ∷ []) ∷ []) (Own ∷ Cell 0 0 ∷ Param 1 ∷ []) Empty Empty;
  fault = None;
  lines = (6, slot.Param 0 ∷ slot.Cell 0 ∷ slot.Param 1 ∷ []) ∷ [];
}

-- the address after the jump goes into the zero cell
abbrev pub return_to_link : Example
return_to_link = record {
  task = on_risc;
  tile = gets ToCounter (Binary And (Register (place.Cell 0 1) 32) (Number 4294967294 32)) ∷ [];
  forest =
      node 7 ((AddZero, 0 ∷ 2 ∷ 0 ∷ []) ∷ []) (Spare ∷ Cell 0 1 ∷ Constant (Number 0 12) ∷ []) Empty Empty;
  fault = None;
  lines = (7, slot.Cell 0 ∷ slot.Cell 1 ∷ slot.Constant (term_of (Number 0 12)) ∷ []) ∷ [];
}

-- ---- a machine of two operands, with flags

abbrev pub a : ℕ → Tree
a number = Register (Operand 0 number) 16

abbrev pub flag : ℕ → Tree
flag index = Register (place.Cell 1 index) 1

abbrev pub sets_flag : ℕ → Tree → Assignment
sets_flag index value = gets (ToPlace (place.Cell 1 index)) value

abbrev pub pair : List OperandKind
pair = kind.Register 0 ∷ kind.Register 0 ∷ []

abbrev pub jump : Tree → Form
jump guard = record {
  kinds = kind.Addr ∷ [];
  assignments = record { guard = Some guard; to = ToCounter; value = Immediate 0 16 } ∷ [];
  coding = record { tokens = []; bits = Piece 0 0 ∷ []; reaches = Relative 16 ∷ [] };
}

-- mov, add, cmp, a jump on the first flag, one on the second flag's complement, and sz
abbrev pub flags : Machine
flags = record {
  forms =
      form pair (own (a 1) ∷ [])
      ∷ form pair (own (Binary Add (a 0) (a 1)) ∷ [])
      ∷ form pair (sets_flag 0 (Binary Eq (a 0) (a 1)) ∷ sets_flag 1 (Binary Lt (a 0) (a 1)) ∷ sets_flag 2 (Binary Ltu (a 0) (a 1)) ∷ [])
      ∷ jump (flag 0)
      ∷ jump (Unary Com (flag 1))
      ∷ form (kind.Register 0 ∷ []) (own (Unary (Zx 16) (flag 0)) ∷ [])
      ∷ [];
  «zero» = None;
  flags = false ∷ true ∷ [];
  counts = 8 ∷ 3 ∷ [];
  allocatable = 0;
  align = 2;
}

abbrev pub on_flags : Option ℕ → Bool → Task
on_flags target branch =
    record { machine = flags; target = target; branch = branch; single = false; bare = false; laws = 3 }

abbrev pub sum : List Assignment
sum = own (Binary Add (a 1) (a 2)) ∷ []

-- a sum where the first operand is the result: it is computed into the node's own register, a scratch
abbrev pub tied : Example
tied = record {
  task = on_flags None false;
  tile = sum;
  forest =
      node 0 [] (Own ∷ Child ∷ []) (node 1 [] (Child ∷ Param 2 ∷ []) (node 0 [] (Own ∷ Param 1 ∷ []) Empty Empty) Empty) Empty;
  fault = None;
  lines =
      (0, slot.Scratch 0 ∷ slot.Param 1 ∷ []) ∷ (1, slot.Scratch 0 ∷ slot.Param 2 ∷ [])
      ∷ (0, slot.Param 0 ∷ slot.Scratch 0 ∷ []) ∷ [];
}

-- the root is not computed so
abbrev pub tied_root : Example
tied_root = record {
  task = on_flags None false;
  tile = sum;
  forest = node 1 [] (Child ∷ Param 2 ∷ []) (node 0 [] (Own ∷ Param 1 ∷ []) Empty Empty) Empty;
  fault = Some 0;
  lines = (0, slot.Param 0 ∷ slot.Param 1 ∷ []) ∷ (1, slot.Param 0 ∷ slot.Param 2 ∷ []) ∷ [];
}

abbrev pub branch_if : Tree → List Assignment
branch_if guard = record { guard = Some guard; to = ToCounter; value = Immediate 2 16 } ∷ []

abbrev pub compares : Forest
compares = node 2 [] (Param 0 ∷ Param 1 ∷ []) Empty Empty

-- a branch where a comparison holds, and one by a law where it doesn't
abbrev pub branch_equal : Example
branch_equal = record {
  task = on_flags (Some 2) true;
  tile = branch_if (Binary Eq (a 0) (a 1));
  forest = after_flag 3 [] (Param 2 ∷ []) compares;
  fault = None;
  lines = (2, slot.Param 0 ∷ slot.Param 1 ∷ []) ∷ (3, slot.Target ∷ []) ∷ [];
}

abbrev pub branch_at_least : Example
branch_at_least = record {
  task = on_flags (Some 2) true;
  tile = branch_if (Binary Ge (a 0) (a 1));
  forest = after_flag 4 ((GeLt, 0 ∷ 0 ∷ []) ∷ []) (Param 2 ∷ []) compares;
  fault = None;
  lines = (2, slot.Param 0 ∷ slot.Param 1 ∷ []) ∷ (4, slot.Target ∷ []) ∷ [];
}

-- the comparison in place of the target, and where the flag read is another one
abbrev pub branch_without_flag : Example
branch_without_flag = record {
  task = on_flags (Some 2) true;
  tile = branch_if (Binary Eq (a 0) (a 1));
  forest = node 3 [] (Child ∷ []) compares Empty;
  fault = Some 0;
  lines = (2, slot.Param 0 ∷ slot.Param 1 ∷ []) ∷ (3, slot.Scratch 0 ∷ []) ∷ [];
}

abbrev pub set_by_flag : Example
set_by_flag = record {
  task = on_flags None false;
  tile = own (Unary (Zx 16) (Binary Eq (a 1) (a 2))) ∷ [];
  forest = after_flag 5 [] (Own ∷ []) (node 2 [] (Param 1 ∷ Param 2 ∷ []) Empty Empty);
  fault = None;
  lines = (2, slot.Param 1 ∷ slot.Param 2 ∷ []) ∷ (5, slot.Param 0 ∷ []) ∷ [];
}

abbrev pub examples_on_risc : List Example
examples_on_risc =
    constant ∷ whole_constant ∷ set_equal ∷ set_unequal ∷ complement ∷ negation ∷ return_to_link ∷ []

abbrev pub examples_on_flags : List Example
examples_on_flags =
    tied ∷ tied_root ∷ branch_equal ∷ branch_at_least ∷ branch_without_flag ∷ set_by_flag ∷ []
