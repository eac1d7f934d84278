-- Fine steps: what a line of a run may do with marked words and with memory, and which words are marked after it.
use Rattle.std.specs.Prelude.{ℕ, zero, suc, ◌≡◌, ◌/◌, List, [], ◌∷◌, Option, None, Some, Bool, true, false, ◌&&◌, not, if◌then◌else◌, nat_eq}
use Rattle.qc_terms.specs.declared.term.Dest.{Dest}
use Rattle.qc_terms.specs.declared.term.Dest.TheVariants as dest
use Rattle.qc_terms.specs.declared.term.Effect.{Effect}
use Rattle.qc_terms.specs.declared.term.Place.{Place}
use Rattle.qc_terms.specs.declared.term.Place.TheVariants.{Cell, Operand}
use Rattle.qc_terms.specs.declared.term.Term.{Term}
use Rattle.qc_terms.specs.Effects.{guard_of}
use Rattle.qc_terms.specs.Tree.{Tree, Number, Unary, Binary, Register, Immediate, Load, NextInput, AddressAfter, tree_of}
use Rattle.qc_terms.specs.Value.{index_of, space_of}
use Rattle.qc_meaning.specs.Marks.{Clean, Mark, Reading, is_clean, is_stray, joined, mark_of, worth}

-- Where lines may access memory, by address and number of bytes; which of the addresses are those of data; the cells that no line
-- may write; and the frame cell.
pub record Rules : Type 0 where
  pub allowed : (address count : ℕ) → Bool
  pub in_data : (address : ℕ) → Bool
  pub fixed : (space index : ℕ) → Bool
  pub frame : ℕ × ℕ

-- ---- terms

-- an address without a mark, at which the access is allowed
pub record IsFineAddress (rules : Rules) (r : Reading) (count : ℕ) (t : Tree) : Type 0 where
  pub clean : mark_of r t ≡ Clean
  pub address : ℕ
  pub is : worth r t ≡ Some address
  pub allowed : rules.allowed address count ≡ true

-- all loads of the term are by such addresses
abbrev pub IsFineTerm : Rules → Reading → Tree → Type 0
IsFineTerm rules r (Number value width) = Unit {0}
IsFineTerm rules r (Unary op arg) = IsFineTerm rules r arg
IsFineTerm rules r (Binary op left right) = IsFineTerm rules r left × IsFineTerm rules r right
IsFineTerm rules r (Register place width) = Unit {0}
IsFineTerm rules r (Immediate operand width) = Unit {0}
IsFineTerm rules r (Load width address) = IsFineTerm rules r address × IsFineAddress rules r (width / 8) address
IsFineTerm rules r (NextInput width) = Unit {0}
IsFineTerm rules r (AddressAfter width) = Unit {0}

-- ---- effects

abbrev pub guard_mark : Reading → Option Term → Mark
guard_mark r None = Clean
guard_mark r (Some guard) = mark_of r (tree_of guard)

abbrev pub IsFineGuard : Rules → Reading → Option Term → Type 0
IsFineGuard rules r None = Unit {0}
IsFineGuard rules r (Some guard) = IsFineTerm rules r (tree_of guard)

abbrev pub is_false : Option ℕ → Bool
is_false None = false
is_false (Some word) = nat_eq word 0

-- The effect counts where its guard isn't false, or is marked, so that it may be true where lines stand elsewhere.
abbrev pub counts : Reading → Effect → Bool
counts r e = not (is_clean (guard_mark r e.guard) && is_false (guard_of e.guard r.operands r.next r.state))

-- the mark of the word that an effect writes, be its guard true or not
abbrev pub word_mark : Reading → Effect → Mark
word_mark r e = joined (guard_mark r e.guard) (mark_of r (tree_of e.value))

-- the operand that names the register has no mark
abbrev pub IsKnownPlace : Reading → Place → Type 0
IsKnownPlace r (Cell space index) = Unit {0}
IsKnownPlace r (Operand space number) = r.operand number ≡ Clean

-- The register is one that may be written, and the frame cell gets no marked word.
pub record IsFineRegister (rules : Rules) (r : Reading) (mark : Mark) (place : Place) : Type 0 where
  pub known : IsKnownPlace r place
  pub free : rules.fixed (space_of place) (index_of place r.operands) ≡ false
  pub frame : (nat_eq (space_of place) rules.frame.0 && nat_eq (index_of place r.operands) rules.frame.1) ≡ true → mark ≡ Clean

-- A store is under no marked guard, and no marked word goes to data.
pub record IsFineStore (rules : Rules) (r : Reading) (guard mark : Mark) (count : ℕ) (t : Tree) : Type 0 where
  pub unmarked : guard ≡ Clean
  pub term : IsFineTerm rules r t
  pub address : IsFineAddress rules r count t
  pub data_clean : rules.in_data address.address ≡ true → mark ≡ Clean

-- what may get a word with such a mark, under such a guard
abbrev pub IsFineDestination : Rules → Reading → (guard mark : Mark) → Dest → Type 0
IsFineDestination rules r guard mark (dest.Reg place) = IsFineRegister rules r mark place
IsFineDestination rules r guard mark (dest.Mem width address) = IsFineStore rules r guard mark (width / 8) (tree_of address)
IsFineDestination rules r guard mark dest.Pc = (guard ≡ Clean) × (is_stray mark ≡ false)
IsFineDestination rules r guard mark dest.Out = mark ≡ Clean
IsFineDestination rules r guard mark dest.Halt = mark ≡ Clean
IsFineDestination rules r guard mark dest.Trap = mark ≡ Clean

pub record IsFineEffect (rules : Rules) (r : Reading) (e : Effect) : Type 0 where
  pub guard : IsFineGuard rules r e.guard
  pub value : counts r e ≡ true → IsFineTerm rules r (tree_of e.value)
  pub to : counts r e ≡ true → IsFineDestination rules r (guard_mark r e.guard) (word_mark r e) e.to

abbrev pub AreFine : Rules → Reading → List Effect → Type 0
AreFine rules r [] = Unit {0}
AreFine rules r (e ∷ es) = IsFineEffect rules r e × AreFine rules r es

-- ---- marks after effects

-- the marks of words in cells and of bytes in memory
pub record Marking : Type 0 where
  pub cell : (space index : ℕ) → Mark
  pub byte : (address : ℕ) → Mark

abbrev pub with_cell_mark : ((space index : ℕ) → Mark) → (space index : ℕ) → Mark → (other number : ℕ) → Mark
with_cell_mark cell space index mark other number =
    if nat_eq space other && nat_eq index number then mark else cell other number

-- so many bytes from an address on get one mark
abbrev pub with_byte_marks : (ℕ → Mark) → (count address : ℕ) → Mark → ℕ → Mark
with_byte_marks byte zero address mark a = byte a
with_byte_marks byte (suc count) address mark a =
    if nat_eq address a then mark else with_byte_marks byte count (suc address) mark a

-- what was there before may stay where the guard is marked
abbrev pub mark_written : (guard mark old : Mark) → Mark
mark_written Clean mark old = mark
mark_written guard mark old = joined mark old

abbrev pub bytes_written : Marking → ℕ → Mark → Option ℕ → Marking
bytes_written m count mark None = m
bytes_written m count mark (Some address) = record m { byte = with_byte_marks m.byte count address mark }

abbrev pub marks_at : Reading → (guard mark : Mark) → Dest → Marking → Marking
marks_at r guard mark (dest.Reg place) m =
    record m {
      cell = with_cell_mark m.cell (space_of place) (index_of place r.operands)
          (mark_written guard mark (m.cell (space_of place) (index_of place r.operands)));
    }
marks_at r guard mark (dest.Mem width address) m = bytes_written m (width / 8) mark (worth r (tree_of address))
marks_at r guard mark _ m = m

abbrev pub marks_after : Reading → Effect → Marking → Marking
marks_after r e m = if counts r e then marks_at r (guard_mark r e.guard) (word_mark r e) e.to m else m

-- the marks after effects of which each reads the old state
abbrev pub all_marks_after : Reading → List Effect → Marking → Marking
all_marks_after r [] m = m
all_marks_after r (e ∷ es) m = all_marks_after r es (marks_after r e m)
