-- Virtual registers of code: which lines read, write and surely write them, where they are live, and their intervals.
use Rattle.std.specs.Prelude.{ℕ, suc, ◌≡◌, ◌+◌, ◌≤◌, ◌%◌, ◌⊎◌, List, slice_get, Option, None, Some, Bool, true, false, ◌&&◌, ◌||◌, not, if◌then◌else◌, nat_eq}
use Rattle.std.specs.List.{list_any}
use Rattle.qc_terms.specs.declared.term.Dest.{Dest}
use Rattle.qc_terms.specs.declared.term.Dest.TheVariants as dest
use Rattle.qc_terms.specs.declared.term.Effect.{Effect}
use Rattle.qc_terms.specs.declared.term.Place.{Place}
use Rattle.qc_terms.specs.declared.term.Term.{Term}
use Rattle.qc_terms.specs.Tree.{Tree, Number, Unary, Binary, Register, Immediate, Load, NextInput, AddressAfter, tree_of}
use Rattle.qc_terms.specs.Value.{index_of, space_of}
use Rattle.qc_descr.specs.declared.description.Description.{Description}
use Rattle.qc_meaning.specs.Code.{Does, Flat, Inst, Label, Line, Standing, aim_at, calls_at, is_counter, place_of_target}
use Rattle.qc_meaning.specs.Runs.{own_cells}
use Rattle.qc_meaning.specs.Slots.{normal_in}

-- ---- one line

-- the place is this virtual register
abbrev pub is_register : Description → (number : ℕ) → List ℕ → Place → Bool
is_register d number operands place =
    nat_eq (space_of place) d.allocatable && nat_eq (index_of place operands) (own_cells d + number)

abbrev pub reads : Description → (number : ℕ) → List ℕ → Tree → Bool
reads d number operands (Number value width) = false
reads d number operands (Unary op arg) = reads d number operands arg
reads d number operands (Binary op left right) = reads d number operands left || reads d number operands right
reads d number operands (Register place width) = is_register d number operands place
reads d number operands (Immediate operand width) = false
reads d number operands (Load width address) = reads d number operands address
reads d number operands (NextInput width) = false
reads d number operands (AddressAfter width) = false

abbrev pub guard_reads : Description → (number : ℕ) → List ℕ → Option Term → Bool
guard_reads d number operands None = false
guard_reads d number operands (Some guard) = reads d number operands (tree_of guard)

abbrev pub dest_reads : Description → (number : ℕ) → List ℕ → Dest → Bool
dest_reads d number operands (dest.Mem width address) = reads d number operands (tree_of address)
dest_reads d number operands _ = false

abbrev pub effect_reads : Description → (number : ℕ) → List ℕ → Effect → Bool
effect_reads d number operands e =
    guard_reads d number operands e.guard || (dest_reads d number operands e.to || reads d number operands (tree_of e.value))

abbrev pub goes_to : Description → (number : ℕ) → List ℕ → Dest → Bool
goes_to d number operands (dest.Reg place) = is_register d number operands place
goes_to d number operands _ = false

-- in normal form the guard is left out: it is the number 1, or there is none
abbrev pub is_one : Tree → Bool
is_one (Number value width) = nat_eq value 1
is_one _ = false

abbrev pub is_unguarded : Description → Inst → Option Term → Bool
is_unguarded d inst None = true
is_unguarded d inst (Some guard) = is_one (normal_in d inst (tree_of guard))

-- in normal form the effect vanishes: its guard is the number 0
abbrev pub is_nothing : Tree → Bool
is_nothing (Number value width) = nat_eq value 0
is_nothing _ = false

abbrev pub vanishes : Description → Inst → Option Term → Bool
vanishes d inst None = false
vanishes d inst (Some guard) = is_nothing (normal_in d inst (tree_of guard))

-- the line reads the virtual register, as its register transfer list stands
abbrev pub line_reads : Description → (number : ℕ) → Line → Bool
line_reads d number (Label other) = false
line_reads d number (Does inst) = list_any (effect_reads d number inst.operands) inst.rtl.effects

abbrev pub line_writes : Description → (number : ℕ) → Line → Bool
line_writes d number (Label other) = false
line_writes d number (Does inst) = list_any (λ e. goes_to d number inst.operands e.to) inst.rtl.effects

-- it surely writes it: in normal form an effect without a guard does
abbrev pub surely_writes : Description → (number : ℕ) → Line → Bool
surely_writes d number (Label other) = false
surely_writes d number (Does inst) =
    list_any (λ e. goes_to d number inst.operands e.to && is_unguarded d inst e.guard) inst.rtl.effects

abbrev pub names_register : Description → (number : ℕ) → Line → Bool
names_register d number line = line_reads d number line || line_writes d number line

-- the line writes the frame cell
abbrev pub goes_to_frame : Description → List ℕ → Dest → Bool
goes_to_frame d operands (dest.Reg place) = nat_eq (space_of place) d.frame.0 && nat_eq (index_of place operands) d.frame.1
goes_to_frame d operands _ = false

abbrev pub writes_frame : Description → Line → Bool
writes_frame d (Label other) = false
writes_frame d (Does inst) = list_any (λ e. goes_to_frame d inst.operands e.to) inst.rtl.effects

-- ---- which line may follow

abbrev pub ends_run : Dest → Bool
ends_run dest.Halt = true
ends_run dest.Trap = true
ends_run _ = false

-- the line surely sets the program counter, and surely ends the run
abbrev pub surely_jumps : Description → Line → Bool
surely_jumps d (Label other) = false
surely_jumps d (Does inst) = list_any (λ e. is_counter e.to && is_unguarded d inst e.guard) inst.rtl.effects

abbrev pub surely_ends : Description → Line → Bool
surely_ends d (Label other) = false
surely_ends d (Does inst) = list_any (λ e. ends_run e.to && is_unguarded d inst e.guard) inst.rtl.effects

abbrev pub may_jump : Description → Line → Bool
may_jump d (Label other) = false
may_jump d (Does inst) = list_any (λ e. is_counter e.to && not (vanishes d inst e.guard)) inst.rtl.effects

-- The line at a place may be followed by the one at another: by the next one, unless it surely jumps or ends the run; and where
-- it may jump, by the one to which it jumps. A call goes on at the line after it.
pub data MayFollow (d : Description) (x : Flat) (k : ℕ) : ℕ → Type 0 where
  Next : (s : Standing) → slice_get x.lines k ≡ Some s → (surely_ends d s.line ≡ false) →
      (surely_jumps d s.line ≡ false) ⊎ (calls_at d.link x k ≡ true) → MayFollow d x k (suc k)
  Jump : (s : Standing) (target : ℕ) → slice_get x.lines k ≡ Some s → (surely_ends d s.line ≡ false) → may_jump d s.line ≡ true →
      calls_at d.link x k ≡ false → aim_at x k ≡ Some target → MayFollow d x k (place_of_target x target)

-- ---- liveness

-- A path of lines from this place reads the virtual register before a line has surely written it. The register is one of a
-- procedure, and lines of other procedures don't count.
pub data IsLiveBefore (d : Description) (x : Flat) (p number : ℕ) : ℕ → Type 0 where
  Reads : (k : ℕ) (s : Standing) → slice_get x.lines k ≡ Some s → s.procedure ≡ p → line_reads d number s.line ≡ true → IsLiveBefore d x p number k
  Later : (k j : ℕ) (s : Standing) → slice_get x.lines k ≡ Some s → s.procedure ≡ p → surely_writes d number s.line ≡ false → MayFollow d x k j →
      IsLiveBefore d x p number j → IsLiveBefore d x p number k

-- the register is live after a line: before one that may follow it
abbrev pub IsLiveAfter : Description → Flat → (p number k : ℕ) → Type 0
IsLiveAfter d x p number k = (j : ℕ) × MayFollow d x k j × IsLiveBefore d x p number j

-- the register is live in the gap after the line at a place
abbrev pub IsLiveInGap : Description → Flat → (p number k : ℕ) → Type 0
IsLiveInGap d x p number k = IsLiveBefore d x p number (suc k)

-- a gap where the register is live, or after a line that writes it or after which it is live
abbrev pub HoldsGap : Description → Flat → (p number k : ℕ) → Type 0
HoldsGap d x p number k =
    IsLiveInGap d x p number k
    ⊎ (IsLiveAfter d x p number k
    ⊎ ((s : Standing) × (slice_get x.lines k ≡ Some s) × (s.procedure ≡ p) × (line_writes d number s.line ≡ true)))

-- the interval has the gap after the line at a place: it runs from the first of these gaps to the last one
pub record HasGap (d : Description) (x : Flat) (p number k : ℕ) : Type 0 where
  pub first : ℕ
  pub last : ℕ
  pub begins : HoldsGap d x p number first
  pub ends : HoldsGap d x p number last
  pub low : first ≤ k
  pub high : k ≤ last

-- the register stands at a line that names it, and at one after which comes a gap of its interval
abbrev pub StandsAt : Description → Flat → (p number k : ℕ) → Type 0
StandsAt d x p number k =
    ((s : Standing) × (slice_get x.lines k ≡ Some s) × (s.procedure ≡ p) × (names_register d number s.line ≡ true)) ⊎ HasGap d x p number k

-- ---- inner lines

-- how many lines that write the frame cell some path from the first line of the procedure passes before this place
pub data Passes (d : Description) (x : Flat) (p : ℕ) : (writers place : ℕ) → Type 0 where
  Begins : (k : ℕ) (s : Standing) → slice_get x.lines k ≡ Some s → s.procedure ≡ p → s.first ≡ true → Passes d x p 0 k
  Goes : (n k j : ℕ) (s : Standing) → slice_get x.lines k ≡ Some s → s.procedure ≡ p → Passes d x p n k → MayFollow d x k j →
      Passes d x p (if writes_frame d s.line then suc n else n) j

-- every path to the line passes exactly one line before it that writes the frame cell
abbrev pub IsInner : Description → Flat → (p k : ℕ) → Type 0
IsInner d x p k = (n : ℕ) → Passes d x p n k → n ≡ 1

abbrev pub is_even : ℕ → Bool
is_even number = nat_eq (number % 2) 0
