-- One notion of code for code of tiles and of instructions: lines that are labels or do something, in procedures.
use Rattle.std.specs.Prelude.{ℕ, zero, suc, List, [], ◌∷◌, ◌++◌, length, slice_get, Option, None, Some, Bool, true, false, ◌||◌, ◌&&◌, not, if◌then◌else◌, nat_eq, nat_lt}
use Rattle.std.specs.List.{list_any}
use Rattle.qc_terms.specs.declared.term.Dest.{Dest}
use Rattle.qc_terms.specs.declared.term.Dest.TheVariants as dest
use Rattle.qc_terms.specs.declared.term.Rtl.{Rtl}
use Rattle.qc_terms.specs.Value.{index_of, space_of}

-- What a line does that is no label. Some of its operands may be the address of its target.
pub record Inst : Type 0 where
  pub rtl : Rtl
  pub operands : List ℕ
  pub addressed : List Bool
  pub target : Option ℕ

pub data Line : Type 0 where
  Label : (number : ℕ) → Line
  Does : (inst : Inst) → Line

-- a line in its procedure, which it may begin
pub record Standing : Type 0 where
  pub procedure : ℕ
  pub first : Bool
  pub line : Line

-- Code: how many procedures it has, and all lines in order. The place of a line is its number among them.
pub record Flat : Type 0 where
  pub procedures : ℕ
  pub lines : List Standing

abbrev pub stood : (procedure : ℕ) (first : Bool) → List Line → List Standing
stood p first [] = []
stood p first (line ∷ lines) = record { procedure = p; first = first; line = line } ∷ stood p false lines

abbrev pub stood_from : ℕ → List (List Line) → List Standing
stood_from p [] = []
stood_from p (lines ∷ more) = stood p true lines ++ stood_from (suc p) more

-- the lines of procedures, one after another
abbrev pub flat_of : List (List Line) → Flat
flat_of procedures = record { procedures = length procedures; lines = stood_from 0 procedures }

-- ---- lines

abbrev pub is_label : Line → Bool
is_label (Label number) = true
is_label (Does inst) = false

abbrev pub is_numbered : ℕ → Line → Bool
is_numbered number (Label other) = nat_eq number other
is_numbered number (Does inst) = false

abbrev pub is_counter : Dest → Bool
is_counter dest.Pc = true
is_counter _ = false

-- the destination is this cell, an operand naming it by its value
abbrev pub is_cell : ℕ × ℕ → List ℕ → Dest → Bool
is_cell cell operands (dest.Reg place) = nat_eq (space_of place) cell.0 && nat_eq (index_of place operands) cell.1
is_cell cell operands _ = false

-- the line may set the program counter
abbrev pub sets_counter : Line → Bool
sets_counter (Label number) = false
sets_counter (Does inst) = list_any (λ e. is_counter e.to) inst.rtl.effects

-- a call line sets the program counter and the link
abbrev pub is_call : (link : ℕ × ℕ) → Line → Bool
is_call link (Label number) = false
is_call link (Does inst) =
    list_any (λ e. is_counter e.to) inst.rtl.effects
    && list_any (λ e. is_cell link inst.operands e.to) inst.rtl.effects

-- ---- places

-- the first place whose line passes a test, or the number of lines
abbrev pub place_where : (Standing → Bool) → List Standing → ℕ
place_where test [] = 0
place_where test (s ∷ more) = if test s then 0 else suc (place_where test more)

-- The place that a target is: the first line of a procedure, or a label; the number of lines where there is none.
abbrev pub place_of_target : Flat → ℕ → ℕ
place_of_target x target =
    if nat_lt target x.procedures then place_where (λ s. s.first && nat_eq s.procedure target) x.lines
    else place_where (λ s. is_numbered target s.line) x.lines

-- a test of the line at a place; none stands there behind the last line
abbrev pub at_place : {A : Type 0} → (Standing → A) → A → Option Standing → A
at_place test otherwise None = otherwise
at_place test otherwise (Some s) = test s

abbrev pub solid_at : Flat → ℕ → Bool
solid_at x k = at_place (λ s. not (is_label s.line)) true (slice_get x.lines k)

abbrev pub first_at : Flat → ℕ → Bool
first_at x k = at_place (λ s. s.first) false (slice_get x.lines k)

abbrev pub calls_at : (link : ℕ × ℕ) → Flat → ℕ → Bool
calls_at link x k = at_place (λ s. is_call link s.line) false (slice_get x.lines k)

abbrev pub jumps_at : Flat → ℕ → Bool
jumps_at x k = at_place (λ s. sets_counter s.line) false (slice_get x.lines k)

-- the line before the one at a place is a call line
abbrev pub after_call : (link : ℕ × ℕ) → Flat → ℕ → Bool
after_call link x zero = false
after_call link x (suc k) = calls_at link x k

-- a line to which words may lead: a label, the first line of a procedure, or the line after a call line
abbrev pub entry_at : (link : ℕ × ℕ) → Flat → ℕ → Bool
entry_at link x k = not (solid_at x k) || (first_at x k || after_call link x k)

-- ---- targets of jumps

abbrev pub target_of : Line → Option ℕ
target_of (Label number) = None
target_of (Does inst) = inst.target

abbrev pub target_at : Flat → ℕ → Option ℕ
target_at x k = at_place (λ s. target_of s.line) None (slice_get x.lines k)

-- the first of two, if it is there
abbrev pub or_else : {A : Type 0} → Option A → Option A → Option A
or_else None other = other
or_else (Some a) other = Some a

-- The target to which the line at a place jumps, if it jumps to one: its own, or that of the nearest line before it, as far
-- back as no label, no first line and no line that may jump stands between.
abbrev pub aim_at : Flat → ℕ → Option ℕ
aim_at x zero = target_at x 0
aim_at x (suc k) =
    or_else (target_at x (suc k))
    (if first_at x (suc k) || (not (solid_at x k) || jumps_at x k) then None else aim_at x k)
