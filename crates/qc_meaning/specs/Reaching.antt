-- Reaching code: each line with a target reaches it.
use Rattle.std.specs.Prelude.{ℕ, zero, suc, ◌≡◌, ◌+◌, ◌<◌, ◌⊎◌, List, [], length, slice_get, Option, None, Some, Bool, true, false, All, IsTrue}
use Rattle.std.specs.List.{list_any}
use Rattle.qc_descr.specs.declared.coding.Reach.{Reach}
use Rattle.qc_descr.specs.declared.coding.Reach.TheVariants.{Plain, Relative, Absolute}
use Rattle.qc_descr.specs.declared.description.Description.{Description}
use Rattle.qc_code.specs.Reach.{bytes_of, has_aligned_addresses, is_relative, reach_of, reaches_of}
use Rattle.qc_meaning.specs.declared.lines.Line.{Line}
use Rattle.qc_meaning.specs.declared.lines.Line.TheVariants as line
use Rattle.qc_meaning.specs.Code.{Flat, Standing, place_of_target, target_of}
use Rattle.qc_meaning.specs.Kinds.{line_of_instance}
use Rattle.qc_meaning.specs.Liveness.{is_even, names_register}

-- each target is a label or a procedure of the code
abbrev pub HasTargets : Flat → Type 0
HasTargets x =
    (k target : ℕ) (s : Standing) → slice_get x.lines k ≡ Some s → target_of s.line ≡ Some target → place_of_target x target < length x.lines

-- ---- lines of instructions

-- the number of a line's instruction, if it is no label
abbrev pub instruction_of : Line → Option ℕ
instruction_of (line.Label number) = None
instruction_of (line.Inst instance target) = Some instance.instruction

abbrev pub bytes_at : Description → Option ℕ → ℕ
bytes_at d None = 0
bytes_at d (Some i) = bytes_of (slice_get d.instructions i)

-- how many bytes a line has; a label has none
abbrev pub line_bytes : Description → Line → ℕ
line_bytes d l = bytes_at d (instruction_of l)

abbrev pub reaches_at : Description → Option ℕ → List Reach
reaches_at d None = []
reaches_at d (Some i) = reaches_of (slice_get d.instructions i)

abbrev pub line_reaches : Description → Line → List Reach
line_reaches d l = reaches_at d (instruction_of l)

-- the addresses can stand in the line, as to the bits that its coding leaves out
abbrev pub is_aligned : Description → Option ℕ → Bool
is_aligned d None = true
is_aligned d (Some i) = has_aligned_addresses d (slice_get d.instructions i)

-- the operand is no address, or reaches all of the code region
abbrev pub ReachesAll : Description → Reach → Type 0
ReachesAll d Plain = Unit {0}
ReachesAll d (Relative bits) = d.code_end < reach_of (Relative bits)
ReachesAll d (Absolute bits) = d.code_end < reach_of (Absolute bits)

abbrev pub ReachesAllAbsolute : Description → Reach → Type 0
ReachesAllAbsolute d (Absolute bits) = d.code_end < reach_of (Absolute bits)
ReachesAllAbsolute d _ = Unit {0}

-- the address reaches so many bytes
abbrev pub ReachesBytes : ℕ → Reach → Type 0
ReachesBytes bytes Plain = Unit {0}
ReachesBytes bytes (Relative size) = bytes < reach_of (Relative size)
ReachesBytes bytes (Absolute size) = bytes < reach_of (Absolute size)

abbrev pub bytes_if : Description → Option Line → ℕ
bytes_if d None = 0
bytes_if d (Some l) = line_bytes d l

-- the bytes of so many lines from a place on
abbrev pub bytes_between : Description → List Line → (count place : ℕ) → ℕ
bytes_between d lines zero k = 0
bytes_between d lines (suc count) k = bytes_if d (slice_get lines k) + bytes_between d lines count (suc k)

-- The target is a label that stands after the line in its procedure, and the bytes from the line to it are within its reach. No line
-- between them names an even register.
pub record IsNear (d : Description) (lines : List Line) (k target : ℕ) (reaches : List Reach) : Type 0 where
  pub place : ℕ
  pub after : k < place
  pub label : slice_get lines place ≡ Some (line.Label target)
  pub relative : IsTrue (list_any is_relative reaches)
  pub absolute : All (ReachesAllAbsolute d) reaches
  pub bytes : (between : ℕ) → k + between ≡ place → All (ReachesBytes (bytes_between d lines between k)) reaches
  pub plain : (j number : ℕ) (l : Line) → k < j → j < place → slice_get lines j ≡ Some l → is_even number ≡ true →
      names_register d number (line_of_instance d l) ≡ false

abbrev pub target_in : Line → Option ℕ
target_in (line.Label number) = None
target_in (line.Inst instance target) = target

-- In the lines of a procedure each address is a multiple that its coding can give, and each target is within reach.
pub record LinesReach (d : Description) (lines : List Line) : Type 0 where
  pub aligned : (k : ℕ) (l : Line) → slice_get lines k ≡ Some l → is_aligned d (instruction_of l) ≡ true
  pub reach : (k target : ℕ) (l : Line) → slice_get lines k ≡ Some l → target_in l ≡ Some target →
      All (ReachesAll d) (line_reaches d l) ⊎ IsNear d lines k target (line_reaches d l)

abbrev pub IsReaching : Description → Flat → List (List Line) → Type 0
IsReaching d x procedures = HasTargets x × All (LinesReach d) procedures
