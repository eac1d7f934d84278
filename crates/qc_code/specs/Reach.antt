-- How far the address operands of a template reach, and how far they have to.
use Rattle.std.specs.Prelude.{ℕ, suc, ◌≡◌, ◌+◌, ◌-◌, ◌%◌, ◌^◌, List, [], ◌∷◌, map, sum, slice_get, Bool, true, false, not, ◌||◌, ◌&&◌, if◌then◌else◌, nat_eq, nat_lt, Option, None, Some, IsTrue}
use Rattle.std.specs.List.{find, flat_map, list_all, list_any}
use Rattle.qc_descr.specs.declared.coding.Bit.{Bit}
use Rattle.qc_descr.specs.declared.coding.Reach.{Reach}
use Rattle.qc_descr.specs.declared.coding.Reach.TheVariants.{Plain, Relative, Absolute}
use Rattle.qc_descr.specs.declared.description.Description.{Description}
use Rattle.qc_descr.specs.declared.description.Instruction.{Instruction}
use Rattle.qc_descr.specs.CodingFaults.{missing_from}
use Rattle.qc_descr.specs.Description.{size_of}
use Rattle.qc_tiles.specs.declared.shape.Shape.{Shape}
use Rattle.qc_tiles.specs.declared.shape.Shape.TheVariants as shape
use Rattle.qc_tiles.specs.declared.tile.Tile.{Tile}
use Rattle.qc_tiles.specs.Names.{shape_of}
use Rattle.qc_code.specs.declared.template.Template.{Template}
use Rattle.qc_code.specs.Setting.{Line}
use Rattle.qc_code.specs.Work.{all_lines}

-- ---- lines

-- the reaches of the operands of an instruction
abbrev pub reaches_of : Option Instruction → List Reach
reaches_of None = []
reaches_of (Some i) = i.coding.reaches

abbrev pub line_reaches : Description → Line → List Reach
line_reaches d line = reaches_of (slice_get d.instructions line.0)

-- how many bytes an instruction has
abbrev pub bytes_of : Option Instruction → ℕ
bytes_of None = 0
bytes_of (Some i) = size_of i

-- how many bytes the lines have together
abbrev pub lines_bytes : Description → List Line → ℕ
lines_bytes d lines = sum (map (λ line. bytes_of (slice_get d.instructions line.0)) lines)

-- how many bytes a template has, or none if there is none
abbrev pub template_bytes : Description → Option Template → ℕ
template_bytes d None = 0
template_bytes d (Some x) = lines_bytes d x.instances

-- ---- how far

-- the address operand is relative
abbrev pub is_relative : Reach → Bool
is_relative (Relative bits) = true
is_relative _ = false

-- A relative operand reaches half of its numbers in each direction, and an absolute one all of them.
abbrev pub reach_of : Reach → ℕ
reach_of Plain = 0
reach_of (Relative bits) = 2 ^ (bits - 1)
reach_of (Absolute bits) = 2 ^ bits

abbrev pub is_branch_shape : Shape → Bool
is_branch_shape (shape.Branch op) = true
is_branch_shape _ = false

abbrev pub is_branch : Tile → Bool
is_branch t = is_branch_shape (shape_of t.name)

-- How far an operand has to reach: 1 more than the code region's size. A relative one of a branch reaches the line after
-- the code of `goto` that follows, so it needs 1 more than the bytes of both.
abbrev pub needed_reach : Description → Option Template → Tile → Template → Reach → ℕ
needed_reach d goto t x reach =
    if is_branch t && is_relative reach
    then lines_bytes d x.instances + template_bytes d goto + 1 else d.code_end + 1

-- how far an operand reaches, and how far it has to
pub record Distance : Type 0 where
  pub reach : ℕ
  pub needs : ℕ

-- an address operand has both
abbrev pub distance_of : Description → Option Template → Tile → Template → Reach → List Distance
distance_of d goto t x Plain = []
distance_of d goto t x reach = record { reach = reach_of reach; needs = needed_reach d goto t x reach } ∷ []

-- those of all address operands, by lines and then operands
abbrev pub distances_of : Description → Option Template → Tile → Template → List Distance
distances_of d goto t x = flat_map (distance_of d goto t x) (flat_map (line_reaches d) x.instances)

-- the first that is too short, beside the template of `goto`, if there is one
abbrev pub short_reach : Description → Option Template → Tile → Template → Option Distance
short_reach d goto t x = find (λ distance. nat_lt distance.reach distance.needs) (distances_of d goto t x)

-- Each address operand reaches far enough.
abbrev pub TargetsReach : Description → Option Template → Tile → Template → Type 0
TargetsReach d goto t x = short_reach d goto t x ≡ None

-- ---- alignment

-- 2 to the number of low bits of an operand of so many bits that stand nowhere in the coding divides the alignment
abbrev pub drops_aligned : Description → List Bit → ℕ → ℕ → Bool
drops_aligned d bits number size = nat_eq (d.align % 2 ^ missing_from number bits 0 size) 0

abbrev pub is_aligned_operand : Description → List Bit → ℕ → Reach → Bool
is_aligned_operand d bits number Plain = true
is_aligned_operand d bits number (Relative size) = drops_aligned d bits number size
is_aligned_operand d bits number (Absolute size) = drops_aligned d bits number size

-- the operands from this number on
abbrev pub are_aligned : Description → List Bit → ℕ → List Reach → Bool
are_aligned d bits number [] = true
are_aligned d bits number (reach ∷ reaches) =
    is_aligned_operand d bits number reach && are_aligned d bits (suc number) reaches

-- Where the coding of an instruction leaves out low bits of an address, 2 to their number divides the alignment.
abbrev pub has_aligned_addresses : Description → Option Instruction → Bool
has_aligned_addresses d None = true
has_aligned_addresses d (Some i) = are_aligned d i.coding.bits 0 i.coding.reaches

-- As to the bits that codings leave out, each multiple of the alignment can be an address in each line.
abbrev pub HasAlignedAddresses : Description → Template → Type 0
HasAlignedAddresses d x =
    IsTrue (list_all (λ line. has_aligned_addresses d (slice_get d.instructions line.0)) x.instances)

-- ---- branches

-- In the template of a branch a relative operand stands in the last line alone.
abbrev pub BranchesLast : Description → Tile → Template → Type 0
BranchesLast d t x =
    IsTrue (not (is_branch t)
    || all_lines (λ last line. last || not (list_any is_relative (line_reaches d line))) x.instances)
