-- Homed code: each virtual register has a cell or a slot as its home, and is loaded from a slot and stored there where lines use it.
use Rattle.std.specs.Prelude.{ℕ, suc, ◌≡◌, ◌≢◌, ◌+◌, ◌*◌, ◌<◌, ◌≤◌, ◌-◌, ◌⊎◌, ◌↔◌, List, [], ◌∷◌, ◌++◌, length, map, slice_get, Option, None, Some, Bool, true, false, Contains, if◌then◌else◌, nat_le}
use Rattle.qc_descr.specs.declared.description.Description.{Description}
use Rattle.qc_descr.specs.declared.description.OperandKind.{OperandKind}
use Rattle.qc_descr.specs.declared.description.OperandKind.TheVariants as kind
use Rattle.qc_tiles.specs.declared.name.TileName.{TileName}
use Rattle.qc_tiles.specs.declared.name.TileName.TheVariants as name
use Rattle.qc_tiles.specs.Sound.{facts_of}
use Rattle.qc_tiles.specs.Tiles.{tile_of}
use Rattle.qc_code.specs.declared.template.Slot.{Slot}
use Rattle.qc_code.specs.declared.template.Template.{Template}
use Rattle.qc_code.specs.declared.templates.Templates.{Templates}
use Rattle.qc_code.specs.Setting.{slot_value}
use Rattle.qc_code.specs.Templates.{template_of}
use Rattle.qc_meaning.specs.declared.lines.Line.{Line}
use Rattle.qc_meaning.specs.declared.lines.Line.TheVariants as line
use Rattle.qc_meaning.specs.declared.lines.Code.{Code}
use Rattle.qc_meaning.specs.declared.lines.Placed.{Placed}
use Rattle.qc_meaning.specs.Code.{Flat, Standing, calls_at}
use Rattle.qc_meaning.specs.Kinds.{flat_code, kinds_at}
use Rattle.qc_meaning.specs.Liveness.{HasGap, IsLiveAfter, StandsAt, is_even, line_reads, line_writes, names_register}
use Rattle.qc_meaning.specs.Roomy.{AreApart, HasBothGaps, NamesSlot}
use Rattle.qc_meaning.specs.Runs.{own_cells}
use Rattle.qc_meaning.specs.Slots.{word_bytes}

pub data Home : Type 0 where
  InCell : (index : ℕ) → Home
  InSlot : (slot : ℕ) → Home

-- a home for each virtual register, by procedure and number
abbrev pub Homes : Type 0
Homes = (procedure number : ℕ) → Home

-- ---- homes

-- the home is an allocatable cell, or a slot of the frame that no line of the code names
abbrev pub IsHome : Description → Flat → (frame : ℕ) → Home → Type 0
IsHome d x frame (InCell index) = (d.first ≤ index) × (index ≤ d.last)
IsHome d x frame (InSlot slot) = (slot * word_bytes d < frame) × (NamesSlot d x frame slot → ⊥)

abbrev pub IsInCell : Home → Type 0
IsInCell (InCell index) = Unit {0}
IsInCell (InSlot slot) = ⊥

abbrev pub IsInSlot : Home → Type 0
IsInSlot (InCell index) = ⊥
IsInSlot (InSlot slot) = Unit {0}

-- both are the same cell
abbrev pub ShareCell : Home → Home → Type 0
ShareCell (InCell a) (InCell b) = a ≡ b
ShareCell _ _ = ⊥

-- Registers with a common gap have different homes. One that a line writes shares no cell with another one that is written there or
-- is live after. Odd registers are in cells, and those that are kept over a call are in slots.
pub record AreHomes (d : Description) (x : Flat) (frame : ℕ) (homes : Homes) : Type 0 where
  pub are : (p number k : ℕ) → StandsAt d x p number k → IsHome d x frame (homes p number)
  pub apart : (p m n k : ℕ) → m ≢ n → HasGap d x p m k → HasGap d x p n k → homes p m ≢ homes p n
  pub written : (m n k : ℕ) (s : Standing) → slice_get x.lines k ≡ Some s → m ≢ n → line_writes d m s.line ≡ true →
      (line_writes d n s.line ≡ true) ⊎ IsLiveAfter d x s.procedure n k → ShareCell (homes s.procedure m) (homes s.procedure n) → ⊥
  pub odd : (p number k : ℕ) → StandsAt d x p number k → is_even number ≡ false → IsInCell (homes p number)
  pub over_calls : (p number k : ℕ) → calls_at d.link x k ≡ true → HasBothGaps d x p number k → IsInSlot (homes p number)

-- ---- lines

-- a cell that is allocatable and the home of no register that stands at the line
pub record IsFreeAt (d : Description) (x : Flat) (homes : Homes) (p k cell : ℕ) : Type 0 where
  pub usable : (d.first ≤ cell) × (cell ≤ d.last)
  pub free : (number : ℕ) → StandsAt d x p number k → homes p number ≢ InCell cell

-- the cells that stand for a line's registers: the home of one in a cell, and a free cell for one in a slot
abbrev pub IsCellFor : Description → Flat → Homes → (p k : ℕ) → Home → ℕ → Type 0
IsCellFor d x homes p k (InCell index) cell = cell ≡ index
IsCellFor d x homes p k (InSlot slot) cell = IsFreeAt d x homes p k cell

pub record AreCells (d : Description) (x : Flat) (homes : Homes) (p k : ℕ) (s : Standing) (cells : ℕ → ℕ) : Type 0 where
  pub each : (number : ℕ) → names_register d number s.line ≡ true → IsCellFor d x homes p k (homes p number) (cells number)
  pub apart : (m n : ℕ) → m ≢ n → names_register d m s.line ≡ true → names_register d n s.line ≡ true → IsInSlot (homes p m) →
      IsInSlot (homes p n) → cells m ≢ cells n

-- a register operand with the cell of its virtual register, where it is one
abbrev pub with_cell_for : Description → (ℕ → ℕ) → OperandKind → ℕ → ℕ
with_cell_for d cells (kind.Register space) operand =
    if nat_le (own_cells d) operand then cells (operand - own_cells d) else operand
with_cell_for d cells _ operand = operand

abbrev pub with_cells_for : Description → (ℕ → ℕ) → List OperandKind → List ℕ → List ℕ
with_cells_for d cells [] operands = operands
with_cells_for d cells (k ∷ ks) [] = []
with_cells_for d cells (k ∷ ks) (operand ∷ operands) = with_cell_for d cells k operand ∷ with_cells_for d cells ks operands

-- the line has this instruction, these operands and this target
abbrev pub IsLineOf : (instruction : ℕ) → (operands : List ℕ) → (target : Option ℕ) → Line → Type 0
IsLineOf instruction operands target (line.Label number) = ⊥
IsLineOf instruction operands target (line.Inst instance other) =
    (instance.instruction ≡ instruction) × (instance.operands.items ≡ operands) × (other ≡ target)

-- ---- spills and reloads

-- the line of a template of one instruction, for a register's cell and a slot
abbrev pub IsTemplateLine : Description → TileName → Option Template → (cell slot : ℕ) → Line → Type 0
IsTemplateLine d tile None cell slot l = ⊥
IsTemplateLine d tile (Some template) cell slot l =
    (instruction : ℕ) × (slots : List Slot) × (template.instances ≡ (instruction, slots) ∷ [])
    × IsLineOf instruction
    (map (slot_value (tile_of (facts_of d) tile) (record {
      operands = cell ∷ slot * word_bytes d ∷ [];
      scratch = λ number. 0;
      next = λ number. 0;
    })) slots) None l

-- lines of one template for registers in slots, one for each, in any order
pub record AreMoves (d : Description) (templates : Templates) (tile : TileName) (homes : Homes) (p : ℕ) (cells : ℕ → ℕ) (moved : ℕ → Bool) (lines : List Line) : Type 0 where
  pub numbers : List ℕ
  pub apart : AreApart numbers
  pub exactly : (number : ℕ) → Contains numbers number ↔ ((moved number ≡ true) × IsInSlot (homes p number))
  pub many : length lines ≡ length numbers
  pub each : (i number slot : ℕ) (l : Line) → slice_get numbers i ≡ Some number → slice_get lines i ≡ Some l → homes p number ≡ InSlot slot →
      IsTemplateLine d tile (template_of templates tile) (cells number) slot l

-- ---- groups

-- the lines that stand for a line: reloads of the registers in slots that it reads, itself with cells for its registers, and spills of
-- those that it writes
pub record IsGroup (d : Description) (templates : Templates) (x : Flat) (homes : Homes) (k : ℕ) (s : Standing) (instruction : ℕ) (operands : List ℕ) (target : Option ℕ) (lines : List Line) : Type 0 where
  pub cells : ℕ → ℕ
  pub assigned : AreCells d x homes s.procedure k s cells
  pub before : List Line
  pub own : Line
  pub after : List Line
  pub are : lines ≡ before ++ (own ∷ after)
  pub reloads : AreMoves d templates name.Reload homes s.procedure cells (λ number. line_reads d number s.line) before
  pub is : IsLineOf instruction (with_cells_for d cells (kinds_at (slice_get d.instructions instruction)) operands) target own
  pub spills : AreMoves d templates name.Spill homes s.procedure cells (λ number. line_writes d number s.line) after

abbrev pub IsGroupOf : Description → Templates → Flat → Homes → (k : ℕ) → Standing → Line → List Line → Type 0
IsGroupOf d templates x homes k s (line.Label number) lines = lines ≡ line.Label number ∷ []
IsGroupOf d templates x homes k s (line.Inst instance target) lines =
    IsGroup d templates x homes k s instance.instruction instance.operands.items target lines

-- the lines of a procedure from a place of the code on, one group after another
abbrev pub AreGroupsOf : Description → Templates → Flat → Homes → (k : ℕ) → List Line → List Line → Type 0
AreGroupsOf d templates x homes k [] placed = placed ≡ []
AreGroupsOf d templates x homes k (l ∷ lines) placed =
    (s : Standing) × (group rest : List Line) × (slice_get x.lines k ≡ Some s) × (placed ≡ group ++ rest)
    × IsGroupOf d templates x homes k s l group × AreGroupsOf d templates x homes (suc k) lines rest

abbrev pub ProceduresAre : Description → Templates → Flat → Homes → (k : ℕ) → List (List Line) → List (List Line) → Type 0
ProceduresAre d templates x homes k [] placed = placed ≡ []
ProceduresAre d templates x homes k (lines ∷ procedures) [] = ⊥
ProceduresAre d templates x homes k (lines ∷ procedures) (own ∷ placed) =
    AreGroupsOf d templates x homes k lines own × ProceduresAre d templates x homes (k + length lines) procedures placed

-- The placed code is the code, with a home for each of its virtual registers.
pub record IsHomed (d : Description) (templates : Templates) (x : Code) (q : Placed) : Type 0 where
  pub homes : Homes
  pub are : AreHomes d (flat_code d x) x.frame homes
  pub frame : q.frame ≡ x.frame
  pub lines : ProceduresAre d templates (flat_code d x) homes 0 x.procedures q.procedures
