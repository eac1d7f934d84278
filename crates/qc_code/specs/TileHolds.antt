-- What it means that a template does what a tile does.
use Rattle.std.specs.Prelude.{ℕ, suc, ◌≡◌, ◌≢◌, ◌-◌, ◌<◌, ◌≤◌, ◌⊎◌, [], length, map, take, IsSome, slice_get, slice_index, slice_set, Option, None, Some, Bool, true, false}
use Rattle.qc_terms.specs.declared.state.Event.{Event}
use Rattle.qc_terms.specs.declared.state.Event.TheVariants.{Trapped}
use Rattle.qc_terms.specs.declared.state.State.{State}
use Rattle.qc_terms.specs.Cells.{cell_of}
use Rattle.qc_terms.specs.Effects.{Outcome, outcome_of}
use Rattle.qc_terms.specs.Observation.{words_of}
use Rattle.qc_terms.specs.State.{IsState}
use Rattle.qc_descr.specs.declared.description.Description.{Description}
use Rattle.qc_descr.specs.declared.description.Space.{Space}
use Rattle.qc_descr.specs.Description.{counts_of, widths_of}
use Rattle.qc_descr.specs.Step.{Progress}
use Rattle.qc_tiles.specs.declared.tile.Tile.{Tile}
use Rattle.qc_code.specs.declared.template.Template.{Template}
use Rattle.qc_code.specs.Running.{run_of}
use Rattle.qc_code.specs.Setting.{IsSetting, Setting, transfers_from}

-- ---- states

-- A state of the description's machine, but that the row of the allocatable space has so many cells, which may be more
-- than the space has.
pub record IsWideState (d : Description) (row : ℕ) (s : State) : Type 0 where
  pub facts : s.facts ≡ d.facts
  pub widths : s.widths ≡ widths_of d
  pub counts : map length s.cells ≡ slice_set (counts_of d) d.allocatable row
  pub more : slice_index (counts_of d) d.allocatable ≤ row
  pub state : IsState s

-- The states are the same but for the program counter and for cells that aren't kept.
pub record AreSameOn (Kept : ℕ → ℕ → Type 0) (s u : State) : Type 0 where
  pub facts : u.facts ≡ s.facts
  pub widths : u.widths ≡ s.widths
  pub rows : map length u.cells ≡ map length s.cells
  pub cells : (space index : ℕ) → Kept space index → cell_of u.cells space index ≡ cell_of s.cells space index
  pub memory : u.memory ≡ s.memory
  pub input : u.input ≡ s.input
  pub taken : u.taken ≡ s.taken
  pub ending : u.ending ≡ s.ending

-- ---- cells

abbrev pub has_flags : Option Space → Bool
has_flags None = false
has_flags (Some space) = space.flags

-- a cell of this space is a flag
abbrev pub is_flag_space : Description → ℕ → Bool
is_flag_space d space = has_flags (slice_get d.spaces space)

-- The cell is no flag, and none of so many scratches.
pub record IsKept (d : Description) (scratches : ℕ) (e : Setting) (space index : ℕ) : Type 0 where
  pub flag : is_flag_space d space ≡ false
  pub scratch : space ≡ d.allocatable → (k : ℕ) → k < scratches → index ≢ e.scratch k

-- ---- tiles

abbrev pub is_trap : Event → Bool
is_trap (Trapped code) = true
is_trap _ = false

-- A run does what one register transfer list does, but for scratches and flags. The program counter of a state that has
-- trapped is not compared.
pub record DoesAs (d : Description) (scratches : ℕ) (e : Setting) (o : Outcome) (p : Progress) : Type 0 where
  pub state : AreSameOn (IsKept d scratches e) o.state p.state
  pub pc : is_trap o.event ≡ false → p.state.pc ≡ o.state.pc
  pub output : p.output ≡ words_of o.event

-- No line but the last leaves the template: after each of the others the run has ended, or goes on at the next line.
abbrev pub GoesThrough : Description → Tile → Template → Setting → State → Type 0
GoesThrough d t x e s =
    (k : ℕ) → suc k < length x.instances →
    let p = run_of (take (suc k) (transfers_from d t e 0 x.instances)) (record { state = s; output = [] }) in
    IsSome p.state.ending ⊎ (p.state.pc ≡ e.next k)

-- Wherever the template is used, and in whatever running state, its lines do what the tile's register transfer list does
-- at the address after the last line, but for scratches and flags. They trap, with the same code, where it does.
abbrev pub TileHolds : Description → Tile → Template → Type 0
TileHolds d t x =
    (row : ℕ) (e : Setting) (s : State) → IsSetting d t x.scratches (length x.instances) row e → IsWideState d row s →
    s.ending ≡ None →
    DoesAs d x.scratches e (outcome_of t.rtl e.operands (e.next (length x.instances - 1)) s)
    (run_of (transfers_from d t e 0 x.instances) (record { state = s; output = [] }))
    × GoesThrough d t x e s
