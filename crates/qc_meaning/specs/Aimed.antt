-- Lines that jump where their text says: to their target, or to the line after the last call.
use Rattle.std.specs.Prelude.{ℕ, ◌≡◌, ◌<◌, length, slice_get, Some, true}
use Rattle.qc_descr.specs.declared.description.Description.{Description}
use Rattle.qc_meaning.specs.Code.{Flat, aim_at, entry_at}
use Rattle.qc_meaning.specs.Runs.{Data, aimed_place, jump_of}

-- The word to which a line sets the program counter is the address of the place to which the line jumps by its text, and words may
-- lead there.
pub record JumpsAsAimed (d : Description) (x : Flat) (at : ℕ → ℕ) (s : ℕ × Data) (word : ℕ) : Type 0 where
  pub known : aimed_place x (aim_at x s.0) s.1.calls < length x.lines
  pub entry : entry_at d.link x (aimed_place x (aim_at x s.0) s.1.calls) ≡ true
  pub address : word ≡ at (aimed_place x (aim_at x s.0) s.1.calls)

abbrev pub IsAimed : Description → Flat → (ℕ → ℕ) → ℕ × Data → Type 0
IsAimed d x at s = (word : ℕ) → jump_of d x at s.0 (slice_get x.lines s.0) s.1 ≡ Some word → JumpsAsAimed d x at s word
