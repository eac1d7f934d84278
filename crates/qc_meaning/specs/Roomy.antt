-- Roomy code: its slots and registers fit into the frame and into the cells that a compiler may use.
use Rattle.std.specs.Prelude.{ℕ, suc, ◌≡◌, ◌≢◌, ◌+◌, ◌-◌, ◌/◌, ◌≤◌, ◌⊎◌, List, length, slice_get, Some, Bool, true, false, All, Contains}
use Rattle.std.specs.List.{AllPairs}
use Rattle.qc_descr.specs.declared.description.Description.{Description}
use Rattle.qc_meaning.specs.Code.{Does, Flat, Inst, Standing, calls_at, sets_counter}
use Rattle.qc_meaning.specs.Liveness.{HasGap, StandsAt, is_even, line_writes, names_register, writes_frame}
use Rattle.qc_meaning.specs.Slots.{slots_of, word_bytes}

-- how many cells a compiler may use
abbrev pub usable_cells : Description → ℕ
usable_cells d = suc (d.last - d.first)

-- some line of the code names the slot, where each frame has so many bytes
pub record NamesSlot (d : Description) (x : Flat) (frame slot : ℕ) : Type 0 where
  pub place : ℕ
  pub procedure : ℕ
  pub first : Bool
  pub inst : Inst
  pub stands : slice_get x.lines place ≡ Some (record { procedure = procedure; first = first; line = Does inst })
  pub named : Contains (slots_of d frame inst) slot

-- numbers of which no two are the same
abbrev pub AreApart : List ℕ → Type 0
AreApart numbers = AllPairs (λ a b. a ≢ b) numbers

-- the gap after a line lies on both sides of it
abbrev pub HasBothGaps : Description → Flat → (p number k : ℕ) → Type 0
HasBothGaps d x p number k = ((j : ℕ) × (suc j ≡ k) × HasGap d x p number j) × HasGap d x p number k

-- The slots that lines name, with the even registers whose interval has a gap, are no more than a frame's words. At each line the
-- odd registers that stand there and the even ones that it names are no more than the usable cells. No odd register is kept over a
-- call, and no line that sets the program counter or the frame cell writes an even one.
pub record IsRoomy (d : Description) (x : Flat) (frame : ℕ) : Type 0 where
  pub frames : (p k : ℕ) (slots registers : List ℕ) → AreApart slots → All (NamesSlot d x frame) slots → AreApart registers →
      All (λ r. (is_even r ≡ true) × HasGap d x p r k) registers → length slots + length registers ≤ frame / word_bytes d
  pub cells : (k : ℕ) (s : Standing) (registers : List ℕ) → slice_get x.lines k ≡ Some s → AreApart registers →
      All (λ r. ((is_even r ≡ false) × StandsAt d x s.procedure r k) ⊎ ((is_even r ≡ true) × (names_register d r s.line ≡ true))) registers →
      length registers ≤ usable_cells d
  pub calls : (p k number : ℕ) → is_even number ≡ false → calls_at d.link x k ≡ true → HasBothGaps d x p number k → ⊥
  pub quiet : (k number : ℕ) (s : Standing) → slice_get x.lines k ≡ Some s → is_even number ≡ true → line_writes d number s.line ≡ true →
      (sets_counter s.line ≡ false) × (writes_frame d s.line ≡ false)
