-- The rule that states of a machine keep, and what terms are typed for.
use Rattle.std.specs.Prelude.{ℕ, ◌≡◌, ◌<◌, ◌≤◌, ◌^◌, List, length, map, slice_index, Option, None, Some, Bool, true, false, ◌&&◌, nat_eq, All, IsTrue}
use Rattle.std.specs.Option.{ForSome}
use Rattle.qc_terms.specs.declared.state.Event.{Event}
use Rattle.qc_terms.specs.declared.state.Event.TheVariants.{Ended, Trapped}
use Rattle.qc_terms.specs.declared.state.State.{State}
use Rattle.qc_terms.specs.Cells.{HasCell, cell_of}

-- the word's width, and the width and the number of cells of each space
pub record Context : Type 0 where
  pub word : ℕ
  pub widths : List ℕ
  pub counts : List ℕ

abbrev pub context_of : State → Context
context_of s = record { word = s.facts.word; widths = s.widths; counts = map length s.cells }

-- the cell that always reads 0
abbrev pub is_zero_cell : Option (ℕ × ℕ) → ℕ → ℕ → Bool
is_zero_cell None space index = false
is_zero_cell (Some zero) space index = nat_eq zero.0 space && nat_eq zero.1 index

-- an event with which a run stops
abbrev pub is_ending : Event → Bool
is_ending (Ended code) = true
is_ending (Trapped code) = true
is_ending _ = false

-- There is one width per space, and each cell has a word of its space's width. The program counter and the words
-- of the input are words of the machine, and no more of them were taken than there are. Memory holds bytes. A machine that has
-- stopped did so by an end or a trap.
pub record IsState (s : State) : Type 0 where
  pub spaces : length s.cells ≡ length s.widths
  pub words : (space index : ℕ) → HasCell s.cells space index → cell_of s.cells space index < 2 ^ slice_index s.widths space
  pub memory : All (λ byte. byte < 256) s.memory
  pub pc : s.pc < 2 ^ s.facts.word
  pub input : All (λ word. word < 2 ^ s.facts.word) s.input
  pub taken : s.taken ≤ length s.input
  pub ending : ForSome s.ending (λ event. IsTrue (is_ending event))
