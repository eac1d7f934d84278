-- Marked words: which words of a template's lines come from marked ones, and that they are no more than the tile's.
use Rattle.std.specs.Prelude.{ℕ, List, [], ◌∷◌, Bool, true, false, not, ◌||◌, ◌&&◌, if◌then◌else◌, nat_eq, nat_le, is_none, IsTrue}
use Rattle.std.specs.List.{list_all, list_any}
use Rattle.qc_terms.specs.declared.term.Dest.{Dest}
use Rattle.qc_terms.specs.declared.term.Dest.TheVariants as dest
use Rattle.qc_terms.specs.declared.term.Effect.{Effect}
use Rattle.qc_terms.specs.declared.term.Place.{Place}
use Rattle.qc_terms.specs.State.{is_zero_cell}
use Rattle.qc_terms.specs.Tree.{Tree, Register, Immediate, Load, AddressAfter, tree_of}
use Rattle.qc_descr.specs.declared.description.Description.{Description}
use Rattle.qc_tiles.specs.declared.tile.Tile.{Tile}
use Rattle.qc_code.specs.declared.template.Template.{Template}
use Rattle.qc_code.specs.Setting.{Line}
use Rattle.qc_code.specs.TileHolds.{is_flag_space}
use Rattle.qc_code.specs.Work.{Named, Parameter, Scratch, Fixed, Nowhere, Work, goes_to, in_address, in_effect, in_guard, is_inner, is_nil, is_same_dest, line_work, reads_after, some_leaf, tile_work}

-- Which words are marked where a tile's code begins, by any mark that goes on to what is computed from a marked word: those
-- in parameters, the target, the address after the code, what is loaded, and those in cells that are named by their number.
pub record Marking : Type 0 where
  pub parameter : ℕ → Bool
  pub target : Bool
  pub after : Bool
  pub memory : Bool
  pub cell : ℕ → ℕ → Bool

abbrev pub nothing_marked : Marking
nothing_marked = record {
  parameter = λ number. false;
  target = false;
  after = false;
  memory = false;
  cell = λ space index. false;
}

-- which scratches and which flags have marked words
pub record Held : Type 0 where
  pub scratch : ℕ → Bool
  pub flag : ℕ → ℕ → Bool

abbrev pub all_marked : Held
all_marked = record { scratch = λ number. true; flag = λ space index. true }

-- ---- words

-- an allocatable cell
abbrev pub is_allocatable : Description → ℕ → ℕ → Bool
is_allocatable d space index = nat_eq space d.allocatable && (nat_le d.first index && nat_le index d.last)

-- The word that is read from a place is marked. One from an allocatable cell that is named by its number always is, and
-- the zero cell has none.
abbrev pub is_marked_place : Description → Marking → Held → Named → Bool
is_marked_place d m held (Parameter number) = m.parameter number
is_marked_place d m held (Scratch number) = held.scratch number
is_marked_place d m held (Fixed space index) =
    if is_zero_cell d.facts.zero space index then false
    else if is_flag_space d space then held.flag space index
    else is_allocatable d space index || m.cell space index
is_marked_place d m held Nowhere = true

-- which leaves of a term have marked words
pub record Source : Type 0 where
  pub place : Place → Bool
  pub target : ℕ → Bool
  pub memory : Bool
  pub after : Bool

abbrev pub is_marked_leaf : Source → Tree → Bool
is_marked_leaf source (Register place width) = source.place place
is_marked_leaf source (Immediate operand width) = source.target operand
is_marked_leaf source (Load width address) = source.memory
is_marked_leaf source (AddressAfter width) = source.after
is_marked_leaf source _ = false

-- a word that is computed from a marked one is marked
abbrev pub is_marked : Source → Tree → Bool
is_marked source t = some_leaf (is_marked_leaf source) t

-- where the address after is marked or not, as is given
abbrev pub source_of : Description → Marking → Held → Bool → Work → Source
source_of d m held after w = record {
  place = λ place. is_marked_place d m held (w.place place);
  target = λ operand. w.target operand && m.target;
  memory = m.memory;
  after = after;
}

abbrev pub source_of_tile : Description → Marking → Tile → Source
source_of_tile d m t = source_of d m all_marked m.after (tile_work t)

-- the address after a line is that after the code only in the last line, and is marked elsewhere, or where the tile
-- doesn't have it
abbrev pub source_of_line : Description → Tile → Marking → Held → Bool → Line → Source
source_of_line d t m held last line =
    source_of d m held (if last && reads_after (tile_work t) then m.after else true) (line_work d line)

-- ---- effects

abbrev pub guard_is_marked : Source → Effect → Bool
guard_is_marked source e = in_guard (is_marked source) e.guard

-- the word that an effect writes is marked also by its guard, be it true or not
abbrev pub word_is_marked : Source → Effect → Bool
word_is_marked source e = guard_is_marked source e || is_marked source (tree_of e.value)

-- a marked word is read in the address of a load
abbrev pub at_load : Source → Tree → Bool
at_load source (Load width address) = is_marked source address
at_load source _ = false

-- a marked word is read in some address of memory
abbrev pub marks_address : Source → Work → Bool
marks_address source w =
    list_any (λ e. in_address (is_marked source) e.to || in_effect (some_leaf (at_load source)) e) w.effects

-- a place that gets a word keeps its mark too where there is a guard
abbrev pub mark_after : Bool → Bool → Bool → Bool
mark_after guarded word old = word || (guarded && old)

abbrev pub with_mark : Named → Bool → Bool → Held → Held
with_mark (Scratch number) guarded word held =
    record held { scratch = λ k. if nat_eq k number then mark_after guarded word (held.scratch k) else held.scratch k }
with_mark (Fixed space index) guarded word held =
    record held { flag = λ s i. if nat_eq s space && nat_eq i index then mark_after guarded word (held.flag s i) else held.flag s i }
with_mark _ guarded word held = held

abbrev pub held_after_effect : Source → (Place → Named) → Effect → Dest → Held → Held
held_after_effect source named e (dest.Reg place) held =
    with_mark (named place) (not (is_none e.guard)) (word_is_marked source e) held
held_after_effect source named e _ held = held

-- what is held after the effects of a line, all of which read what was held before
abbrev pub held_after : Source → (Place → Named) → List Effect → Held → Held
held_after source named [] held = held
held_after source named (e ∷ es) held = held_after source named es (held_after_effect source named e e.to held)

-- ---- templates

-- what is marked here is marked there
abbrev pub implies : Bool → Bool → Bool
implies here there = not here || there

-- an effect of the tile goes to the same place, and is marked where this one is, in its word and in its guard
abbrev pub is_covered : Tile → Source → Source → Work → Effect → Bool
is_covered t source tiles w e =
    list_any (λ f. is_same_dest w.place e.to (tile_work t).place f.to
    && (implies (word_is_marked source e) (word_is_marked tiles f)
    && implies (guard_is_marked source e) (guard_is_marked tiles f))) t.rtl.effects

-- a line, under what is held before it
abbrev pub line_marks_no_more : Description → Tile → Marking → Source → Work → Bool
line_marks_no_more d t m source w =
    implies (marks_address source w) (marks_address (source_of_tile d m t) (tile_work t))
    && list_all (λ e. goes_to (is_inner d) w.place e.to || is_covered t source (source_of_tile d m t) w e) w.effects

abbrev pub lines_mark_no_more : Description → Tile → Marking → Held → List Line → Bool
lines_mark_no_more d t m held [] = true
lines_mark_no_more d t m held (line ∷ lines) =
    let w = line_work d line in
    let source = source_of_line d t m held (is_nil lines) line in
    line_marks_no_more d t m source w
    && lines_mark_no_more d t m (held_after source w.place w.effects held) lines

-- Whatever is marked before, but for scratches, flag cells and the zero cell no word that the lines write is marked where
-- the tile's isn't, nor a guard of an effect on another place; and a marked word is read in an address of memory only if
-- it is so in the tile's register transfer list.
abbrev pub MarksNoMore : Description → Tile → Template → Type 0
MarksNoMore d t x = (m : Marking) → IsTrue (lines_mark_no_more d t m all_marked x.instances)

-- Stray words go to scratches, flag cells and the zero cell alone, and are read in no memory address and in no guard of an
-- effect on another place. A word is stray if it is read from an allocatable cell that is named by its number, or from a
-- flag cell that no earlier line wrote without a guard; if it is an address after, but not the tile's; and if it is
-- computed from a stray word, or written under a guard that reads one. Where nothing is marked before, the marked words are
-- the stray ones.
abbrev pub KeepsStrayWords : Description → Tile → Template → Type 0
KeepsStrayWords d t x = IsTrue (lines_mark_no_more d t nothing_marked all_marked x.instances)
