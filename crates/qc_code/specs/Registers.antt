-- Which registers the lines of a template read and write.
use Rattle.std.specs.Prelude.{ℕ, List, [], ◌∷◌, Bool, true, false, not, ◌||◌, ◌&&◌, nat_eq, is_none, IsTrue}
use Rattle.std.specs.List.{list_all, list_any}
use Rattle.qc_terms.specs.declared.term.Effect.{Effect}
use Rattle.qc_descr.specs.declared.description.Description.{Description}
use Rattle.qc_descr.specs.Valid.{all_below}
use Rattle.qc_tiles.specs.declared.tile.Tile.{Tile}
use Rattle.qc_code.specs.declared.template.Template.{Template}
use Rattle.qc_code.specs.Setting.{Line}
use Rattle.qc_code.specs.Work.{Work, Named, Parameter, Scratch, all_lines, goes_to, is_inner, is_parameter, is_same_dest, is_scratch, line_work, reads, tile_work}

-- ---- what is written

-- the tile writes there too
abbrev pub is_of_tile : Tile → Work → Effect → Bool
is_of_tile t w e = list_any (λ f. is_same_dest w.place e.to (tile_work t).place f.to) t.rtl.effects

-- a line writes scratches, flag cells and the zero cell, and what the tile writes if it is the last one
abbrev pub writes_as_tile : Description → Tile → Bool → Line → Bool
writes_as_tile d t last line =
    let w = line_work d line in
    list_all (λ e. goes_to (is_inner d) w.place e.to || (last && is_of_tile t w e)) w.effects

-- Each line but the last writes scratches, flag cells and the zero cell alone. The last line writes these and what the
-- tile's register transfer list writes, and nothing else.
abbrev pub WritesAsTile : Description → Tile → Template → Type 0
WritesAsTile d t x = IsTrue (all_lines (writes_as_tile d t) x.instances)

-- A register parameter is written without a guard.
abbrev pub SetsParameters : Description → Template → Type 0
SetsParameters d x =
    IsTrue (list_all (λ line. let w = line_work d line in
    list_all (λ e. not (goes_to is_parameter w.place e.to) || is_none e.guard) w.effects) x.instances)

-- ---- what is read

abbrev pub is_parameter_of : ℕ → Named → Bool
is_parameter_of n (Parameter number) = nat_eq number n
is_parameter_of n _ = false

-- A register parameter is read only if the tile's register transfer list reads it.
abbrev pub ReadsAsTile : Description → Tile → Template → Type 0
ReadsAsTile d t x =
    IsTrue (all_below t.registers (λ n.
    not (list_any (λ line. reads (is_parameter_of n) (line_work d line)) x.instances)
    || reads (is_parameter_of n) (tile_work t)))

-- which scratches are set after a line, where these were before: those that it writes without a guard are too
abbrev pub set_after : Work → (ℕ → Bool) → ℕ → Bool
set_after w set k = set k || list_any (λ e. is_none e.guard && goes_to (is_scratch k) w.place e.to) w.effects

abbrev pub is_unset : (ℕ → Bool) → Named → Bool
is_unset set (Scratch number) = not (set number)
is_unset set _ = false

-- each line reads no scratch but these and those that lines before it set
abbrev pub reads_set : Description → (ℕ → Bool) → List Line → Bool
reads_set d set [] = true
reads_set d set (line ∷ lines) =
    not (reads (is_unset set) (line_work d line)) && reads_set d (set_after (line_work d line) set) lines

-- A scratch is read only where an earlier line wrote it without a guard.
abbrev pub ReadsSetScratches : Description → Template → Type 0
ReadsSetScratches d x = IsTrue (reads_set d (λ k. false) x.instances)
