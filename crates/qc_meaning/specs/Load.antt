-- The load of code: what of it may become instructions.
use Rattle.std.specs.Prelude.{ℕ, suc, ◌+◌, List, map, sum, Bool, true, false, ◌&&◌}
use Rattle.std.specs.List.{count_by, range_with_len}
use Rattle.qc_descr.specs.declared.description.Description.{Description}
use Rattle.qc_tiles.specs.declared.shape.Shape.TheVariants.{Branch}
use Rattle.qc_tiles.specs.declared.shape.Shape.{Shape}
use Rattle.qc_tiles.specs.Names.{shape_of}
use Rattle.qc_tiles.specs.Tiles.{registers_of}
use Rattle.qc_meaning.specs.declared.lines.TileLine.{TileLine}
use Rattle.qc_meaning.specs.declared.lines.TileLine.TheVariants as tile_line
use Rattle.qc_meaning.specs.Code.{Flat, Does, Label, Line}
use Rattle.qc_meaning.specs.Liveness.{is_even, line_reads, line_writes}
use Rattle.qc_meaning.specs.Tame.{virtual_in}

abbrev pub one_if : Bool → ℕ
one_if true = 1
one_if false = 0

-- ---- lines of tiles

abbrev pub is_branch : Shape → Bool
is_branch (Branch op) = true
is_branch _ = false

-- A line of a tile has 1, 1 for each register that it reads and for each that it writes, which are its register parameters, and
-- 1 more for a branch.
abbrev pub tile_load : TileLine → ℕ
tile_load (tile_line.Label number) = 0
tile_load (tile_line.Inst tile registers constants target) = suc (registers_of (shape_of tile)) + one_if (is_branch (shape_of tile))

abbrev pub tiles_load : List (List TileLine) → ℕ
tiles_load procedures = sum (map (λ lines. sum (map tile_load lines)) procedures)

-- ---- lines of instructions

-- how many even registers below a number pass a test
abbrev pub evens : (ℕ → Bool) → ℕ → ℕ
evens test most = count_by (λ number. is_even number && test number) (range_with_len 0 most)

-- A line has 1, and 1 for each even register that it reads and for each that it writes; a label has none.
abbrev pub line_load : Description → (most : ℕ) → Line → ℕ
line_load d most (Label number) = 0
line_load d most (Does inst) =
    suc (evens (λ number. line_reads d number (Does inst)) most + evens (λ number. line_writes d number (Does inst)) most)

abbrev pub code_load : Description → Flat → ℕ
code_load d x = sum (map (λ s. line_load d (virtual_in x) s.line) x.lines)
