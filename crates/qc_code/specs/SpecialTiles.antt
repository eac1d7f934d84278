-- Templates of tiles of which more is asked: those of the link, of frame slots, and of calls.
use Rattle.std.specs.Prelude.{ℕ, length, count_by, Bool, true, false, not, ◌||◌, ◌&&◌, nat_eq, IsTrue}
use Rattle.std.specs.List.{flat_map, list_any}
use Rattle.qc_terms.specs.declared.term.Dest.{Dest}
use Rattle.qc_terms.specs.declared.term.Dest.TheVariants as dest
use Rattle.qc_descr.specs.declared.description.Description.{Description}
use Rattle.qc_tiles.specs.declared.shape.Shape.{Shape}
use Rattle.qc_tiles.specs.declared.shape.Shape.TheVariants as shape
use Rattle.qc_tiles.specs.declared.tile.Tile.{Tile}
use Rattle.qc_tiles.specs.Names.{shape_of}
use Rattle.qc_code.specs.declared.template.Slot.{Slot}
use Rattle.qc_code.specs.declared.template.Slot.TheVariants as slot
use Rattle.qc_code.specs.declared.template.Template.{Template}
use Rattle.qc_code.specs.Setting.{Line}
use Rattle.qc_code.specs.TileHolds.{is_flag_space}
use Rattle.qc_code.specs.Work.{Fixed, Scratch, Named, goes_to, is_scratch, line_work, reads}

abbrev pub moves_link : Shape → Bool
moves_link shape.SaveLink = true
moves_link shape.LoadLink = true
moves_link _ = false

abbrev pub moves_slot : Shape → Bool
moves_slot shape.Spill = true
moves_slot shape.Reload = true
moves_slot _ = false

abbrev pub is_call_shape : Shape → Bool
is_call_shape shape.Call = true
is_call_shape _ = false

abbrev pub is_one_line : Template → Bool
is_one_line x = nat_eq (length x.instances) 1

-- A template that saves or loads the link is one instruction.
abbrev pub MovesLinkAtOnce : Tile → Template → Type 0
MovesLinkAtOnce t x = IsTrue (not (moves_link (shape_of t.name)) || is_one_line x)

abbrev pub is_flag : Description → Named → Bool
is_flag d (Fixed space index) = is_flag_space d space
is_flag d _ = false

-- a flag cell is written
abbrev pub writes_flag : Description → Line → Bool
writes_flag d line = list_any (λ e. goes_to (is_flag d) (line_work d line).place e.to) (line_work d line).effects

-- A template of a spill or a reload is one instruction without a scratch, and writes no flag cell.
abbrev pub MovesSlotsAtOnce : Description → Tile → Template → Type 0
MovesSlotsAtOnce d t x =
    IsTrue (not (moves_slot (shape_of t.name))
    || (is_one_line x && (nat_eq x.scratches 0 && not (list_any (writes_flag d) x.instances))))

abbrev pub is_counter : Dest → Bool
is_counter dest.Pc = true
is_counter _ = false

abbrev pub names_scratch : ℕ → Slot → Bool
names_scratch k (slot.Scratch number) = nat_eq number k
names_scratch k _ = false

-- how many slots of the template name a scratch
abbrev pub naming_count : Template → ℕ → ℕ
naming_count x k = count_by (names_scratch k) (flat_map (λ line. line.1) x.instances)

-- the place is a scratch that the line reads, or that another slot of the template names
abbrev pub is_shared : Description → Template → Line → Named → Bool
is_shared d x line (Scratch k) = reads (is_scratch k) (line_work d line) || not (nat_eq (naming_count x k) 1)
is_shared d x line _ = false

-- the line sets the program counter, and writes a shared scratch
abbrev pub calls_with_shared : Description → Template → Line → Bool
calls_with_shared d x line =
    let w = line_work d line in
    list_any (λ e. is_counter e.to) w.effects && list_any (λ e. goes_to (is_shared d x line) w.place e.to) w.effects

-- In the template of a call the line that sets the program counter writes no scratch that it reads, or that the template
-- names elsewhere.
abbrev pub CallsApart : Description → Tile → Template → Type 0
CallsApart d t x =
    IsTrue (not (is_call_shape (shape_of t.name)) || not (list_any (calls_with_shared d x) x.instances))
