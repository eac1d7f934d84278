-- Code of tiles, code of instructions and placed code as one notion of code, and what a line of each is.
use Rattle.std.specs.Prelude.{ℕ, List, [], ◌∷◌, ◌++◌, length, map, replicate, slice_get, Option, None, Some, Bool, true, false}
use Rattle.qc_terms.specs.declared.term.Rtl.{Rtl}
use Rattle.qc_descr.specs.declared.description.Description.{Description}
use Rattle.qc_descr.specs.declared.description.Instruction.{Instruction}
use Rattle.qc_descr.specs.declared.description.OperandKind.{OperandKind}
use Rattle.qc_descr.specs.declared.description.OperandKind.TheVariants as kind
use Rattle.qc_descr.specs.Description.{kinds_of}
use Rattle.qc_tiles.specs.Sound.{facts_of}
use Rattle.qc_tiles.specs.Tiles.{tile_of}
use Rattle.qc_meaning.specs.declared.lines.Line.{Line}
use Rattle.qc_meaning.specs.declared.lines.Line.TheVariants as line
use Rattle.qc_meaning.specs.declared.lines.TileLine.{TileLine}
use Rattle.qc_meaning.specs.declared.lines.TileLine.TheVariants as tile_line
use Rattle.qc_meaning.specs.declared.lines.TileCode.{TileCode}
use Rattle.qc_meaning.specs.declared.lines.Code.{Code}
use Rattle.qc_meaning.specs.declared.lines.Placed.{Placed}
use Rattle.qc_meaning.specs.Code.{Flat, Inst, Does, Label, flat_of}
use Rattle.qc_meaning.specs.Code as code

-- ---- code of tiles

-- a target stands as one operand more, which is its address
abbrev pub target_operands : Option ℕ → List ℕ
target_operands None = []
target_operands (Some target) = 0 ∷ []

abbrev pub target_marks : Option ℕ → List Bool
target_marks None = []
target_marks (Some target) = true ∷ []

abbrev pub line_of_tile : Description → TileLine → code.Line
line_of_tile d (tile_line.Label number) = Label number
line_of_tile d (tile_line.Inst tile registers constants target) = Does (record {
  rtl = (tile_of (facts_of d) tile).rtl;
  operands = registers ++ (constants ++ target_operands target);
  addressed = replicate (length registers) false ++ (replicate (length constants) false ++ target_marks target);
  target = target;
})

abbrev pub flat_tiles : Description → TileCode → Flat
flat_tiles d x = flat_of (map (λ lines. map (line_of_tile d) lines) x.procedures)

-- ---- code of instructions

abbrev pub is_address : OperandKind → Bool
is_address (kind.Register space) = false
is_address (kind.Imm width) = false
is_address kind.Addr = true

abbrev pub kinds_at : Option Instruction → List OperandKind
kinds_at None = []
kinds_at (Some i) = kinds_of i

abbrev pub rtl_at : Option Instruction → Rtl
rtl_at None = record { effects = [] }
rtl_at (Some i) = i.rtl

abbrev pub line_of_instance : Description → Line → code.Line
line_of_instance d (line.Label number) = Label number
line_of_instance d (line.Inst instance target) = Does (record {
  rtl = rtl_at (slice_get d.instructions instance.instruction);
  operands = instance.operands.items;
  addressed = map is_address (kinds_at (slice_get d.instructions instance.instruction));
  target = target;
})

abbrev pub flat_lines : Description → List (List Line) → Flat
flat_lines d procedures = flat_of (map (λ lines. map (line_of_instance d) lines) procedures)

abbrev pub flat_code : Description → Code → Flat
flat_code d x = flat_lines d x.procedures

abbrev pub flat_placed : Description → Placed → Flat
flat_placed d x = flat_lines d x.procedures
