-- The list of tiles of a machine: register transfer lists that a compiler makes its code of, whatever the instructions are.
use Rattle.std.specs.Prelude.{ℕ, ◌-◌, List, [], ◌∷◌, map, filter, Bool, true, false, if◌then◌else◌, nat_eq, nat_lt, Option, None, Some, option_to_list}
use Rattle.qc_words.specs.declared.operator.Op.TheVariants.{Add, And, Zx, Sx, Slice}
use Rattle.qc_words.specs.Operators.{complement_of}
use Rattle.qc_terms.specs.declared.term.Dest.{Dest}
use Rattle.qc_terms.specs.declared.term.Dest.TheVariants as dest
use Rattle.qc_terms.specs.declared.term.Effect.{Effect}
use Rattle.qc_terms.specs.declared.term.Place.TheVariants.{Cell, Operand}
use Rattle.qc_terms.specs.Tree.{Tree, Number, Unary, Binary, Register, Immediate, Load, NextInput, AddressAfter}
use Rattle.qc_tiles.specs.declared.name.TileName.{TileName}
use Rattle.qc_tiles.specs.declared.shape.Shape.{Shape}
use Rattle.qc_tiles.specs.declared.shape.Shape.TheVariants.{Move, Const, Test, Branch, LoadPart, LoadWord, StorePart, StoreWord, Goto, Call, Ret, SaveLink, LoadLink, Spill, Reload, Frame, In, Out, Halt, Trap}
use Rattle.qc_tiles.specs.declared.shape.Shape.TheVariants as shape
use Rattle.qc_tiles.specs.declared.tile.Tile.{Tile}
use Rattle.qc_tiles.specs.declared.tile.TileFacts.{TileFacts}
use Rattle.qc_tiles.specs.Names.{all_names, is_core, shape_of}
use Rattle.qc_tiles.specs.Terms.{term_of}

-- the register parameter of this number, which is of the frame cell's space
abbrev pub parameter : TileFacts → ℕ → Tree
parameter f number = Register (Operand f.frame.0 number) f.word

abbrev pub frame_cell : TileFacts → Tree
frame_cell f = Register (Cell f.frame.0 f.frame.1) f.word

abbrev pub link_cell : TileFacts → Tree
link_cell f = Register (Cell f.link.0 f.link.1) f.word

-- a constant word or a target, as the operand of this number
abbrev pub word_operand : TileFacts → ℕ → Tree
word_operand f number = Immediate number f.word

-- a frame offset, as the operand of this number: a signed number, extended where it has fewer bits than a word
abbrev pub offset : TileFacts → ℕ → Tree
offset f number =
    if nat_eq f.slot_bits f.word then Immediate number f.word else Unary (Sx f.word) (Immediate number f.slot_bits)

-- the address of a frame slot, by an offset from the frame cell
abbrev pub slot : TileFacts → ℕ → Tree
slot f number = Binary Add (frame_cell f) (offset f number)

-- the word without the bits of align - 1, of which each address of an instruction has none
abbrev pub aligned : TileFacts → Tree → Tree
aligned f address = Binary And address (Number (complement_of f.word (f.align - 1)) f.word)

-- ---- effects

-- Of a tile's operands the register parameters are first, then comes the constant if it has one, and then the target if it
-- has one. The register that gets a value is the first parameter.

abbrev pub gives : Dest → Tree → Effect
gives to value = record { guard = None; to = to; value = term_of value }

abbrev pub sets : TileFacts → Tree → List Effect
sets f value = gives (dest.Reg (Operand f.frame.0 0)) value ∷ []

abbrev pub stores : (bits : ℕ) (address value : Tree) → List Effect
stores bits address value = gives (dest.Mem bits (term_of address)) value ∷ []

abbrev pub goes_where : Tree → Tree → List Effect
goes_where guard target = record { guard = Some (term_of guard); to = dest.Pc; value = term_of target } ∷ []

-- What a tile does, one line each.
abbrev pub effects_of : TileFacts → Shape → List Effect
effects_of f Move = sets f (parameter f 1)
effects_of f Const = sets f (word_operand f 1)
effects_of f (shape.Unary op) = sets f (Unary op (parameter f 1))
effects_of f (shape.Binary op) = sets f (Binary op (parameter f 1) (parameter f 2))
effects_of f (Test op) = sets f (Unary (Zx f.word) (Binary op (parameter f 1) (parameter f 2)))
effects_of f (Branch op) = goes_where (Binary op (parameter f 0) (parameter f 1)) (word_operand f 2)
effects_of f (LoadPart bits) = sets f (Unary (Zx f.word) (Load bits (parameter f 1)))
effects_of f LoadWord = sets f (Load f.word (parameter f 1))
effects_of f (StorePart bits) = stores bits (parameter f 0) (Unary (Slice 0 bits) (parameter f 1))
effects_of f StoreWord = stores f.word (parameter f 0) (parameter f 1)
effects_of f Goto = gives dest.Pc (word_operand f 0) ∷ []
effects_of f Call = gives (dest.Reg (Cell f.link.0 f.link.1)) (AddressAfter f.word) ∷ gives dest.Pc (word_operand f 0) ∷ []
effects_of f Ret = gives dest.Pc (aligned f (link_cell f)) ∷ []
effects_of f SaveLink = stores f.word (slot f 0) (link_cell f)
effects_of f LoadLink = gives (dest.Reg (Cell f.link.0 f.link.1)) (Load f.word (slot f 0)) ∷ []
effects_of f Spill = stores f.word (slot f 1) (parameter f 0)
effects_of f Reload = sets f (Load f.word (slot f 1))
effects_of f Frame = gives (dest.Reg (Cell f.frame.0 f.frame.1)) (Binary Add (frame_cell f) (word_operand f 0)) ∷ []
effects_of f In = sets f (NextInput f.word)
effects_of f Out = gives dest.Out (parameter f 0) ∷ []
effects_of f Halt = gives dest.Halt (parameter f 0) ∷ []
effects_of f Trap = gives dest.Trap (Immediate 0 8) ∷ []

-- ---- operands

abbrev pub registers_of : Shape → ℕ
registers_of Move = 2
registers_of (shape.Unary op) = 2
registers_of (shape.Binary op) = 3
registers_of (Test op) = 3
registers_of (Branch op) = 2
registers_of (LoadPart bits) = 2
registers_of LoadWord = 2
registers_of (StorePart bits) = 2
registers_of StoreWord = 2
registers_of Const = 1
registers_of Spill = 1
registers_of Reload = 1
registers_of In = 1
registers_of Out = 1
registers_of Halt = 1
registers_of _ = 0

-- the width of the constant, if the tile has one
abbrev pub constant_of : TileFacts → Shape → Option ℕ
constant_of f Const = Some f.word
constant_of f Frame = Some f.word
constant_of f SaveLink = Some f.slot_bits
constant_of f LoadLink = Some f.slot_bits
constant_of f Spill = Some f.slot_bits
constant_of f Reload = Some f.slot_bits
constant_of f Trap = Some 8
constant_of f _ = None

abbrev pub has_target : Shape → Bool
has_target (Branch op) = true
has_target Goto = true
has_target Call = true
has_target _ = false

-- ---- the list

-- a part of a word is loaded and stored by a tile of its own where it is less than the word
abbrev pub stands_at : ℕ → Shape → Bool
stands_at word (LoadPart bits) = nat_lt bits word
stands_at word (StorePart bits) = nat_lt bits word
stands_at word _ = true

-- the tile of a name that does what a shape says
abbrev pub tile_with : TileFacts → TileName → Shape → Tile
tile_with f name shape = record {
  name = name;
  registers = registers_of shape;
  constants = option_to_list (constant_of f shape);
  target = has_target shape;
  rtl = record { effects = effects_of f shape };
  core = is_core name;
}

abbrev pub tile_of : TileFacts → TileName → Tile
tile_of f name = tile_with f name (shape_of name)

-- the tiles of these names that a machine has, in order
unfoldable pub tiles_among : TileFacts → List TileName → List Tile
tiles_among f names = map (tile_of f) (filter (λ name. stands_at f.word (shape_of name)) names)

-- the tiles of a machine
abbrev pub tiles_of : TileFacts → List Tile
tiles_of f = tiles_among f all_names
