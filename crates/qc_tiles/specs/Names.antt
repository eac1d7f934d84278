-- The names of the tiles, with their texts and with what each tile does.
use Rattle.std.specs.Prelude.{ℕ, Bool, true, false, List, [], ◌∷◌, codes}
use Rattle.std.specs.Str.{bytes_eq}
use Rattle.qc_words.specs.declared.operator.Op.TheVariants as op
use Rattle.qc_tiles.specs.declared.name.TileName.{TileName}
use Rattle.qc_tiles.specs.declared.name.TileName.TheVariants as name
use Rattle.qc_tiles.specs.declared.shape.Shape.{Shape}
use Rattle.qc_tiles.specs.declared.shape.Shape.TheVariants as shape

-- every name in the order of the list
unfoldable pub all_names : List TileName
all_names =
    name.Move ∷ name.Const ∷ name.Add ∷ name.Sub ∷ name.Neg ∷ name.And ∷ name.Or ∷ name.Xor ∷
    name.Com ∷ name.Shl ∷ name.Shrl ∷ name.Shra ∷ name.Seteq ∷ name.Setne ∷ name.Setlt ∷ name.Setltu ∷
    name.Breq ∷ name.Brne ∷ name.Brlt ∷ name.Brge ∷ name.Brltu ∷ name.Brgeu ∷ name.Ldb ∷ name.Ldh ∷
    name.Ldw ∷ name.Stb ∷ name.Sth ∷ name.Stw ∷ name.Goto ∷ name.Call ∷ name.Ret ∷ name.Savelink ∷
    name.Loadlink ∷ name.Spill ∷ name.Reload ∷ name.Frame ∷ name.In ∷ name.Out ∷ name.Halt ∷ name.Trap ∷
    name.Mul ∷ name.Divu ∷ name.Modu ∷ name.Quot ∷ name.Rem ∷ name.Ldv ∷ name.Stv ∷ []

-- the name as texts have it
abbrev pub text_of : TileName → List ℕ
text_of name.Move = codes "move"
text_of name.Const = codes "const"
text_of name.Add = codes "add"
text_of name.Sub = codes "sub"
text_of name.Neg = codes "neg"
text_of name.And = codes "and"
text_of name.Or = codes "or"
text_of name.Xor = codes "xor"
text_of name.Com = codes "com"
text_of name.Shl = codes "shl"
text_of name.Shrl = codes "shrl"
text_of name.Shra = codes "shra"
text_of name.Seteq = codes "seteq"
text_of name.Setne = codes "setne"
text_of name.Setlt = codes "setlt"
text_of name.Setltu = codes "setltu"
text_of name.Breq = codes "breq"
text_of name.Brne = codes "brne"
text_of name.Brlt = codes "brlt"
text_of name.Brge = codes "brge"
text_of name.Brltu = codes "brltu"
text_of name.Brgeu = codes "brgeu"
text_of name.Ldb = codes "ldb"
text_of name.Ldh = codes "ldh"
text_of name.Ldw = codes "ldw"
text_of name.Stb = codes "stb"
text_of name.Sth = codes "sth"
text_of name.Stw = codes "stw"
text_of name.Goto = codes "goto"
text_of name.Call = codes "call"
text_of name.Ret = codes "ret"
text_of name.Savelink = codes "savelink"
text_of name.Loadlink = codes "loadlink"
text_of name.Spill = codes "spill"
text_of name.Reload = codes "reload"
text_of name.Frame = codes "frame"
text_of name.In = codes "in"
text_of name.Out = codes "out"
text_of name.Halt = codes "halt"
text_of name.Trap = codes "trap"
text_of name.Mul = codes "mul"
text_of name.Divu = codes "divu"
text_of name.Modu = codes "modu"
text_of name.Quot = codes "quot"
text_of name.Rem = codes "rem"
text_of name.Ldv = codes "ldv"
text_of name.Stv = codes "stv"

-- the text is the name's
abbrev pub has_text : List ℕ → TileName → Bool
has_text text name = bytes_eq (text_of name) text

-- what the tile of a name does
abbrev pub shape_of : TileName → Shape
shape_of name.Move = shape.Move
shape_of name.Const = shape.Const
shape_of name.Add = shape.Binary op.Add
shape_of name.Sub = shape.Binary op.Sub
shape_of name.Neg = shape.Unary op.Neg
shape_of name.And = shape.Binary op.And
shape_of name.Or = shape.Binary op.Or
shape_of name.Xor = shape.Binary op.Xor
shape_of name.Com = shape.Unary op.Com
shape_of name.Shl = shape.Binary op.Shl
shape_of name.Shrl = shape.Binary op.Shrl
shape_of name.Shra = shape.Binary op.Shra
shape_of name.Seteq = shape.Test op.Eq
shape_of name.Setne = shape.Test op.Ne
shape_of name.Setlt = shape.Test op.Lt
shape_of name.Setltu = shape.Test op.Ltu
shape_of name.Breq = shape.Branch op.Eq
shape_of name.Brne = shape.Branch op.Ne
shape_of name.Brlt = shape.Branch op.Lt
shape_of name.Brge = shape.Branch op.Ge
shape_of name.Brltu = shape.Branch op.Ltu
shape_of name.Brgeu = shape.Branch op.Geu
shape_of name.Ldb = shape.LoadPart 8
shape_of name.Ldh = shape.LoadPart 16
shape_of name.Ldw = shape.LoadWord
shape_of name.Stb = shape.StorePart 8
shape_of name.Sth = shape.StorePart 16
shape_of name.Stw = shape.StoreWord
shape_of name.Goto = shape.Goto
shape_of name.Call = shape.Call
shape_of name.Ret = shape.Ret
shape_of name.Savelink = shape.SaveLink
shape_of name.Loadlink = shape.LoadLink
shape_of name.Spill = shape.Spill
shape_of name.Reload = shape.Reload
shape_of name.Frame = shape.Frame
shape_of name.In = shape.In
shape_of name.Out = shape.Out
shape_of name.Halt = shape.Halt
shape_of name.Trap = shape.Trap
shape_of name.Mul = shape.Binary op.Mul
shape_of name.Divu = shape.Binary op.Divu
shape_of name.Modu = shape.Binary op.Modu
shape_of name.Quot = shape.Binary op.Quot
shape_of name.Rem = shape.Binary op.Rem
shape_of name.Ldv = shape.LoadPart 32
shape_of name.Stv = shape.StorePart 32

-- a tile that is not one of those for multiplication and division, which a machine may lack
abbrev pub is_core : TileName → Bool
is_core name.Mul = false
is_core name.Divu = false
is_core name.Modu = false
is_core name.Quot = false
is_core name.Rem = false
is_core _ = true
