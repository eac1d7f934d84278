-- What holds of every tile, and what a description has to do with the facts that tiles are made for.
use Rattle.std.specs.Prelude.{ℕ, ◌≡◌, ◌<◌, ◌≤◌, ◌⊎◌, List, [], ◌∷◌, ◌++◌, length, map, replicate, slice_index, Bool, true, false, ◌||◌, if◌then◌else◌, IsTrue, Option, None, Some, IfSome, IsSome, All}
use Rattle.std.specs.List.{AllPairs, list_any}
use Rattle.qc_terms.specs.declared.state.State.{State}
use Rattle.qc_terms.specs.declared.term.Dest.{Dest}
use Rattle.qc_terms.specs.declared.term.Dest.TheVariants as dest
use Rattle.qc_terms.specs.declared.term.Effect.{Effect}
use Rattle.qc_terms.specs.declared.term.Place.{Place}
use Rattle.qc_terms.specs.declared.term.Place.TheVariants.{Cell, Operand}
use Rattle.qc_terms.specs.declared.term.Rtl.{Rtl}
use Rattle.qc_terms.specs.declared.term.Term.{Term}
use Rattle.qc_terms.specs.Effects.{rtl_has_input}
use Rattle.qc_terms.specs.State.{Context}
use Rattle.qc_terms.specs.Tree.{Tree, Number, Unary, Binary, Register, Immediate, Load, NextInput, AddressAfter, tree_of}
use Rattle.qc_terms.specs.Typing.{HasOneEvent, IsTypedRtl}
use Rattle.qc_terms.specs.Value.{value_of}
use Rattle.qc_descr.specs.declared.description.Description.{Description}
use Rattle.qc_descr.specs.declared.description.OperandKind.{OperandKind}
use Rattle.qc_descr.specs.declared.description.OperandKind.TheVariants as kind
use Rattle.qc_descr.specs.Valid.{EffectNames}
use Rattle.qc_tiles.specs.declared.tile.Tile.{Tile}
use Rattle.qc_tiles.specs.declared.tile.TileFacts.{TileFacts}

-- what a description gives to tiles
abbrev pub facts_of : Description → TileFacts
facts_of d = record { word = d.facts.word; align = d.align; slot_bits = d.slot_bits; frame = d.frame; link = d.link }

-- The frame and the link are cells of the machine, in a space whose cells are words.
pub record HasCells (context : Context) (f : TileFacts) : Type 0 where
  pub word : context.word ≡ f.word
  pub space : f.frame.0 < length context.widths
  pub width : slice_index context.widths f.frame.0 ≡ f.word
  pub frame : f.frame.1 < slice_index context.counts f.frame.0
  pub link : f.link.1 < slice_index context.counts f.link.0

-- ---- operands

-- so many registers of a space, then constants of these widths, then perhaps a target, which is an address
abbrev pub operand_kinds : (space registers : ℕ) (constants : List ℕ) (target : Bool) → List OperandKind
operand_kinds space registers constants target =
    replicate registers (kind.Register space) ++ (map kind.Imm constants ++ (if target then kind.Addr ∷ [] else []))

-- what the operands of a tile are
abbrev pub kinds_of_tile : TileFacts → Tile → List OperandKind
kinds_of_tile f t = operand_kinds f.frame.0 t.registers t.constants t.target

-- ---- values

-- the term has a value in every state
abbrev pub HasValue : Tree → Type 0
HasValue t = (operands : List ℕ) (after : ℕ) (s : State) → IsSome (value_of t operands after s)

abbrev pub AddressHasValue : Dest → Type 0
AddressHasValue (dest.Mem width address) = HasValue (tree_of address)
AddressHasValue _ = Unit {0}

-- where an effect has a guard, all that it needs has a value in every state, also where the guard is false
abbrev pub GuardedHasValues : Effect → Type 0
GuardedHasValues e = IfSome e.guard (λ g. HasValue (tree_of g) × AddressHasValue e.to × HasValue (tree_of e.value))

-- an effect under a guard sets the program counter
abbrev pub JumpsIfGuarded : Effect → Type 0
JumpsIfGuarded e = IfSome e.guard (λ g. e.to ≡ dest.Pc)

-- ---- destinations

abbrev pub is_same_kind : Dest → Dest → Bool
is_same_kind (dest.Reg p) (dest.Reg q) = true
is_same_kind (dest.Mem m a) (dest.Mem n b) = true
is_same_kind dest.Pc dest.Pc = true
is_same_kind dest.Out dest.Out = true
is_same_kind dest.Halt dest.Halt = true
is_same_kind dest.Trap dest.Trap = true
is_same_kind _ _ = false

-- ---- cells

-- a cell that is named by its number is the frame's or the link's
abbrev pub IsOwnPlace : TileFacts → Place → Type 0
IsOwnPlace f (Cell space index) =
    ((space ≡ f.frame.0) × (index ≡ f.frame.1)) ⊎ ((space ≡ f.link.0) × (index ≡ f.link.1))
IsOwnPlace f (Operand space number) = Unit {0}

abbrev pub NamesOwn : TileFacts → Tree → Type 0
NamesOwn f (Number value width) = Unit {0}
NamesOwn f (Unary op arg) = NamesOwn f arg
NamesOwn f (Binary op left right) = NamesOwn f left × NamesOwn f right
NamesOwn f (Register place width) = IsOwnPlace f place
NamesOwn f (Immediate operand width) = Unit {0}
NamesOwn f (Load width address) = NamesOwn f address
NamesOwn f (NextInput width) = Unit {0}
NamesOwn f (AddressAfter width) = Unit {0}

abbrev pub DestNamesOwn : TileFacts → Dest → Type 0
DestNamesOwn f (dest.Reg place) = IsOwnPlace f place
DestNamesOwn f (dest.Mem width address) = NamesOwn f (tree_of address)
DestNamesOwn f _ = Unit {0}

pub record EffectNamesOwn (f : TileFacts) (e : Effect) : Type 0 where
  pub guard : IfSome e.guard (λ g. NamesOwn f (tree_of g))
  pub value : NamesOwn f (tree_of e.value)
  pub to : DestNamesOwn f e.to

-- ---- memory

-- memory is read in the term
abbrev pub has_load : Tree → Bool
has_load (Number value width) = false
has_load (Unary op arg) = has_load arg
has_load (Binary op left right) = has_load left || has_load right
has_load (Register place width) = false
has_load (Immediate operand width) = false
has_load (Load width address) = true
has_load (NextInput width) = false
has_load (AddressAfter width) = false

abbrev pub is_store : Dest → Bool
is_store (dest.Mem width address) = true
is_store _ = false

abbrev pub guard_has_load : Option Term → Bool
guard_has_load None = false
guard_has_load (Some guard) = has_load (tree_of guard)

-- memory is read or written
abbrev pub touches_memory : Rtl → Bool
touches_memory rtl = list_any (λ e. guard_has_load e.guard || (is_store e.to || has_load (tree_of e.value))) rtl.effects

-- ---- tiles

-- What holds of each tile of a machine with such facts: its register transfer list is well typed, shows one thing at
-- most, has few operands and names them as what they are; under a guard everything has a value; no two of its effects go
-- to one kind of destination; its cells are the frame and the link; and a list that reads the input has nothing to do
-- with memory.
pub record IsSoundTile (context : Context) (f : TileFacts) (t : Tile) : Type 0 where
  pub typed : IsTypedRtl context t.rtl
  pub event : HasOneEvent t.rtl
  pub effects : length t.rtl.effects ≤ 2
  pub operands : length (kinds_of_tile f t) ≤ 3
  pub names : All (EffectNames f.word (kinds_of_tile f t)) t.rtl.effects
  pub guarded : All GuardedHasValues t.rtl.effects
  pub jumps : All JumpsIfGuarded t.rtl.effects
  pub kinds : AllPairs (λ a b. is_same_kind a.to b.to ≡ false) t.rtl.effects
  pub cells : All (EffectNamesOwn f) t.rtl.effects
  pub input : IsTrue (rtl_has_input t.rtl) → touches_memory t.rtl ≡ false
