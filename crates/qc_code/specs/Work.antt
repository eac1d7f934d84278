-- What a line of a template or a tile does, where each place is told by what it is in the template.
use Rattle.std.specs.Prelude.{ℕ, List, [], ◌∷◌, slice_get, Bool, true, false, ◌||◌, ◌&&◌, nat_eq, Option, None, Some}
use Rattle.std.specs.List.{list_any}
use Rattle.qc_terms.specs.declared.term.Dest.{Dest}
use Rattle.qc_terms.specs.declared.term.Dest.TheVariants as dest
use Rattle.qc_terms.specs.declared.term.Effect.{Effect}
use Rattle.qc_terms.specs.declared.term.Place.{Place}
use Rattle.qc_terms.specs.declared.term.Place.TheVariants as place
use Rattle.qc_terms.specs.declared.term.Term.{Term}
use Rattle.qc_terms.specs.State.{is_zero_cell}
use Rattle.qc_terms.specs.Tree.{Tree, Number, Unary, Binary, Register, Immediate, Load, NextInput, AddressAfter, tree_of}
use Rattle.qc_descr.specs.declared.description.Description.{Description}
use Rattle.qc_tiles.specs.declared.tile.Tile.{Tile}
use Rattle.qc_tiles.specs.Sound.{is_same_kind}
use Rattle.qc_code.specs.declared.template.Slot.{Slot}
use Rattle.qc_code.specs.declared.template.Slot.TheVariants as slot
use Rattle.qc_code.specs.Setting.{Line, line_rtl, target_number}
use Rattle.qc_code.specs.TileHolds.{is_flag_space}

-- ---- terms

-- The test holds of some leaf of the term. A load is one besides those of its address.
abbrev pub some_leaf : (Tree → Bool) → Tree → Bool
some_leaf test (Number value width) = test (Number value width)
some_leaf test (Unary op arg) = some_leaf test arg
some_leaf test (Binary op left right) = some_leaf test left || some_leaf test right
some_leaf test (Register place width) = test (Register place width)
some_leaf test (Immediate operand width) = test (Immediate operand width)
some_leaf test (Load width address) = test (Load width address) || some_leaf test address
some_leaf test (NextInput width) = test (NextInput width)
some_leaf test (AddressAfter width) = test (AddressAfter width)

-- the test holds of the guard, if there is one
abbrev pub in_guard : (Tree → Bool) → Option Term → Bool
in_guard test None = false
in_guard test (Some guard) = test (tree_of guard)

-- the test holds of the address of a store
abbrev pub in_address : (Tree → Bool) → Dest → Bool
in_address test (dest.Mem width address) = test (tree_of address)
in_address test _ = false

-- the test holds of the guard, of the address or of the value of an effect
abbrev pub in_effect : (Tree → Bool) → Effect → Bool
in_effect test e = in_guard test e.guard || (in_address test e.to || test (tree_of e.value))

-- ---- places

-- What a place is: a register parameter of the tile, a scratch of the template, a cell by its number, or none of these.
pub data Named : Type 0 where
  Parameter : (number : ℕ) → Named
  Scratch : (number : ℕ) → Named
  Fixed : (space index : ℕ) → Named
  Nowhere : Named

abbrev pub named_by : ℕ → Option Slot → Named
named_by space (Some (slot.Param number)) = Parameter number
named_by space (Some (slot.Scratch number)) = Scratch number
named_by space (Some (slot.Cell index)) = Fixed space index
named_by space _ = Nowhere

abbrev pub place_in_line : List Slot → Place → Named
place_in_line slots (place.Cell space index) = Fixed space index
place_in_line slots (place.Operand space number) = named_by space (slice_get slots number)

abbrev pub place_in_tile : Place → Named
place_in_tile (place.Cell space index) = Fixed space index
place_in_tile (place.Operand space number) = Parameter number

abbrev pub is_target : Option Slot → Bool
is_target (Some slot.Target) = true
is_target _ = false

-- the effects, what each place in them is, and which operand is the target
pub record Work : Type 0 where
  pub effects : List Effect
  pub place : Place → Named
  pub target : ℕ → Bool

abbrev pub line_work : Description → Line → Work
line_work d line = record {
  effects = (line_rtl d line).effects;
  place = place_in_line line.1;
  target = λ operand. is_target (slice_get line.1 operand);
}

abbrev pub tile_work : Tile → Work
tile_work t = record {
  effects = t.rtl.effects;
  place = place_in_tile;
  target = λ operand. nat_eq operand (target_number t);
}

-- ---- what is read and written

abbrev pub at_register : (Place → Bool) → Tree → Bool
at_register test (Register place width) = test place
at_register test _ = false

-- some place of which the test holds is read
abbrev pub reads : (Named → Bool) → Work → Bool
reads test w = list_any (in_effect (some_leaf (at_register (λ place. test (w.place place))))) w.effects

abbrev pub is_after : Tree → Bool
is_after (AddressAfter width) = true
is_after _ = false

-- the address after is read
abbrev pub reads_after : Work → Bool
reads_after w = list_any (in_effect (some_leaf is_after)) w.effects

-- the effect goes to a place of which the test holds
abbrev pub goes_to : (Named → Bool) → (Place → Named) → Dest → Bool
goes_to test named (dest.Reg place) = test (named place)
goes_to test named _ = false

abbrev pub is_parameter : Named → Bool
is_parameter (Parameter number) = true
is_parameter _ = false

abbrev pub is_scratch : ℕ → Named → Bool
is_scratch k (Scratch number) = nat_eq number k
is_scratch k _ = false

-- a scratch, a flag cell or the zero cell
abbrev pub is_inner : Description → Named → Bool
is_inner d (Scratch number) = true
is_inner d (Fixed space index) = is_flag_space d space || is_zero_cell d.facts.zero space index
is_inner d _ = false

abbrev pub is_same_name : Named → Named → Bool
is_same_name (Parameter a) (Parameter b) = nat_eq a b
is_same_name (Scratch a) (Scratch b) = nat_eq a b
is_same_name (Fixed s a) (Fixed t b) = nat_eq s t && nat_eq a b
is_same_name _ _ = false

-- both are one register, or both are memory, the program counter, or what is shown
abbrev pub is_same_dest : (Place → Named) → Dest → (Place → Named) → Dest → Bool
is_same_dest named (dest.Reg p) others (dest.Reg q) = is_same_name (named p) (others q)
is_same_dest named a others b = is_same_kind a b

-- ---- lines

abbrev pub is_nil : {X : Type 0} → List X → Bool
is_nil [] = true
is_nil (x ∷ xs) = false

-- the test holds of each line; it is told whether the line is the last one
abbrev pub all_lines : (Bool → Line → Bool) → List Line → Bool
all_lines test [] = true
all_lines test (line ∷ lines) = test (is_nil lines) line && all_lines test lines
