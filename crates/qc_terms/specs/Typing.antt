-- Terms and register transfer lists that are well typed for a machine's word and spaces.
use Rattle.std.specs.Prelude.{ℕ, ◌≡◌, ◌<◌, ◌^◌, List, length, slice_index, Bool, true, false, All, IfSome, count_by, ◌≤◌, ◌⊎◌}
use Rattle.qc_words.specs.Operators.{Accepts, is_unary}
use Rattle.qc_terms.specs.declared.term.Place.{Place}
use Rattle.qc_terms.specs.declared.term.Place.TheVariants.{Cell, Operand}
use Rattle.qc_terms.specs.declared.term.Dest.{Dest}
use Rattle.qc_terms.specs.declared.term.Dest.TheVariants as dest
use Rattle.qc_terms.specs.declared.term.Effect.{Effect}
use Rattle.qc_terms.specs.declared.term.Rtl.{Rtl}
use Rattle.qc_terms.specs.Tree.{Tree, Number, Unary, Binary, Register, Immediate, Load, NextInput, AddressAfter, tree_of, width_of}
use Rattle.qc_terms.specs.State.{Context}

-- a register of one of the spaces, with that space's width; a cell that is named by its number is in range
abbrev pub IsRegister : Context → Place → ℕ → Type 0
IsRegister context (Cell space index) width =
    (space < length context.widths) × (width ≡ slice_index context.widths space) × (index < slice_index context.counts space)
IsRegister context (Operand space number) width =
    (space < length context.widths) × (width ≡ slice_index context.widths space)

-- the widths of memory accesses
abbrev pub IsAccessWidth : ℕ → Type 0
IsAccessWidth width = (width ≡ 8) ⊎ ((width ≡ 16) ⊎ ((width ≡ 32) ⊎ (width ≡ 64)))

-- a memory access of one of these widths, at most the word's, by an address that has the word's width
pub record IsAccess (context : Context) (size pointer : ℕ) : Type 0 where
  pub width : IsAccessWidth size
  pub word : size ≤ context.word
  pub address : pointer ≡ context.word

-- Each number fits its width, an operator's operands have one width that it accepts, and each register is one of
-- the spaces'. Words of the input and the address after the instruction have the word's width.
abbrev pub IsTyped : Context → Tree → Type 0
IsTyped context (Number value width) = value < 2 ^ width
IsTyped context (Unary op arg) = (is_unary op ≡ true) × Accepts op (width_of arg) × IsTyped context arg
IsTyped context (Binary op left right) =
    (is_unary op ≡ false) × Accepts op (width_of left) × (width_of left ≡ width_of right) × IsTyped context left × IsTyped context right
IsTyped context (Register place width) = IsRegister context place width
IsTyped context (Immediate operand width) = Unit {0}
IsTyped context (Load width address) = IsAccess context width (width_of address) × IsTyped context address
IsTyped context (NextInput width) = width ≡ context.word
IsTyped context (AddressAfter width) = width ≡ context.word

-- the operand that a place names, if it names one, is there
abbrev pub HasOperand : List ℕ → Place → Type 0
HasOperand operands (Cell space index) = Unit {0}
HasOperand operands (Operand space number) = number < length operands

-- the operands that a place names are there, and name cells that are there
abbrev pub PlaceFits : Context → List ℕ → Place → Type 0
PlaceFits context operands (Cell space index) = Unit {0}
PlaceFits context operands (Operand space number) =
    (number < length operands) × (slice_index operands number < slice_index context.counts space)

-- the operands that a term names are there, and in range
abbrev pub OperandsFit : Context → List ℕ → Tree → Type 0
OperandsFit context operands (Number value width) = Unit {0}
OperandsFit context operands (Unary op arg) = OperandsFit context operands arg
OperandsFit context operands (Binary op left right) =
    OperandsFit context operands left × OperandsFit context operands right
OperandsFit context operands (Register place width) = PlaceFits context operands place
OperandsFit context operands (Immediate operand width) =
    (operand < length operands) × (slice_index operands operand < 2 ^ width)
OperandsFit context operands (Load width address) = OperandsFit context operands address
OperandsFit context operands (NextInput width) = Unit {0}
OperandsFit context operands (AddressAfter width) = Unit {0}

-- a destination takes words of this width; the code of a trap has 8 bits
abbrev pub TakesWidth : Context → Dest → ℕ → Type 0
TakesWidth context (dest.Reg place) width = IsRegister context place width
TakesWidth context (dest.Mem size address) width =
    (width ≡ size) × IsAccess context size (width_of (tree_of address)) × IsTyped context (tree_of address)
TakesWidth context dest.Pc width = width ≡ context.word
TakesWidth context dest.Out width = width ≡ context.word
TakesWidth context dest.Halt width = width ≡ context.word
TakesWidth context dest.Trap width = width ≡ 8

-- a guard is a term of width 1, and the value has the destination's width
pub record IsTypedEffect (context : Context) (e : Effect) : Type 0 where
  pub guard : IfSome e.guard (λ g. IsTyped context (tree_of g) × (width_of (tree_of g) ≡ 1))
  pub value : IsTyped context (tree_of e.value)
  pub to : TakesWidth context e.to (width_of (tree_of e.value))

-- a destination that shows something: an output, an end or a trap
abbrev pub is_event : Dest → Bool
is_event (dest.Reg place) = false
is_event (dest.Mem size address) = false
is_event dest.Pc = false
is_event dest.Out = true
is_event dest.Halt = true
is_event dest.Trap = true

abbrev pub IsTypedRtl : Context → Rtl → Type 0
IsTypedRtl context rtl = All (IsTypedEffect context) rtl.effects

-- at most one effect is an output, an end or a trap
abbrev pub HasOneEvent : Rtl → Type 0
HasOneEvent rtl = count_by (λ e. is_event e.to) rtl.effects ≤ 1

abbrev pub DestFits : Context → List ℕ → Dest → Type 0
DestFits context operands (dest.Reg place) = PlaceFits context operands place
DestFits context operands (dest.Mem size address) = OperandsFit context operands (tree_of address)
DestFits context operands dest.Pc = Unit {0}
DestFits context operands dest.Out = Unit {0}
DestFits context operands dest.Halt = Unit {0}
DestFits context operands dest.Trap = Unit {0}

pub record EffectFits (context : Context) (operands : List ℕ) (e : Effect) : Type 0 where
  pub guard : IfSome e.guard (λ g. OperandsFit context operands (tree_of g))
  pub value : OperandsFit context operands (tree_of e.value)
  pub to : DestFits context operands e.to

-- the operands that a register transfer list names are there, and in range
abbrev pub RtlFits : Context → List ℕ → Rtl → Type 0
RtlFits context operands rtl = All (EffectFits context operands) rtl.effects
