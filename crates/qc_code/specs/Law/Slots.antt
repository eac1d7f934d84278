-- What slots stand for in a setting: terms of constants have values, and the operands of lines are there and in range.
use Rattle.std.proofs.Common.{◌≡◌, ℕ, zero, suc, ◌<◌, ◌^◌, List, [], ◌∷◌, map, slice_get, None, Some, All, refl, sym, ap, subst, arith}
use Rattle.std.specs.Prelude.{slice_index}
use Rattle.std.specs.Option.{option_map}
use Rattle.std.proofs.lemmas.Nat.{pow_pos}
use Rattle.std.proofs.lemmas.Option.{same_Some}
use Rattle.qc_words.specs.Law.Results.{result_of-lt}
use Rattle.qc_words.specs.Operators.{result_of}
use Rattle.qc_terms.specs.declared.state.Facts.{Facts}
use Rattle.qc_terms.specs.declared.state.State.{State}
use Rattle.qc_terms.specs.declared.term.Rtl.{Rtl}
use Rattle.qc_terms.specs.State.{Context, context_of}
use Rattle.qc_terms.specs.Tree.{AddressAfter, Binary, Immediate, Load, NextInput, Number, Register, Tree, Unary, tree_of, width_of}
use Rattle.qc_terms.specs.Typing.{IsTyped, IsTypedRtl, RtlFits}
use Rattle.qc_terms.specs.Value.{value_of}
use Rattle.qc_descr.specs.declared.description.Description.{Description}
use Rattle.qc_descr.specs.declared.description.Instruction.{Instruction}
use Rattle.qc_descr.specs.declared.description.OperandKind.{OperandKind}
use Rattle.qc_descr.specs.declared.description.OperandKind.TheVariants as kind
use Rattle.qc_descr.specs.Description.{context_of_description, kinds_of}
use Rattle.qc_descr.specs.Law.CodedBytes.{valid_at}
use Rattle.qc_descr.specs.Valid.{EffectNames, IsValid}
use Rattle.qc_tiles.specs.declared.tile.Tile.{Tile}
use Rattle.qc_tiles.specs.Sound.{IsSoundTile, facts_of, kinds_of_tile, operand_kinds}
use Rattle.qc_code.specs.declared.template.Slot.{Slot}
use Rattle.qc_code.specs.declared.template.Slot.TheVariants.{Param, Scratch, Cell, Constant, Target}
use Rattle.qc_code.specs.Formed.{AreSlotsFor, IsLineFor, IsOfConstants, IsSlotFor}
use Rattle.qc_code.specs.Setting.{AreOperandsOf, IsSetting, Line, Setting, constant_value, line_rtl, rtl_of, slot_value, target_number}
use Rattle.qc_code.specs.TileHolds.{IsWideState}
use Rattle.qc_code.specs.Law.Operands.{AreIn, IsIn, operand_at, parameter_kind, row_is, rtl_fits, rtl_wider, state_is_wider, target_kind, tile_operands_in}

-- ---- constants

-- the value of a term of constants in any state
pub constant_value_is : (kinds : List OperandKind) (operands : List ℕ) (after : ℕ) (s : State) (t : Tree) → IsOfConstants kinds t →
    value_of t operands after s ≡ Some (constant_value operands t)
constant_value_is kinds operands after s (Number value width) is = refl
constant_value_is kinds operands after s (Unary op arg) is =
    ap (option_map (λ a. result_of op (width_of arg) a 0)) (constant_value_is kinds operands after s arg is)
constant_value_is kinds operands after s (Binary op left right) is =
    rw (constant_value_is kinds operands after s left is.0, constant_value_is kinds operands after s right is.1) refl
constant_value_is kinds operands after s (Register place width) is = absurd is
constant_value_is kinds operands after s (Immediate operand width) is = refl
constant_value_is kinds operands after s (Load width address) is = absurd is
constant_value_is kinds operands after s (NextInput width) is = absurd is
constant_value_is kinds operands after s (AddressAfter width) is = absurd is

-- the value of a typed term of constants is a word of its width
pub constant_value-lt : (d : Description) (row : ℕ) (context : Context) (kinds : List OperandKind) (operands : List ℕ) (t : Tree) →
    AreOperandsOf d row kinds operands → IsOfConstants kinds t → IsTyped context t → constant_value operands t < 2 ^ width_of t
constant_value-lt d row context kinds operands (Number value width) are is typed = typed
constant_value-lt d row context kinds operands (Unary op arg) are is typed =
    result_of-lt op (width_of arg) (constant_value operands arg) 0 typed.1
    (constant_value-lt d row context kinds operands arg are is typed.2) (pow_pos (width_of arg))
constant_value-lt d row context kinds operands (Binary op left right) are is typed =
    result_of-lt op (width_of left) (constant_value operands left) (constant_value operands right) typed.1
    (constant_value-lt d row context kinds operands left are is.0 typed.3)
    (subst (λ n. constant_value operands right < 2 ^ n) (sym typed.2)
    (constant_value-lt d row context kinds operands right are is.1 typed.4))
constant_value-lt d row context kinds operands (Register place width) are is typed = absurd is
constant_value-lt d row context kinds operands (Immediate operand width) are is typed =
    (operand_at d row kinds operands operand (kind.Imm width) are is).1
constant_value-lt d row context kinds operands (Load width address) are is typed = absurd is
constant_value-lt d row context kinds operands (NextInput width) are is typed = absurd is
constant_value-lt d row context kinds operands (AddressAfter width) are is typed = absurd is

-- ---- slots

-- A template's setting in a state of a valid description.
pub record IsPlaced (d : Description) (t : Tile) (scratches lines row : ℕ) (e : Setting) (s : State) : Type 0 where
  pub valid : IsValid d
  pub setting : IsSetting d t scratches lines row e
  pub state : IsWideState d row s

-- a register of the allocatable space is inside its row
row_inside : (d : Description) (t : Tile) (scratches lines row : ℕ) (e : Setting) (s : State) (space number : ℕ) →
    IsPlaced d t scratches lines row e s → space ≡ d.allocatable → number < row → number < slice_index (context_of s).counts space
row_inside d t scratches lines row e s space number placed here inside =
    subst (λ n. number < slice_index (context_of s).counts n) (sym here)
    (omega (arith, inside, row_is d row s placed.valid.layout.allocatable.0 placed.state))

-- what a slot stands for is in range
pub slot_in : (d : Description) (t : Tile) (scratches lines row : ℕ) (e : Setting) (s : State) (k : OperandKind) (slot : Slot) →
    IsPlaced d t scratches lines row e s → IsSlotFor d t scratches k slot → IsIn (context_of s) k (slot_value t e slot)
slot_in d t scratches lines row e s (kind.Register space) (Param number) placed is =
    let known = parameter_kind d.frame.0 t.registers t.constants t.target number is.1 in
    let one = operand_at d row (kinds_of_tile (facts_of d) t) e.operands number (kind.Register d.frame.0) placed.setting.operands known in
    row_inside d t scratches lines row e s space (slice_index e.operands number) placed is.0 one.1.inside
slot_in d t scratches lines row e s (kind.Register space) (Scratch number) placed is =
    row_inside d t scratches lines row e s space (e.scratch number) placed is.0 (placed.setting.scratches_are number is.1).inside
slot_in d t scratches lines row e s (kind.Register space) (Cell index) placed is =
    let wider = state_is_wider d row s placed.valid.layout.allocatable.0 placed.state in
    omega (arith, is, wider.counts space)
slot_in d t scratches lines row e s (kind.Register space) (Constant term) placed is = absurd is
slot_in d t scratches lines row e s (kind.Register space) Target placed is = absurd is
slot_in d t scratches lines row e s (kind.Imm width) (Param number) placed is = absurd is
slot_in d t scratches lines row e s (kind.Imm width) (Scratch number) placed is = absurd is
slot_in d t scratches lines row e s (kind.Imm width) (Cell index) placed is = absurd is
slot_in d t scratches lines row e s (kind.Imm width) (Constant term) placed is =
    subst (λ n. constant_value e.operands (tree_of term) < 2 ^ n) is.0
    (constant_value-lt d row (context_of_description d) (kinds_of_tile (facts_of d) t) e.operands (tree_of term) placed.setting.operands is.2 is.1)
slot_in d t scratches lines row e s (kind.Imm width) Target placed is = absurd is
slot_in d t scratches lines row e s kind.Addr (Param number) placed is = absurd is
slot_in d t scratches lines row e s kind.Addr (Scratch number) placed is = absurd is
slot_in d t scratches lines row e s kind.Addr (Cell index) placed is = absurd is
slot_in d t scratches lines row e s kind.Addr (Constant term) placed is = absurd is
slot_in d t scratches lines row e s kind.Addr Target placed is =
    let kinds : List OperandKind = kinds_of_tile (facts_of d) t in
    let known : slice_get kinds (target_number t) ≡ Some kind.Addr =
    subst (λ target. slice_get (operand_kinds d.frame.0 t.registers t.constants target) (target_number t) ≡ Some kind.Addr) (sym is)
    (target_kind d.frame.0 t.registers t.constants) in
    let one = operand_at d row kinds e.operands (target_number t) kind.Addr placed.setting.operands known in
    subst (λ (f : Facts). slice_index e.operands (target_number t) < 2 ^ f.word) (sym placed.state.facts) one.1

-- what the slots of a line stand for is in range
pub slots_in : (d : Description) (t : Tile) (scratches lines row : ℕ) (e : Setting) (s : State) (kinds : List OperandKind) (slots : List Slot) →
    IsPlaced d t scratches lines row e s → AreSlotsFor d t scratches kinds slots → AreIn (context_of s) kinds (map (slot_value t e) slots)
slots_in d t scratches lines row e s [] slots placed are number k is = absurd (let no : None ≡ Some k = is in cc no)
slots_in d t scratches lines row e s (first ∷ kinds) [] placed are number k is = absurd are
slots_in d t scratches lines row e s (first ∷ kinds) (slot ∷ slots) placed are zero k is = (
  omega arith,
  subst (λ other. IsIn (context_of s) other (slot_value t e slot)) (same_Some first k is)
      (slot_in d t scratches lines row e s first slot placed are.0),
)
slots_in d t scratches lines row e s (first ∷ kinds) (slot ∷ slots) placed are (suc number) k is =
    let later = slots_in d t scratches lines row e s kinds slots placed are.1 number k is in
    (omega (arith, later.0), later.1)

-- ---- lists

-- a register transfer list is typed for a state, and its operands fit
pub record IsReady (s : State) (rtl : Rtl) (operands : List ℕ) : Type 0 where
  pub typed : IsTypedRtl (context_of s) rtl
  pub fits : RtlFits (context_of s) operands rtl

-- that of a tile
pub tile_is_ready : (d : Description) (t : Tile) (scratches lines row : ℕ) (e : Setting) (s : State) → IsPlaced d t scratches lines row e s →
    IsSoundTile (context_of_description d) (facts_of d) t → IsReady s t.rtl e.operands
tile_is_ready d t scratches lines row e s placed sound =
    let wider = state_is_wider d row s placed.valid.layout.allocatable.0 placed.state in
    record {
      typed = rtl_wider (context_of_description d) (context_of s) t.rtl wider sound.typed;
      fits = rtl_fits (context_of s) (kinds_of_tile (facts_of d) t) e.operands t.rtl
          (tile_operands_in d t row e.operands s placed.valid placed.state placed.setting.operands)
          (subst (λ word. All (EffectNames word (kinds_of_tile (facts_of d) t)) t.rtl.effects) (sym wider.word) sound.names);
    }

-- that of a line
pub line_is_ready : (d : Description) (t : Tile) (scratches lines row : ℕ) (e : Setting) (s : State) (line : Line) →
    IsPlaced d t scratches lines row e s → IsLineFor d t scratches line → IsReady s (line_rtl d line) (map (slot_value t e) line.1)
line_is_ready d t scratches lines row e s line placed formed =
    let wider = state_is_wider d row s placed.valid.layout.allocatable.0 placed.state in
    let i : Instruction = formed.instruction in
    let good = valid_at d line.0 i placed.valid formed.is in
    let ready : IsReady s i.rtl (map (slot_value t e) line.1) = record {
      typed = rtl_wider (context_of_description d) (context_of s) i.rtl wider good.typed;
      fits = rtl_fits (context_of s) (kinds_of i) (map (slot_value t e) line.1) i.rtl
          (slots_in d t scratches lines row e s (kinds_of i) line.1 placed formed.slots)
          (subst (λ word. All (EffectNames word (kinds_of i)) i.rtl.effects) (sym wider.word) good.names);
    } in
    subst (λ o. IsReady s (rtl_of o) (map (slot_value t e) line.1)) (sym formed.is) ready
