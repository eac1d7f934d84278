-- The operands of tiles and lines in a setting: they are there and in range, in a state whose row of the allocatable space
-- may have further cells.
use Rattle.std.proofs.Common.{◌≡◌, ◌≢◌, Bool, true, false, ◌∙◌, nat_eq, ℕ, zero, suc, ◌+◌, ◌<◌, ◌≤◌, ◌^◌, List, [], ◌∷◌, length, slice_get, get_or, Option, None, Some, IfSome, All, inl, inr, refl, sym, ap, subst, arith}
use Rattle.std.specs.Prelude.{slice_index}
use Rattle.std.proofs.lemmas.Bool.{cases_Bool}
use Rattle.std.proofs.lemmas.List.{get_or-set_other, get_or-set_same, length-map}
use Rattle.std.proofs.lemmas.Option.{same_Some}
use Rattle.qc_terms.specs.declared.state.Facts.{Facts}
use Rattle.qc_terms.specs.declared.state.State.{State}
use Rattle.qc_terms.specs.declared.term.Dest.{Dest}
use Rattle.qc_terms.specs.declared.term.Dest.TheVariants as dest
use Rattle.qc_terms.specs.declared.term.Effect.{Effect}
use Rattle.qc_terms.specs.declared.term.Place.{Place}
use Rattle.qc_terms.specs.declared.term.Place.TheVariants as place
use Rattle.qc_terms.specs.declared.term.Rtl.{Rtl}
use Rattle.qc_terms.specs.declared.term.Term.{Term}
use Rattle.qc_terms.specs.State.{Context, context_of}
use Rattle.qc_terms.specs.Tree.{AddressAfter, Binary, Immediate, Load, NextInput, Number, Register, Tree, Unary, tree_of, width_of}
use Rattle.qc_terms.specs.Typing.{DestFits, IsAccess, IsRegister, IsTyped, IsTypedRtl, OperandsFit, PlaceFits, RtlFits, TakesWidth}
use Rattle.qc_descr.specs.declared.description.Description.{Description}
use Rattle.qc_descr.specs.declared.description.OperandKind.{OperandKind}
use Rattle.qc_descr.specs.declared.description.OperandKind.TheVariants as kind
use Rattle.qc_descr.specs.Description.{context_of_description, counts_of}
use Rattle.qc_descr.specs.Valid.{EffectNames, IsValid, NamesDest, NamesOperands, NamesPlace}
use Rattle.qc_tiles.specs.declared.tile.Tile.{Tile}
use Rattle.qc_tiles.specs.Sound.{facts_of, kinds_of_tile, operand_kinds}
use Rattle.qc_code.specs.Setting.{AreOperandsOf, IsOperandOf}
use Rattle.qc_code.specs.TileHolds.{IsWideState}

-- ---- operands by their numbers

-- the operand of a kind
pub operand_at : (d : Description) (row : ℕ) (kinds : List OperandKind) (operands : List ℕ) (number : ℕ) (k : OperandKind) →
    AreOperandsOf d row kinds operands → slice_get kinds number ≡ Some k →
    (number < length operands) × IsOperandOf d row k (slice_index operands number)
operand_at d row [] operands number k are is = absurd (let no : None ≡ Some k = is in cc no)
operand_at d row (first ∷ kinds) [] number k are is = absurd are
operand_at d row (first ∷ kinds) (operand ∷ operands) zero k are is =
    (omega arith, subst (λ other. IsOperandOf d row other operand) (same_Some first k is) are.0)
operand_at d row (first ∷ kinds) (operand ∷ operands) (suc number) k are is =
    let later = operand_at d row kinds operands number k are.1 is in
    (omega (arith, later.0), later.1)

-- an operand is in range for its kind
abbrev pub IsIn : Context → OperandKind → ℕ → Type 0
IsIn context (kind.Register space) operand = operand < slice_index context.counts space
IsIn context (kind.Imm width) operand = operand < 2 ^ width
IsIn context kind.Addr operand = operand < 2 ^ context.word

-- each operand of a kind is there and in range
abbrev pub AreIn : Context → List OperandKind → List ℕ → Type 0
AreIn context kinds operands =
    (number : ℕ) (k : OperandKind) → slice_get kinds number ≡ Some k →
    (number < length operands) × IsIn context k (slice_index operands number)

-- ---- what is named fits

place_fits : (context : Context) (kinds : List OperandKind) (xs : List ℕ) (p : Place) → AreIn context kinds xs → NamesPlace kinds p → PlaceFits context xs p
place_fits context kinds xs (place.Cell space index) are names = tt
place_fits context kinds xs (place.Operand space number) are names = are number (kind.Register space) names

-- a term that names operands as what they are fits them
pub term_fits : (context : Context) (kinds : List OperandKind) (xs : List ℕ) (t : Tree) → AreIn context kinds xs → NamesOperands context.word kinds t →
    OperandsFit context xs t
term_fits context kinds xs (Number value width) are names = tt
term_fits context kinds xs (Unary op arg) are names = term_fits context kinds xs arg are names
term_fits context kinds xs (Binary op left right) are names =
    (term_fits context kinds xs left are names.0, term_fits context kinds xs right are names.1)
term_fits context kinds xs (Register p width) are names = place_fits context kinds xs p are names
term_fits context kinds xs (Immediate operand width) are (inl names) = are operand (kind.Imm width) names
term_fits context kinds xs (Immediate operand width) are (inr (names, is)) =
    let fits = are operand kind.Addr names in
    (fits.0, subst (λ n. slice_index xs operand < 2 ^ n) (sym is) fits.1)
term_fits context kinds xs (Load width address) are names = term_fits context kinds xs address are names
term_fits context kinds xs (NextInput width) are names = tt
term_fits context kinds xs (AddressAfter width) are names = tt

guard_fits : (context : Context) (kinds : List OperandKind) (xs : List ℕ) (g : Option Term) → AreIn context kinds xs →
    IfSome g (λ t. NamesOperands context.word kinds (tree_of t)) → IfSome g (λ t. OperandsFit context xs (tree_of t))
guard_fits context kinds xs None are names = tt
guard_fits context kinds xs (Some t) are names = term_fits context kinds xs (tree_of t) are names

dest_fits : (context : Context) (kinds : List OperandKind) (xs : List ℕ) (to : Dest) → AreIn context kinds xs → NamesDest context.word kinds to →
    DestFits context xs to
dest_fits context kinds xs (dest.Reg p) are names = place_fits context kinds xs p are names
dest_fits context kinds xs (dest.Mem width address) are names = term_fits context kinds xs (tree_of address) are names
dest_fits context kinds xs dest.Pc are names = tt
dest_fits context kinds xs dest.Out are names = tt
dest_fits context kinds xs dest.Halt are names = tt
dest_fits context kinds xs dest.Trap are names = tt

pub rtl_fits : (context : Context) (kinds : List OperandKind) (xs : List ℕ) (rtl : Rtl) → AreIn context kinds xs →
    All (EffectNames context.word kinds) rtl.effects → RtlFits context xs rtl
rtl_fits context kinds xs rtl are names = λ k e h. record {
  guard = guard_fits context kinds xs (get_or rtl.effects k e).guard are (names k e h).guard;
  value = term_fits context kinds xs (tree_of (get_or rtl.effects k e).value) are (names k e h).value;
  to = dest_fits context kinds xs (get_or rtl.effects k e).to are (names k e h).to;
}

-- ---- more cells

-- a context with the same word and widths, and at least as many cells
pub record IsWider (c w : Context) : Type 0 where
  pub word : w.word ≡ c.word
  pub widths : w.widths ≡ c.widths
  pub counts : (space : ℕ) → slice_index c.counts space ≤ slice_index w.counts space

place_wider : (c w : Context) (p : Place) (width : ℕ) → IsWider c w → IsRegister c p width → IsRegister w p width
place_wider c w (place.Cell space index) width wider is = (
  subst (λ ws. space < length ws) (sym wider.widths) is.0,
  subst (λ ws. width ≡ slice_index ws space) (sym wider.widths) is.1,
  omega (arith, is.2, wider.counts space),
)
place_wider c w (place.Operand space number) width wider is = (
  subst (λ ws. space < length ws) (sym wider.widths) is.0,
  subst (λ ws. width ≡ slice_index ws space) (sym wider.widths) is.1,
)

access_wider : (c w : Context) (size pointer : ℕ) → IsWider c w → IsAccess c size pointer → IsAccess w size pointer
access_wider c w size pointer wider is = record {
  width = is.width;
  word = subst (λ n. size ≤ n) (sym wider.word) is.word;
  address = is.address ∙ sym wider.word;
}

-- a typed term stays typed where there are more cells
pub typed_wider : (c w : Context) (t : Tree) → IsWider c w → IsTyped c t → IsTyped w t
typed_wider c w (Number value width) wider is = is
typed_wider c w (Unary op arg) wider is = (is.0, is.1, typed_wider c w arg wider is.2)
typed_wider c w (Binary op left right) wider is =
    (is.0, is.1, is.2, typed_wider c w left wider is.3, typed_wider c w right wider is.4)
typed_wider c w (Register p width) wider is = place_wider c w p width wider is
typed_wider c w (Immediate operand width) wider is = tt
typed_wider c w (Load width address) wider is =
    (access_wider c w width (width_of address) wider is.0, typed_wider c w address wider is.1)
typed_wider c w (NextInput width) wider is = is ∙ sym wider.word
typed_wider c w (AddressAfter width) wider is = is ∙ sym wider.word

guard_wider : (c w : Context) (g : Option Term) → IsWider c w → IfSome g (λ t. IsTyped c (tree_of t) × (width_of (tree_of t) ≡ 1)) →
    IfSome g (λ t. IsTyped w (tree_of t) × (width_of (tree_of t) ≡ 1))
guard_wider c w None wider is = tt
guard_wider c w (Some t) wider is = (typed_wider c w (tree_of t) wider is.0, is.1)

dest_wider : (c w : Context) (to : Dest) (width : ℕ) → IsWider c w → TakesWidth c to width → TakesWidth w to width
dest_wider c w (dest.Reg p) width wider is = place_wider c w p width wider is
dest_wider c w (dest.Mem size address) width wider is =
    (is.0, access_wider c w size (width_of (tree_of address)) wider is.1, typed_wider c w (tree_of address) wider is.2)
dest_wider c w dest.Pc width wider is = is ∙ sym wider.word
dest_wider c w dest.Out width wider is = is ∙ sym wider.word
dest_wider c w dest.Halt width wider is = is ∙ sym wider.word
dest_wider c w dest.Trap width wider is = is

pub rtl_wider : (c w : Context) (rtl : Rtl) → IsWider c w → IsTypedRtl c rtl → IsTypedRtl w rtl
rtl_wider c w rtl wider is = λ k e h.
    let one = is k e h in
    let this : Effect = get_or rtl.effects k e in
    record {
      guard = guard_wider c w this.guard wider one.guard;
      value = typed_wider c w (tree_of this.value) wider one.value;
      to = dest_wider c w this.to (width_of (tree_of this.value)) wider one.to;
    }

-- ---- states

-- the row of the allocatable space
pub row_is : (d : Description) (row : ℕ) (s : State) → d.allocatable < length d.spaces → IsWideState d row s →
    slice_index (context_of s).counts d.allocatable ≡ row
row_is d row s there wide =
    let inside : d.allocatable < length (counts_of d) = omega (arith, there, length-map d.spaces (λ s. s.cells)) in
    ap (λ counts. slice_index counts d.allocatable) wide.counts ∙ get_or-set_same (counts_of d) d.allocatable row 0 inside

pub state_is_wider : (d : Description) (row : ℕ) (s : State) → d.allocatable < length d.spaces → IsWideState d row s →
    IsWider (context_of_description d) (context_of s)
state_is_wider d row s there wide = record {
  word = ap (λ (f : Facts). f.word) wide.facts;
  widths = wide.widths;
  counts = λ space. elim (cases_Bool (nat_eq space d.allocatable)) [
    | inl same ↦
        let e : space ≡ d.allocatable = grind (arith, same) in
        subst (λ n. slice_index (counts_of d) n ≤ slice_index (context_of s).counts n) (sym e)
        (omega (arith, wide.more, row_is d row s there wide))
    | inr other ↦
        let apart : space ≢ d.allocatable = grind (arith, other) in
        let same : slice_index (context_of s).counts space ≡ slice_index (counts_of d) space =
        ap (λ counts. slice_index counts space) wide.counts ∙ get_or-set_other (counts_of d) d.allocatable space row 0 apart in
        omega (arith, same)
  ];
}

-- ---- tiles

-- a register among the operands of a tile is one of the registers' space
pub operand_space : (space registers : ℕ) (constants : List ℕ) (target : Bool) (number other : ℕ) →
    slice_get (operand_kinds space registers constants target) number ≡ Some (kind.Register other) → other ≡ space
operand_space space (suc registers) constants target zero other is = sym (same_space (same_Some (kind.Register space) (kind.Register other) is)) where
  same_space : kind.Register space ≡ kind.Register other → space ≡ other
  same_space e = cc e
operand_space space (suc registers) constants target (suc number) other is = operand_space space registers constants target number other is
operand_space space zero (width ∷ constants) target zero other is = absurd (let no : Some (kind.Imm width) ≡ Some (kind.Register other) = is in cc no)
operand_space space zero (width ∷ constants) target (suc number) other is = operand_space space zero constants target number other is
operand_space space zero [] true zero other is = absurd (let no : Some kind.Addr ≡ Some (kind.Register other) = is in cc no)
operand_space space zero [] true (suc number) other is = absurd (let no : None ≡ Some (kind.Register other) = is in cc no)
operand_space space zero [] false number other is = absurd (let no : None ≡ Some (kind.Register other) = is in cc no)

-- a register parameter, and the target, by their numbers
pub parameter_kind : (space registers : ℕ) (constants : List ℕ) (target : Bool) (number : ℕ) → number < registers →
    slice_get (operand_kinds space registers constants target) number ≡ Some (kind.Register space)
parameter_kind space zero constants target number below = absurd (omega (arith, below))
parameter_kind space (suc registers) constants target zero below = refl
parameter_kind space (suc registers) constants target (suc number) below =
    parameter_kind space registers constants target number (omega (arith, below))

pub target_kind : (space registers : ℕ) (constants : List ℕ) →
    slice_get (operand_kinds space registers constants true) (registers + length constants) ≡ Some kind.Addr
target_kind space zero [] = refl
target_kind space zero (width ∷ constants) =
    ap (slice_get (operand_kinds space 0 (width ∷ constants) true)) (let e : 0 + length (width ∷ constants) ≡ suc (0 + length constants) = omega arith in e)
    ∙ target_kind space zero constants
target_kind space (suc registers) constants =
    ap (slice_get (operand_kinds space (suc registers) constants true)) (let e : suc registers + length constants ≡ suc (registers + length constants) = omega arith in e)
    ∙ target_kind space registers constants

-- the operands of a tile are there and in range
pub tile_operands_in : (d : Description) (t : Tile) (row : ℕ) (operands : List ℕ) (s : State) → IsValid d → IsWideState d row s →
    AreOperandsOf d row (kinds_of_tile (facts_of d) t) operands → AreIn (context_of s) (kinds_of_tile (facts_of d) t) operands
tile_operands_in d t row operands s valid wide are number k is =
    let one = operand_at d row (kinds_of_tile (facts_of d) t) operands number k are is in
    (one.0, of_kind k is one.1) where
      there : d.allocatable < length d.spaces
      there = valid.layout.allocatable.0

      of_kind : (k : OperandKind) → slice_get (kinds_of_tile (facts_of d) t) number ≡ Some k → IsOperandOf d row k (slice_index operands number) →
          IsIn (context_of s) k (slice_index operands number)
      of_kind (kind.Register space) is one =
          let here : space ≡ d.allocatable = operand_space d.frame.0 t.registers t.constants t.target number space is ∙ valid.layout.same_space.0 in
          subst (λ n. slice_index operands number < slice_index (context_of s).counts n) (sym here)
          (omega (arith, one.inside, row_is d row s there wide))
      of_kind (kind.Imm width) is one = one
      of_kind kind.Addr is one =
          subst (λ (f : Facts). slice_index operands number < 2 ^ f.word) (sym wide.facts) one
