-- What trees made of a pattern are: their widths, types and values, and what their parts say of them.
use Rattle.std.proofs.Common.{◌≡◌, ◌∙◌, ℕ, ◌<◌, ◌^◌, List, Bool, true, false, ◌||◌, refl, ap, sym, subst, Some, inl, inr}
use Rattle.std.proofs.lemmas.Bool.{or_cases, or_left, or_right}
use Rattle.std.specs.Option.{option_map}
use Rattle.std.specs.Prelude.{option_and_then}
use Rattle.qc_words.specs.declared.operator.Op.{Op}
use Rattle.qc_words.specs.Operators.{Accepts, is_unary, result_of, result_width_of}
use Rattle.qc_terms.specs.declared.state.State.{State}
use Rattle.qc_terms.specs.Tree.{Tree, Number, Unary, Binary, width_of}
use Rattle.qc_terms.specs.Value.{value_of}
use Rattle.qc_equations.specs.Pattern.{Parts, Pattern, A, B, C, Fixed, Prefix, Infix, fill, literal_value, literal_width, op_of}

-- one of the three parts
pub data Which : Type 0 where
  First Second Third : Which

abbrev pub part_at : Which → Parts → Tree
part_at First parts = parts.a
part_at Second parts = parts.b
part_at Third parts = parts.c

abbrev pub is_first : Which → Bool
is_first First = true
is_first _ = false

abbrev pub is_second : Which → Bool
is_second Second = true
is_second _ = false

abbrev pub is_third : Which → Bool
is_third Third = true
is_third _ = false

-- the part stands in the pattern
abbrev pub uses : Which → Pattern → Bool
uses x A = is_first x
uses x B = is_second x
uses x C = is_third x
uses x (Fixed literal) = false
uses x (Prefix operator arg) = uses x arg
uses x (Infix op left right) = uses x left || uses x right

-- a fact that goes from a term to what its operators are applied to, and one that comes from there
pub record GoesDown (Holds : Tree → Type 0) : Type 0 where
  pub arg : (op : Op) (arg : Tree) → Holds (Unary op arg) → Holds arg
  pub left : (op : Op) (left right : Tree) → Holds (Binary op left right) → Holds left
  pub right : (op : Op) (left right : Tree) → Holds (Binary op left right) → Holds right

pub record GoesUp (Holds : Tree → Type 0) : Type 0 where
  pub number : (value width : ℕ) → Holds (Number value width)
  pub unary : (op : Op) (arg : Tree) → Holds arg → Holds (Unary op arg)
  pub binary : (op : Op) (left right : Tree) → Holds left → Holds right → Holds (Binary op left right)

-- what goes up holds of a pattern's tree if it holds of the parts that the pattern uses
pub from_parts : (Holds : Tree → Type 0) → GoesUp Holds → (p : Pattern) (parts : Parts) →
    ((x : Which) → uses x p ≡ true → Holds (part_at x parts)) → Holds (fill p parts)
from_parts Holds up A parts each = each First refl
from_parts Holds up B parts each = each Second refl
from_parts Holds up C parts each = each Third refl
from_parts Holds up (Fixed literal) parts each = up.number _ _
from_parts Holds up (Prefix operator arg) parts each = up.unary _ _ (from_parts Holds up arg parts each)
from_parts Holds up (Infix op left right) parts each =
    up.binary op _ _
    (from_parts Holds up left parts (λ x used. each x (or_left (uses x left) (uses x right) used)))
    (from_parts Holds up right parts (λ x used. each x (or_right (uses x left) (uses x right) used)))

-- what goes down holds of the parts that a pattern uses if it holds of the pattern's tree
pub to_parts : (Holds : Tree → Type 0) → GoesDown Holds → (p : Pattern) (parts : Parts) → Holds (fill p parts) →
    (x : Which) → uses x p ≡ true → Holds (part_at x parts)
to_parts Holds down A parts holds First used = holds
to_parts Holds down A parts holds _ used = cc
to_parts Holds down B parts holds Second used = holds
to_parts Holds down B parts holds _ used = cc
to_parts Holds down C parts holds Third used = holds
to_parts Holds down C parts holds _ used = cc
to_parts Holds down (Fixed literal) parts holds x used = cc
to_parts Holds down (Prefix operator arg) parts holds x used =
    to_parts Holds down arg parts (down.arg _ _ holds) x used
to_parts Holds down (Infix op left right) parts holds x used =
    elim (or_cases (uses x left) (uses x right) used) [
      | inl on_left ↦ to_parts Holds down left parts (down.left op _ _ holds) x on_left
      | inr on_right ↦ to_parts Holds down right parts (down.right op _ _ holds) x on_right
    ]

-- the width of a pattern whose parts all have the word's width
abbrev pub pattern_width : Pattern → (word size : ℕ) → ℕ
pattern_width A word size = word
pattern_width B word size = word
pattern_width C word size = word
pattern_width (Fixed literal) word size = literal_width literal word size
pattern_width (Prefix operator arg) word size = result_width_of (op_of operator word size) (pattern_width arg word size)
pattern_width (Infix op left right) word size = result_width_of op (pattern_width left word size)

-- all parts have the first one's width
pub record HaveOneWidth (parts : Parts) : Type 0 where
  pub b : width_of parts.b ≡ width_of parts.a
  pub c : width_of parts.c ≡ width_of parts.a

pub fill-width : (p : Pattern) (parts : Parts) → HaveOneWidth parts →
    width_of (fill p parts) ≡ pattern_width p (width_of parts.a) parts.size
fill-width A parts one = refl
fill-width B parts one = one.b
fill-width C parts one = one.c
fill-width (Fixed literal) parts one = refl
fill-width (Prefix operator arg) parts one =
    ap (result_width_of (op_of operator (width_of parts.a) parts.size)) (fill-width arg parts one)
fill-width (Infix op left right) parts one = ap (result_width_of op) (fill-width left parts one)

-- a pattern is typed over typed parts of the word's width
abbrev pub IsTypedPattern : Pattern → (word size : ℕ) → Type 0
IsTypedPattern A word size = Unit {0}
IsTypedPattern B word size = Unit {0}
IsTypedPattern C word size = Unit {0}
IsTypedPattern (Fixed literal) word size = literal_value literal word size < 2 ^ literal_width literal word size
IsTypedPattern (Prefix operator arg) word size =
    (is_unary (op_of operator word size) ≡ true)
    × Accepts (op_of operator word size) (pattern_width arg word size)
    × IsTypedPattern arg word size
IsTypedPattern (Infix op left right) word size =
    (is_unary op ≡ false)
    × Accepts op (pattern_width left word size)
    × (pattern_width left word size ≡ pattern_width right word size)
    × IsTypedPattern left word size
    × IsTypedPattern right word size

accepts_along : (op : Op) (v w : ℕ) → v ≡ w → Accepts op v → Accepts op w
accepts_along op v w e accepts = subst (λ (n : ℕ). Accepts op n) e accepts

-- A fact that says of numbers that they fit their widths, and of operators that their operands have one width that they
-- accept, as being typed does.
pub record GoesByWidths (Holds : Tree → Type 0) : Type 0 where
  pub number : (value width : ℕ) → value < 2 ^ width → Holds (Number value width)
  pub number_fits : (value width : ℕ) → Holds (Number value width) → value < 2 ^ width
  pub unary : (op : Op) (arg : Tree) → (is_unary op ≡ true) × Accepts op (width_of arg) × Holds arg → Holds (Unary op arg)
  pub unary_parts : (op : Op) (arg : Tree) → Holds (Unary op arg) → (is_unary op ≡ true) × Accepts op (width_of arg) × Holds arg
  pub binary : (op : Op) (left right : Tree) →
      (is_unary op ≡ false) × Accepts op (width_of left) × (width_of left ≡ width_of right) × Holds left × Holds right →
      Holds (Binary op left right)
  pub binary_parts : (op : Op) (left right : Tree) → Holds (Binary op left right) →
      (is_unary op ≡ false) × Accepts op (width_of left) × (width_of left ≡ width_of right) × Holds left × Holds right

pub widths_down : (Holds : Tree → Type 0) → GoesByWidths Holds → GoesDown Holds
widths_down Holds by = record {
  arg = λ op arg holds. (by.unary_parts op arg holds).2;
  left = λ op left right holds. (by.binary_parts op left right holds).3;
  right = λ op left right holds. (by.binary_parts op left right holds).4;
}

pub fill-typed : (Holds : Tree → Type 0) → GoesByWidths Holds → (p : Pattern) (parts : Parts) → HaveOneWidth parts →
    IsTypedPattern p (width_of parts.a) parts.size → ((x : Which) → uses x p ≡ true → Holds (part_at x parts)) →
    Holds (fill p parts)
fill-typed Holds by A parts one typed each = each First refl
fill-typed Holds by B parts one typed each = each Second refl
fill-typed Holds by C parts one typed each = each Third refl
fill-typed Holds by (Fixed literal) parts one typed each = by.number _ _ typed
fill-typed Holds by (Prefix operator arg) parts one typed each =
    by.unary _ _ (
      typed.0,
      accepts_along _ _ _ (sym (fill-width arg parts one)) typed.1,
      fill-typed Holds by arg parts one typed.2 each,
    )
fill-typed Holds by (Infix op left right) parts one typed each =
    by.binary op _ _ (
      typed.0,
      accepts_along _ _ _ (sym (fill-width left parts one)) typed.1,
      fill-width left parts one ∙ typed.2 ∙ sym (fill-width right parts one),
      fill-typed Holds by left parts one typed.3 (λ x used. each x (or_left (uses x left) (uses x right) used)),
      fill-typed Holds by right parts one typed.4 (λ x used. each x (or_right (uses x left) (uses x right) used)),
    )

pub pattern-typed : (Holds : Tree → Type 0) → GoesByWidths Holds → (p : Pattern) (parts : Parts) → HaveOneWidth parts →
    Holds (fill p parts) → IsTypedPattern p (width_of parts.a) parts.size
pattern-typed Holds by A parts one holds = tt
pattern-typed Holds by B parts one holds = tt
pattern-typed Holds by C parts one holds = tt
pattern-typed Holds by (Fixed literal) parts one holds = by.number_fits _ _ holds
pattern-typed Holds by (Prefix operator arg) parts one holds =
    let it = by.unary_parts _ _ holds in (
      it.0,
      accepts_along _ _ _ (fill-width arg parts one) it.1,
      pattern-typed Holds by arg parts one it.2,
    )
pattern-typed Holds by (Infix op left right) parts one holds =
    let it = by.binary_parts op _ _ holds in (
      it.0,
      accepts_along _ _ _ (fill-width left parts one) it.1,
      sym (fill-width left parts one) ∙ it.2 ∙ fill-width right parts one,
      pattern-typed Holds by left parts one it.3,
      pattern-typed Holds by right parts one it.4,
    )

-- the parts' values
abbrev pub word_at : Which → (a b c : ℕ) → ℕ
word_at First a b c = a
word_at Second a b c = b
word_at Third a b c = c

-- the value of a pattern, for its parts' values
abbrev pub meaning : Pattern → (word size a b c : ℕ) → ℕ
meaning A word size a b c = a
meaning B word size a b c = b
meaning C word size a b c = c
meaning (Fixed literal) word size a b c = literal_value literal word size
meaning (Prefix operator arg) word size a b c =
    result_of (op_of operator word size) (pattern_width arg word size) (meaning arg word size a b c) 0
meaning (Infix op left right) word size a b c =
    result_of op (pattern_width left word size) (meaning left word size a b c) (meaning right word size a b c)

pub fill-value : (operands : List ℕ) (after : ℕ) (s : State) (p : Pattern) (parts : Parts) (a b c : ℕ) → HaveOneWidth parts →
    ((x : Which) → uses x p ≡ true → value_of (part_at x parts) operands after s ≡ Some (word_at x a b c)) →
    value_of (fill p parts) operands after s ≡ Some (meaning p (width_of parts.a) parts.size a b c)
fill-value operands after s A parts a b c one each = each First refl
fill-value operands after s B parts a b c one each = each Second refl
fill-value operands after s C parts a b c one each = each Third refl
fill-value operands after s (Fixed literal) parts a b c one each = refl
fill-value operands after s (Prefix operator arg) parts a b c one each =
    let op = op_of operator (width_of parts.a) parts.size in
    ap (option_map (λ x. result_of op (width_of (fill arg parts)) x 0)) (fill-value operands after s arg parts a b c one each)
    ∙ ap (λ n. Some (result_of op n (meaning arg (width_of parts.a) parts.size a b c) 0)) (fill-width arg parts one)
fill-value operands after s (Infix op left right) parts a b c one each =
    let x = meaning left (width_of parts.a) parts.size a b c in
    let y = meaning right (width_of parts.a) parts.size a b c in
    ap (option_and_then (λ m. option_map (λ n. result_of op (width_of (fill left parts)) m n) (value_of (fill right parts) operands after s)))
    (fill-value operands after s left parts a b c one (λ z used. each z (or_left (uses z left) (uses z right) used)))
    ∙ ap (option_map (λ n. result_of op (width_of (fill left parts)) x n))
    (fill-value operands after s right parts a b c one (λ z used. each z (or_right (uses z left) (uses z right) used)))
    ∙ ap (λ n. Some (result_of op n x y)) (fill-width left parts one)
