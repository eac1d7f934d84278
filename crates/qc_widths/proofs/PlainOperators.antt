-- The operators that have names, at their operands.
use Rattle.std.specs.Prelude.{ℕ, ◌≡◌, List, [], ◌∷◌, length, Option, None, Some}
use Rattle.std.specs.List.{AllByRecursion}
use Rattle.std.specs.Str.{bytes_eq}
use Rattle.std.proofs.Common.{refl, subst, arith}
use Rattle.qc_words.specs.declared.operator.Op.{Op}
use Rattle.qc_words.specs.declared.operator.Op.TheVariants.{Add, Sub, Mul, Divu, Modu, Quot, Rem, And, Or, Xor, Com, Neg, Shl, Shrl, Shra, Eq, Ne, Lt, Ge, Ltu, Geu, Zx, Sx, Slice}
use Rattle.qc_terms.specs.State.{Context}
use Rattle.qc_descr.specs.declared.description.OperandKind.{OperandKind}
use Rattle.qc_facts.specs.Values.{Value, operator_at}
use Rattle.qc_facts.specs.Facts.{named, second, operators, operator_named, operands_of}
use Rattle.qc_widths.proofs.Typed.{IsGood}
use Rattle.qc_widths.proofs.TypedNodes.{by_cond, good_unary, good_binary}

-- the operators that keep or compare widths
abbrev pub IsPlain : Op → Type 0
IsPlain (Zx to) = ⊥
IsPlain (Sx to) = ⊥
IsPlain (Slice low to) = ⊥
IsPlain _ = Unit {0}

abbrev pub AllPlain : List (List ℕ × Op) → Type 0
AllPlain [] = Unit {0}
AllPlain (p ∷ ps) = IsPlain p.1 × AllPlain ps

abbrev IsPlainOption : Option Op → Type 0
IsPlainOption None = Unit {0}
IsPlainOption (Some o) = IsPlain o

found_plain : (ps : List (List ℕ × Op)) (name : List ℕ) → AllPlain ps
    → IsPlainOption (second (named (λ p. p.0) ps name))
found_plain [] name all = tt
found_plain (p ∷ ps) name all =
    by_cond (λ o. IsPlainOption (second o)) (bytes_eq p.0 name) (Some p) (named (λ q. q.0) ps name) all.0
    (found_plain ps name all.1)

named_plain : (name : List ℕ) → IsPlainOption (operator_named name)
unfolding operator_named operators
named_plain name = found_plain operators name _

pub plain_operator : (name : List ℕ) (o : Op) → operator_named name ≡ Some o → IsPlain o
plain_operator name o e = subst IsPlainOption e (named_plain name)

module _ (context : Context) (kinds : List OperandKind) where
  of_one : (o : Op) (token : ℕ) (args : List Value) → ((arg : Value) → IsGood context kinds arg
      → IsGood context kinds (operator_at o token (arg ∷ []))) → length args ≡ 1
      → AllByRecursion (IsGood context kinds) args → IsGood context kinds (operator_at o token args)
  of_one o token [] one e all = cc e
  of_one o token (x ∷ []) one e all = one x all.0
  of_one o token (x ∷ y ∷ xs) one e all = cc e

  of_two : (o : Op) (token : ℕ) (args : List Value) → ((left right : Value) → IsGood context kinds left
      → IsGood context kinds right → IsGood context kinds (operator_at o token (left ∷ right ∷ [])))
      → length args ≡ 2 → AllByRecursion (IsGood context kinds) args → IsGood context kinds (operator_at o token args)
  of_two o token [] two e all = cc e
  of_two o token (x ∷ []) two e all = cc e
  of_two o token (x ∷ y ∷ []) two e all = two x y all.0 all.1.0
  of_two o token (x ∷ y ∷ z ∷ xs) two e all = cc e

  -- an operator of as many good operands as it has
  pub good_operator : (o : Op) → IsPlain o → (token : ℕ) (args : List Value) → length args ≡ operands_of o
      → AllByRecursion (IsGood context kinds) args → IsGood context kinds (operator_at o token args)
  good_operator Com p token args e all =
      of_one Com token args (λ arg g. good_unary context kinds Com token arg refl (λ w. refl) (λ w. tt) g) e all
  good_operator Neg p token args e all =
      of_one Neg token args (λ arg g. good_unary context kinds Neg token arg refl (λ w. refl) (λ w. tt) g) e all
  good_operator Add p token args e all =
      of_two Add token args (λ l r. good_binary context kinds Add token l r refl (λ w. tt) (λ w m. m)) e all
  good_operator Sub p token args e all =
      of_two Sub token args (λ l r. good_binary context kinds Sub token l r refl (λ w. tt) (λ w m. m)) e all
  good_operator Mul p token args e all =
      of_two Mul token args (λ l r. good_binary context kinds Mul token l r refl (λ w. tt) (λ w m. m)) e all
  good_operator Divu p token args e all =
      of_two Divu token args (λ l r. good_binary context kinds Divu token l r refl (λ w. tt) (λ w m. m)) e all
  good_operator Modu p token args e all =
      of_two Modu token args (λ l r. good_binary context kinds Modu token l r refl (λ w. tt) (λ w m. m)) e all
  good_operator Quot p token args e all =
      of_two Quot token args (λ l r. good_binary context kinds Quot token l r refl (λ w. tt) (λ w m. m)) e all
  good_operator Rem p token args e all =
      of_two Rem token args (λ l r. good_binary context kinds Rem token l r refl (λ w. tt) (λ w m. m)) e all
  good_operator And p token args e all =
      of_two And token args (λ l r. good_binary context kinds And token l r refl (λ w. tt) (λ w m. m)) e all
  good_operator Or p token args e all =
      of_two Or token args (λ l r. good_binary context kinds Or token l r refl (λ w. tt) (λ w m. m)) e all
  good_operator Xor p token args e all =
      of_two Xor token args (λ l r. good_binary context kinds Xor token l r refl (λ w. tt) (λ w m. m)) e all
  good_operator Shl p token args e all =
      of_two Shl token args (λ l r. good_binary context kinds Shl token l r refl (λ w. tt) (λ w m. m)) e all
  good_operator Shrl p token args e all =
      of_two Shrl token args (λ l r. good_binary context kinds Shrl token l r refl (λ w. tt) (λ w m. m)) e all
  good_operator Shra p token args e all =
      of_two Shra token args (λ l r. good_binary context kinds Shra token l r refl (λ w. tt) (λ w m. m)) e all
  good_operator Eq p token args e all =
      of_two Eq token args (λ l r. good_binary context kinds Eq token l r refl (λ w. tt) (λ w m. omega arith)) e all
  good_operator Ne p token args e all =
      of_two Ne token args (λ l r. good_binary context kinds Ne token l r refl (λ w. tt) (λ w m. omega arith)) e all
  good_operator Lt p token args e all =
      of_two Lt token args (λ l r. good_binary context kinds Lt token l r refl (λ w. tt) (λ w m. omega arith)) e all
  good_operator Ge p token args e all =
      of_two Ge token args (λ l r. good_binary context kinds Ge token l r refl (λ w. tt) (λ w m. omega arith)) e all
  good_operator Ltu p token args e all =
      of_two Ltu token args (λ l r. good_binary context kinds Ltu token l r refl (λ w. tt) (λ w m. omega arith)) e all
  good_operator Geu p token args e all =
      of_two Geu token args (λ l r. good_binary context kinds Geu token l r refl (λ w. tt) (λ w m. omega arith)) e all
  good_operator _ p token args e all = absurd p
