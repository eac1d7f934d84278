-- The operands of an instruction, one after the other.
use Rattle.std.specs.Prelude.{ℕ, suc, ◌≡◌, ◌+◌, ◌-◌, ◌≤◌, List, [], ◌∷◌, ◌++◌, length, take, drop, Option}
use Rattle.std.proofs.Common.{ap, ◌∙◌, arith, subst, append_assoc, get_or}
use Rattle.std.proofs.lemmas.List.{take_all}
use Rattle.qc_descr.specs.declared.coding.Reach.{Reach}
use Rattle.qc_descr.specs.declared.description.OperandKind.{OperandKind}
use Rattle.qc_descr.specs.declared.description.Space.{Space}
use Rattle.qc_descr.specs.CodingFaults.{operand_size}
use Rattle.qc_names.specs.ValueTables.{IsTableOf}
use Rattle.qc_join.specs.Joining.{named_operands}

-- all behind the first
all_behind : {A : Type 0} (x : A) (xs : List A) → take (length (x ∷ xs) - 1) xs ≡ xs
all_behind x xs =
    let e : length (x ∷ xs) - 1 ≡ length xs = omega arith in
    ap (λ n. take n xs) e ∙ take_all (length xs) xs (omega arith)

-- a table of operands with one more before the rest
pub operand_more : (word : ℕ) (spaces : List Space) (number : ℕ) (os : List (List ℕ × OperandKind)) (rs : List Reach)
    (o p : List ℕ × OperandKind) (r : Reach) (name : List ℕ) (size : Option ℕ)
    (pairs : List (List ℕ × (ℕ × Option ℕ))) (values : List (ℕ × Option ℕ)) (es : List (List ℕ × ℕ)) →
    1 ≤ length os → 1 ≤ length rs → name ≡ (get_or os 0 o).0 →
    size ≡ operand_size word spaces (get_or os 0 p).1 (get_or rs 0 r) →
    IsTableOf ((pairs ++ (name, (number, size)) ∷ [])
    ++ named_operands word spaces (number + 1) (take (length os - 1) (drop 1 os)) (take (length rs - 1) (drop 1 rs)))
    values es →
    IsTableOf (pairs ++ named_operands word spaces number os rs) values es
operand_more word spaces number [] rs o p r name size pairs values es some some_reach is sized table =
    absurd (omega (arith, some))
operand_more word spaces number (x ∷ os) [] o p r name size pairs values es some some_reach is sized table =
    absurd (omega (arith, some_reach))
operand_more word spaces number (x ∷ os) (y ∷ rs) o p r name size pairs values es some some_reach is sized table =
    subst (λ ps. IsTableOf ps values es)
    (append_assoc pairs ((name, (number, size)) ∷ []) behind ∙ ap (λ ps. pairs ++ ps) step) table
  where
    behind : List (List ℕ × (ℕ × Option ℕ))
    behind =
        named_operands word spaces (number + 1) (take (length (x ∷ os) - 1) os) (take (length (y ∷ rs) - 1) rs)

    next : number + 1 ≡ suc number
    next = omega arith

    rest : behind ≡ named_operands word spaces (suc number) os rs
    rest =
        ap (λ n. named_operands word spaces n (take (length (x ∷ os) - 1) os) (take (length (y ∷ rs) - 1) rs)) next
        ∙ ap (λ xs. named_operands word spaces (suc number) xs (take (length (y ∷ rs) - 1) rs)) (all_behind x os)
        ∙ ap (λ ys. named_operands word spaces (suc number) os ys) (all_behind y rs)

    step : (name, (number, size)) ∷ behind ≡ named_operands word spaces number (x ∷ os) (y ∷ rs)
    step =
        ap (λ n. (n, (number, size)) ∷ behind) is
        ∙ ap (λ s. (x.0, (number, s)) ∷ behind) sized
        ∙ ap (λ ps. (x.0, (number, operand_size word spaces x.1 y)) ∷ ps) rest
