-- The first clash of an operator of two operands.
use Rattle.std.proofs.Common.{◌≡◌, ◌∙◌, ℕ, List, [], ◌∷◌, ◌++◌, Ok, Err, ap, sym, refl}
use Rattle.qc_words.specs.declared.operator.Op.{Op}
use Rattle.qc_words.specs.Operators.{result_width_of}
use Rattle.qc_terms.specs.declared.typing.WidthClash.{WidthClash}
use Rattle.qc_terms.specs.Clashes.{clash_of_widths, clashes_of, width_or_clash}
use Rattle.qc_terms.specs.Tree.{Tree, Binary, width_of}

-- where a width is found there is no clash, and it is that width
pub later_clash : (xs ys : List WidthClash) (v w n : ℕ) → Ok n ≡ width_or_clash xs v →
    width_or_clash (xs ++ ys) w ≡ width_or_clash ys w
later_clash [] ys v w n found = refl
later_clash (x ∷ xs) ys v w n found = cc found

pub same_width : (xs : List WidthClash) (v n : ℕ) → Ok n ≡ width_or_clash xs v → n ≡ v
same_width [] v n found = cc found
same_width (x ∷ xs) v n found = cc found

-- where a clash is found it stays the first
pub first_clash : (xs ys : List WidthClash) (v w : ℕ) (e : WidthClash) → Err e ≡ width_or_clash xs v →
    Err e ≡ width_or_clash (xs ++ ys) w
first_clash [] ys v w e found = cc found
first_clash (x ∷ xs) ys v w e found = found

pub right_clash : (op : Op) (left right : Tree) (n : ℕ) (e : WidthClash) →
    Ok n ≡ width_or_clash (clashes_of left) (width_of left) →
    Err e ≡ width_or_clash (clashes_of right) (width_of right) →
    Err e ≡ width_or_clash (clashes_of (Binary op left right)) (width_of (Binary op left right))
right_clash op left right n e first second =
    let own = clash_of_widths (width_of left) (width_of right) in
    let whole = result_width_of op (width_of left) in
    first_clash (clashes_of right) own (width_of right) whole e second
    ∙ sym (later_clash (clashes_of left) (clashes_of right ++ own) (width_of left) whole n first)

pub own_clash : (op : Op) (left right : Tree) (n m : ℕ) →
    Ok n ≡ width_or_clash (clashes_of left) (width_of left) →
    Ok m ≡ width_or_clash (clashes_of right) (width_of right) →
    width_or_clash (clash_of_widths n m) (result_width_of op n)
    ≡ width_or_clash (clashes_of (Binary op left right)) (width_of (Binary op left right))
own_clash op left right n m first second =
    let own = clash_of_widths (width_of left) (width_of right) in
    let whole = result_width_of op (width_of left) in
    let a : n ≡ width_of left = same_width (clashes_of left) (width_of left) n first in
    let b : m ≡ width_of right = same_width (clashes_of right) (width_of right) m second in
    ap (λ x. width_or_clash (clash_of_widths x m) (result_width_of op x)) a
    ∙ ap (λ y. width_or_clash (clash_of_widths (width_of left) y) whole) b
    ∙ sym (later_clash (clashes_of right) own (width_of right) whole m second)
    ∙ sym (later_clash (clashes_of left) (clashes_of right ++ own) (width_of left) whole n first)
