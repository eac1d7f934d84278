-- A term whose operator is told, and that of one of its operands, is nested.
use Rattle.std.proofs.Common.{arith, ◌≡◌, ap, Option, None, Some, Bool, true, false, refl, cond}
use Rattle.qc_words.specs.declared.operator.Op.{Op}
use Rattle.qc_words.specs.Width.{IsWidth}
use Rattle.qc_terms.specs.Tree.{Tree, Binary, width_of}
use Rattle.qc_equations.specs.Law.Operators.{same-op, op-same}
use Rattle.qc_equations.specs.Matching.{left_nested, right_nested, same_op}
use Rattle.qc_laws.specs.Inner.Forms.{operands_of}

pub is_binary : (op : Op) (t left right : Tree) → Some (left, right) ≡ operands_of op t → t ≡ Binary op left right
is_binary op (Binary found a b) left right e = go (same_op found op) refl e
  where
    go : (same : Bool) → same_op found op ≡ same → ◌≡◌ {A = Option (Tree × Tree)} (Some (left, right)) (cond same (Some (a, b)) None) → Binary found a b ≡ Binary op left right
    go true is e =
        let it = same-op found op is in
        let both : ◌≡◌ {A = Tree × Tree} (left, right) (a, b) = cc in
        let first = ap (λ (p : Tree × Tree). p.0) both in
        let second = ap (λ (p : Tree × Tree). p.1) both in cc
    go false is e = cc
is_binary op _ left right e = cc

pub is_left_nested : (op : Op) (t inner a b c : Tree) → IsWidth (width_of a) → Some (inner, c) ≡ operands_of op t →
    Some (a, b) ≡ operands_of op inner → Some (record { a = a; b = b; c = c; size = 0 }) ≡ left_nested op t
is_left_nested op t inner a b c width outer nested =
    rw (is_binary op t inner c outer, is_binary op inner a b nested, op-same op) (grind arith)

pub is_right_nested : (op : Op) (t inner a b c : Tree) → IsWidth (width_of a) → Some (a, inner) ≡ operands_of op t →
    Some (b, c) ≡ operands_of op inner → Some (record { a = a; b = b; c = c; size = 0 }) ≡ right_nested op t
is_right_nested op t inner a b c width outer nested =
    rw (is_binary op t a inner outer, is_binary op inner b c nested, op-same op) (grind arith)
