-- The test of trees holds of equal ones, and of no others.
use Rattle.std.proofs.Common.{◌≡◌, ℕ, Bool, true, false, ◌&&◌, nat_eq, refl, arith}
use Rattle.qc_terms.specs.declared.term.Place.{Place}
use Rattle.qc_terms.specs.declared.term.Place.TheVariants.{Cell, Operand}
use Rattle.qc_terms.specs.Tree.{Tree, Number, Unary, Binary, Register, Immediate, Load, NextInput, AddressAfter}
use Rattle.qc_equations.specs.Matching.{same_op}
use Rattle.qc_equations.specs.Law.Operators.{op-same, same-op}
use Rattle.qc_derivations.specs.Same.{same_place, same_tree}

numbers : (a b : ℕ) → nat_eq a b ≡ true → a ≡ b
numbers a b e = grind (arith, e)

number_itself : (a : ℕ) → nat_eq a a ≡ true
number_itself a = grind arith

first : (a b : Bool) → (a && b) ≡ true → a ≡ true
first true b e = refl
first false b e = cc

second : (a b : Bool) → (a && b) ≡ true → b ≡ true
second true b e = e
second false b e = cc

together : (a b : Bool) → a ≡ true → b ≡ true → (a && b) ≡ true
together true true x y = refl
together true false x y = cc
together false b x y = cc

places : (p q : Place) → same_place p q ≡ true → p ≡ q
places (Cell s i) (Cell t j) e =
    let one = numbers s t (first (nat_eq s t) (nat_eq i j) e) in
    let two = numbers i j (second (nat_eq s t) (nat_eq i j) e) in cc
places (Operand s i) (Operand t j) e =
    let one = numbers s t (first (nat_eq s t) (nat_eq i j) e) in
    let two = numbers i j (second (nat_eq s t) (nat_eq i j) e) in cc
places (Cell s i) (Operand t j) e = cc
places (Operand s i) (Cell t j) e = cc

place_itself : (p : Place) → same_place p p ≡ true
place_itself (Cell s i) = together (nat_eq s s) (nat_eq i i) (number_itself s) (number_itself i)
place_itself (Operand s i) = together (nat_eq s s) (nat_eq i i) (number_itself s) (number_itself i)

pub same_tree-refl : (t : Tree) → same_tree t t ≡ true
same_tree-refl (Number v w) = together (nat_eq v v) (nat_eq w w) (number_itself v) (number_itself w)
same_tree-refl (Unary op arg) = together (same_op op op) (same_tree arg arg) (op-same op) (same_tree-refl arg)
same_tree-refl (Binary op l r) =
    together (same_op op op) (same_tree l l && same_tree r r) (op-same op)
    (together (same_tree l l) (same_tree r r) (same_tree-refl l) (same_tree-refl r))
same_tree-refl (Register p w) = together (same_place p p) (nat_eq w w) (place_itself p) (number_itself w)
same_tree-refl (Immediate o w) = together (nat_eq o o) (nat_eq w w) (number_itself o) (number_itself w)
same_tree-refl (Load w a) = together (nat_eq w w) (same_tree a a) (number_itself w) (same_tree-refl a)
same_tree-refl (NextInput w) = number_itself w
same_tree-refl (AddressAfter w) = number_itself w

pub same_tree-same : (t u : Tree) → same_tree t u ≡ true → t ≡ u
same_tree-same (Number v w) (Number x y) e =
    let one = numbers v x (first (nat_eq v x) (nat_eq w y) e) in
    let two = numbers w y (second (nat_eq v x) (nat_eq w y) e) in cc
same_tree-same (Unary op arg) (Unary o a) e =
    let one = same-op op o (first (same_op op o) (same_tree arg a) e) in
    let two = same_tree-same arg a (second (same_op op o) (same_tree arg a) e) in cc
same_tree-same (Binary op l r) (Binary o x y) e =
    let rest = second (same_op op o) (same_tree l x && same_tree r y) e in
    let one = same-op op o (first (same_op op o) (same_tree l x && same_tree r y) e) in
    let two = same_tree-same l x (first (same_tree l x) (same_tree r y) rest) in
    let three = same_tree-same r y (second (same_tree l x) (same_tree r y) rest) in cc
same_tree-same (Register p w) (Register q y) e =
    let one = places p q (first (same_place p q) (nat_eq w y) e) in
    let two = numbers w y (second (same_place p q) (nat_eq w y) e) in cc
same_tree-same (Immediate o w) (Immediate x y) e =
    let one = numbers o x (first (nat_eq o x) (nat_eq w y) e) in
    let two = numbers w y (second (nat_eq o x) (nat_eq w y) e) in cc
same_tree-same (Load w a) (Load y b) e =
    let one = numbers w y (first (nat_eq w y) (same_tree a b) e) in
    let two = same_tree-same a b (second (nat_eq w y) (same_tree a b) e) in cc
same_tree-same (NextInput w) (NextInput y) e = let one = numbers w y e in cc
same_tree-same (AddressAfter w) (AddressAfter y) e = let one = numbers w y e in cc
same_tree-same (Number v w) _ e = cc
same_tree-same (Unary op arg) _ e = cc
same_tree-same (Binary op l r) _ e = cc
same_tree-same (Register p w) _ e = cc
same_tree-same (Immediate o w) _ e = cc
same_tree-same (Load w a) _ e = cc
same_tree-same (NextInput w) _ e = cc
same_tree-same (AddressAfter w) _ e = cc
