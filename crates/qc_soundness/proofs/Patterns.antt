-- Trees that terms of instructions meet: one induction over the pairs, and what it gives.
use Rattle.std.proofs.Common.{◌≡◌, ◌∙◌, ◌/◌, ℕ, ◌+◌, List, [], ◌∷◌, ◌++◌, Bool, true, false, ◌&&◌, ◌||◌, Option, Some, nat_eq, option_and_then, inl, inr, refl, sym, ap, subst, arith}
use Rattle.std.specs.Option.{option_map}
use Rattle.std.specs.List.{AllByRecursion}
use Rattle.qc_lists.specs.Law.Lists.{each_append, each_of_append}
use Rattle.qc_words.specs.declared.operator.Op.{Op}
use Rattle.qc_words.specs.Operators.{result_of, result_width_of}
use Rattle.qc_terms.specs.declared.state.Order.{Order}
use Rattle.qc_terms.specs.declared.state.State.{State}
use Rattle.qc_terms.specs.declared.term.Place.{Place}
use Rattle.qc_terms.specs.Memory.{load_of}
use Rattle.qc_terms.specs.Tree.{Tree, Number, Unary, Binary, Register, Immediate, Load, NextInput, AddressAfter, has_input, width_of}
use Rattle.qc_terms.specs.Value.{next_input_of, value_of}
use Rattle.qc_equations.specs.Matching.{same_op}
use Rattle.qc_equations.specs.Law.Operators.{same-op}
use Rattle.qc_derivations.specs.declared.derivation.Leaf.{Leaf}
use Rattle.qc_derivations.specs.declared.derivation.Leaf.TheVariants as leaf
use Rattle.qc_derivations.specs.Matching.{Pair, address_of, both, extended, is_any_number, operand_of, operands_of, pair, pairs_of}
use Rattle.qc_derivations.specs.Same.{inputs_in, is_address_after, is_next_input, is_number}
use Rattle.qc_soundness.proofs.Optional.{and_both, both_parts, if_parts, none_if_parts, numbers, or_left, or_parts, or_right, then_parts}

-- ---- one node

pub is_number-same : (value width : ℕ) (t : Tree) → is_number value width t ≡ true → t ≡ Number value width
is_number-same value width (Number v w) e =
    let parts = and_both (nat_eq value v) (nat_eq width w) e in
    let one : value ≡ v = numbers value v parts.0 in
    let two : width ≡ w = numbers width w parts.1 in cc
is_number-same value width (Unary op arg) e = absurd (cc e)
is_number-same value width (Binary op left right) e = absurd (cc e)
is_number-same value width (Register place w) e = absurd (cc e)
is_number-same value width (Immediate operand w) e = absurd (cc e)
is_number-same value width (Load w address) e = absurd (cc e)
is_number-same value width (NextInput w) e = absurd (cc e)
is_number-same value width (AddressAfter w) e = absurd (cc e)

is_next_input-same : (width : ℕ) (t : Tree) → is_next_input width t ≡ true → t ≡ NextInput width
is_next_input-same width (NextInput w) e = let one : width ≡ w = numbers width w e in cc
is_next_input-same width (Number v w) e = absurd (cc e)
is_next_input-same width (Unary op arg) e = absurd (cc e)
is_next_input-same width (Binary op left right) e = absurd (cc e)
is_next_input-same width (Register place w) e = absurd (cc e)
is_next_input-same width (Immediate operand w) e = absurd (cc e)
is_next_input-same width (Load w address) e = absurd (cc e)
is_next_input-same width (AddressAfter w) e = absurd (cc e)

is_address_after-same : (width : ℕ) (t : Tree) → is_address_after width t ≡ true → t ≡ AddressAfter width
is_address_after-same width (AddressAfter w) e = let one : width ≡ w = numbers width w e in cc
is_address_after-same width (Number v w) e = absurd (cc e)
is_address_after-same width (Unary op arg) e = absurd (cc e)
is_address_after-same width (Binary op left right) e = absurd (cc e)
is_address_after-same width (Register place w) e = absurd (cc e)
is_address_after-same width (Immediate operand w) e = absurd (cc e)
is_address_after-same width (Load w address) e = absurd (cc e)
is_address_after-same width (NextInput w) e = absurd (cc e)

operand_is : (op : Op) (t a : Tree) → operand_of op t ≡ Some a → t ≡ Unary op a
operand_is op (Unary o arg) a e =
    let parts = if_parts (same_op op o) (Some arg) a e in
    let one : op ≡ o = same-op op o parts.0 in
    let two : Some arg ≡ Some a = parts.1 in cc
operand_is op (Number v w) a e = absurd (cc e)
operand_is op (Binary o left right) a e = absurd (cc e)
operand_is op (Register place w) a e = absurd (cc e)
operand_is op (Immediate operand w) a e = absurd (cc e)
operand_is op (Load w address) a e = absurd (cc e)
operand_is op (NextInput w) a e = absurd (cc e)
operand_is op (AddressAfter w) a e = absurd (cc e)

operands_are : (op : Op) (t : Tree) (p : Tree × Tree) → operands_of op t ≡ Some p → t ≡ Binary op p.0 p.1
operands_are op (Binary o left right) p e =
    let parts = if_parts (same_op op o) (Some (left, right)) p e in
    let one : op ≡ o = same-op op o parts.0 in
    let two : Some (left, right) ≡ Some p = parts.1 in
    let same : (left, right) ≡ p = cc in
    subst (λ (q : Tree × Tree). Binary o left right ≡ Binary op q.0 q.1) same (ap (λ x. Binary x left right) (sym one))
operands_are op (Number v w) a e = absurd (cc e)
operands_are op (Unary o arg) a e = absurd (cc e)
operands_are op (Register place w) a e = absurd (cc e)
operands_are op (Immediate operand w) a e = absurd (cc e)
operands_are op (Load w address) a e = absurd (cc e)
operands_are op (NextInput w) a e = absurd (cc e)
operands_are op (AddressAfter w) a e = absurd (cc e)

address_is : (width : ℕ) (t a : Tree) → address_of width t ≡ Some a → t ≡ Load width a
address_is width (Load w address) a e =
    let parts = if_parts (nat_eq width w) (Some address) a e in
    let one : width ≡ w = numbers width w parts.0 in
    let two : Some address ≡ Some a = parts.1 in cc
address_is width (Number v w) a e = absurd (cc e)
address_is width (Unary o arg) a e = absurd (cc e)
address_is width (Binary o left right) a e = absurd (cc e)
address_is width (Register place w) a e = absurd (cc e)
address_is width (Immediate operand w) a e = absurd (cc e)
address_is width (NextInput w) a e = absurd (cc e)
address_is width (AddressAfter w) a e = absurd (cc e)

-- ---- the induction

-- what holds of a term, a tree that it meets, and their pairs, is kept from the parts to the whole
pub record IsClosed (root : Bool) (Rel : Tree → Tree → List Pair → Type 0) : Type 0 where
  pub number : (value width : ℕ) → Rel (Number value width) (Number value width) []
  pub extended : (op : Op) (operand width value wide : ℕ) →
      Rel (Unary op (Immediate operand width)) (Number value wide) (pair (leaf.Extended op operand width) (Number value wide))
  pub unary : (op : Op) (p g : Tree) (xs : List Pair) → Rel p g xs → Rel (Unary op p) (Unary op g) xs
  pub binary : (op : Op) (p q g h : Tree) (xs ys : List Pair) → Rel p g xs → Rel q h ys → Rel (Binary op p q) (Binary op g h) (xs ++ ys)
  pub register : (place : Place) (width : ℕ) (g : Tree) → Rel (Register place width) g (pair (leaf.Register place width) g)
  pub immediate : (operand width : ℕ) (g : Tree) → Rel (Immediate operand width) g (pair (leaf.Immediate operand width) g)
  pub load : (width : ℕ) (p g : Tree) (xs : List Pair) → Rel p g xs → Rel (Load width p) (Load width g) xs
  pub input : (width : ℕ) → Rel (NextInput width) (NextInput width) []
  pub after : (width : ℕ) → root ≡ true → Rel (AddressAfter width) (AddressAfter width) []

any_number : (t : Tree) → is_any_number t ≡ true → (value : ℕ) × (width : ℕ) × (t ≡ Number value width)
any_number (Number v w) e = (v, w, refl)
any_number (Unary o arg) e = absurd (cc e)
any_number (Binary o left right) e = absurd (cc e)
any_number (Register place w) e = absurd (cc e)
any_number (Immediate operand w) e = absurd (cc e)
any_number (Load w address) e = absurd (cc e)
any_number (NextInput w) e = absurd (cc e)
any_number (AddressAfter w) e = absurd (cc e)

extended_met : (root : Bool) (Rel : Tree → Tree → List Pair → Type 0) → IsClosed root Rel → (op : Op) (arg g : Tree) (xs : List Pair) →
    extended op arg g ≡ Some xs → Rel (Unary op arg) g xs
extended_met root Rel closed op (Immediate operand width) g xs e =
    let parts = if_parts (is_any_number g) (Some (pair (leaf.Extended op operand width) g)) xs e in
    let one = any_number g parts.0 in
    let same : pair (leaf.Extended op operand width) g ≡ xs = let it : Some (pair (leaf.Extended op operand width) g) ≡ Some xs = parts.1 in cc in
    subst (λ ys. Rel (Unary op (Immediate operand width)) g ys) same
    (subst (λ t. Rel (Unary op (Immediate operand width)) t (pair (leaf.Extended op operand width) t)) (sym one.2)
    (closed.extended op operand width one.0 one.1))
extended_met root Rel closed op (Number v w) g xs e = absurd (cc e)
extended_met root Rel closed op (Unary o arg) g xs e = absurd (cc e)
extended_met root Rel closed op (Binary o left right) g xs e = absurd (cc e)
extended_met root Rel closed op (Register place w) g xs e = absurd (cc e)
extended_met root Rel closed op (Load w address) g xs e = absurd (cc e)
extended_met root Rel closed op (NextInput w) g xs e = absurd (cc e)
extended_met root Rel closed op (AddressAfter w) g xs e = absurd (cc e)

-- what is kept from parts to the whole holds of each term and tree that meet
pub met : (root : Bool) (Rel : Tree → Tree → List Pair → Type 0) → IsClosed root Rel → (p g : Tree) (xs : List Pair) →
    pairs_of root p g ≡ Some xs → Rel p g xs
met root Rel closed (Number value width) g xs e =
    let it = none_if_parts (is_number value width g) xs e in
    subst (λ ys. Rel (Number value width) g ys) it.1
    (subst (λ t. Rel (Number value width) t []) (sym (is_number-same value width g it.0)) (closed.number value width))
met root Rel closed (Unary op arg) g xs e =
    elim (or_parts (extended op arg g) (option_and_then (pairs_of root arg) (operand_of op g)) xs e) [
      | inl there ↦ extended_met root Rel closed op arg g xs there
      | inr there ↦
          let it = then_parts (pairs_of root arg) (operand_of op g) xs there in
          subst (λ t. Rel (Unary op arg) t xs) (sym (operand_is op g it.0 it.1))
          (closed.unary op arg it.0 xs (met root Rel closed arg it.0 xs it.2))
    ]
met root Rel closed (Binary op left right) g xs e =
    let it = then_parts (λ (p : Tree × Tree). both (pairs_of root left p.0) (pairs_of root right p.1)) (operands_of op g) xs e in
    let p : Tree × Tree = it.0 in
    let two = both_parts (pairs_of root left p.0) (pairs_of root right p.1) xs it.2 in
    subst (λ t. Rel (Binary op left right) t xs) (sym (operands_are op g p it.1))
    (subst (λ ys. Rel (Binary op left right) (Binary op p.0 p.1) ys) two.4
    (closed.binary op left right p.0 p.1 two.0 two.1 (met root Rel closed left p.0 two.0 two.2) (met root Rel closed right p.1 two.1 two.3)))
met root Rel closed (Register place width) g xs e =
    let same : pair (leaf.Register place width) g ≡ xs = cc in
    subst (λ ys. Rel (Register place width) g ys) same (closed.register place width g)
met root Rel closed (Immediate operand width) g xs e =
    let same : pair (leaf.Immediate operand width) g ≡ xs = cc in
    subst (λ ys. Rel (Immediate operand width) g ys) same (closed.immediate operand width g)
met root Rel closed (Load width address) g xs e =
    let it = then_parts (pairs_of root address) (address_of width g) xs e in
    subst (λ t. Rel (Load width address) t xs) (sym (address_is width g it.0 it.1))
    (closed.load width address it.0 xs (met root Rel closed address it.0 xs it.2))
met root Rel closed (NextInput width) g xs e =
    let it = none_if_parts (is_next_input width g) xs e in
    subst (λ ys. Rel (NextInput width) g ys) it.1
    (subst (λ t. Rel (NextInput width) t []) (sym (is_next_input-same width g it.0)) (closed.input width))
met root Rel closed (AddressAfter width) g xs e =
    let it = none_if_parts (root && is_address_after width g) xs e in
    let parts = and_both root (is_address_after width g) it.0 in
    subst (λ ys. Rel (AddressAfter width) g ys) it.1
    (subst (λ t. Rel (AddressAfter width) t []) (sym (is_address_after-same width g parts.1)) (closed.after width parts.0))

-- ---- leaves

-- a leaf as a tree
abbrev pub leaf_tree : Leaf → Tree
leaf_tree (leaf.Register place width) = Register place width
leaf_tree (leaf.Immediate operand width) = Immediate operand width
leaf_tree (leaf.Extended op operand width) = Unary op (Immediate operand width)

-- a fact about trees goes to their parts
pub record GoesToParts (Holds : Tree → Type 0) : Type 0 where
  pub unary : (op : Op) (arg : Tree) → Holds (Unary op arg) → Holds arg
  pub left : (op : Op) (left right : Tree) → Holds (Binary op left right) → Holds left
  pub right : (op : Op) (left right : Tree) → Holds (Binary op left right) → Holds right
  pub load : (width : ℕ) (address : Tree) → Holds (Load width address) → Holds address

abbrev pub PartHolds : (Tree → Type 0) → Pair → Type 0
PartHolds Holds x = Holds x.part

abbrev pub LeafHolds : (Tree → Type 0) → Pair → Type 0
LeafHolds Holds x = Holds (leaf_tree x.leaf)

-- what holds of the goal and goes to parts holds of each part that a leaf meets
pub parts_hold : (root : Bool) (Holds : Tree → Type 0) → GoesToParts Holds → (p g : Tree) (xs : List Pair) → pairs_of root p g ≡ Some xs →
    Holds g → AllByRecursion (PartHolds Holds) xs
parts_hold root Holds down = met root (λ p g xs. Holds g → AllByRecursion (PartHolds Holds) xs) (record {
  number = λ value width holds. tt;
  extended = λ op operand width value wide holds. (holds, tt);
  unary = λ op p g xs deep holds. deep (down.unary op g holds);
  binary = λ op p q g h xs ys one two holds.
      each_append (PartHolds Holds) xs ys (one (down.left op g h holds)) (two (down.right op g h holds));
  register = λ place width g holds. (holds, tt);
  immediate = λ operand width g holds. (holds, tt);
  load = λ width p g xs deep holds. deep (down.load width g holds);
  input = λ width holds. tt;
  after = λ width root holds. tt;
})

-- likewise of the term and its leaves
pub leaves_hold : (root : Bool) (Holds : Tree → Type 0) → GoesToParts Holds → (p g : Tree) (xs : List Pair) → pairs_of root p g ≡ Some xs →
    Holds p → AllByRecursion (LeafHolds Holds) xs
leaves_hold root Holds down = met root (λ p g xs. Holds p → AllByRecursion (LeafHolds Holds) xs) (record {
  number = λ value width holds. tt;
  extended = λ op operand width value wide holds. (holds, tt);
  unary = λ op p g xs deep holds. deep (down.unary op p holds);
  binary = λ op p q g h xs ys one two holds.
      each_append (LeafHolds Holds) xs ys (one (down.left op p q holds)) (two (down.right op p q holds));
  register = λ place width g holds. (holds, tt);
  immediate = λ operand width g holds. (holds, tt);
  load = λ width p g xs deep holds. deep (down.load width p holds);
  input = λ width holds. tt;
  after = λ width root holds. tt;
})

-- ---- values

-- where a term is read
pub record Reading : Type 0 where
  pub operands : List ℕ
  pub after : ℕ
  pub state : State

abbrev pub value_at : Tree → Reading → Option ℕ
value_at t r = value_of t r.operands r.after r.state

-- both have one memory, and order of bytes
pub record AreAlikeReadings (a b : Reading) : Type 0 where
  pub order : a.state.facts.order ≡ b.state.facts.order
  pub memory : a.state.memory ≡ b.state.memory

-- a leaf has the width of its part, and here the value that the part has there
pub record ReadsAs (a b : Reading) (x : Pair) : Type 0 where
  pub width : width_of (leaf_tree x.leaf) ≡ width_of x.part
  pub value : value_at (leaf_tree x.leaf) a ≡ value_at x.part b

pub record IsSame (a b : Reading) (p g : Tree) : Type 0 where
  pub width : width_of p ≡ width_of g
  pub value : value_at p a ≡ value_at g b

-- where leaves read what they meet, the term has the value of the tree
pub values_meet : (root : Bool) (a b : Reading) → AreAlikeReadings a b → (root ≡ true → a.after ≡ b.after) → (p g : Tree) (xs : List Pair) →
    pairs_of root p g ≡ Some xs → (has_input p ≡ true → next_input_of a.state ≡ next_input_of b.state) →
    AllByRecursion (ReadsAs a b) xs → IsSame a b p g
values_meet root a b alike next = met root
    (λ p g xs. (has_input p ≡ true → next_input_of a.state ≡ next_input_of b.state) → AllByRecursion (ReadsAs a b) xs → IsSame a b p g) (record {
      number = λ value width input reads. record { width = refl; value = refl };
      extended = λ op operand width value wide input reads. record { width = reads.0.width; value = reads.0.value };
      unary = λ op p g xs deep input reads.
          let it = deep input reads in
          record {
            width = ap (result_width_of op) it.width;
            value = ap (λ w. option_map (λ x. result_of op w x 0) (value_at p a)) it.width
                ∙ ap (option_map (λ x. result_of op (width_of g) x 0)) it.value;
          };
      binary = λ op p q g h xs ys one two input reads.
          let parts = each_of_append (ReadsAs a b) xs ys reads in
          let l = one (λ is. input (or_left (has_input p) (has_input q) is)) parts.0 in
          let r = two (λ is. input (or_right (has_input p) (has_input q) is)) parts.1 in
          record {
            width = ap (result_width_of op) l.width;
            value = ap (λ w. option_and_then (λ x. option_map (λ y. result_of op w x y) (value_at q a)) (value_at p a)) l.width
                ∙ ap (λ v. option_and_then (λ x. option_map (λ y. result_of op (width_of g) x y) v) (value_at p a)) r.value
                ∙ ap (option_and_then (λ x. option_map (λ y. result_of op (width_of g) x y) (value_at h b))) l.value;
          };
      register = λ place width g input reads. record { width = reads.0.width; value = reads.0.value };
      immediate = λ operand width g input reads. record { width = reads.0.width; value = reads.0.value };
      load = λ width p g xs deep input reads.
          let it = deep input reads in
          record {
            width = refl;
            value = ap (option_and_then (load_of a.state.facts.order a.state.memory (width / 8))) it.value
                ∙ ap (λ (o : Order). option_and_then (load_of o a.state.memory (width / 8)) (value_at g b)) alike.order
                ∙ ap (λ m. option_and_then (load_of b.state.facts.order m (width / 8)) (value_at g b)) alike.memory;
          };
      input = λ width input reads. record { width = refl; value = ap Some (input refl) };
      after = λ width is input reads. record { width = refl; value = ap Some (next is) };
    })

-- ---- the input

-- how often the input is read in the parts
abbrev pub inputs_met : List Pair → ℕ
inputs_met [] = 0
inputs_met (x ∷ xs) = inputs_in x.part + inputs_met xs

pub inputs_met-append : (xs ys : List Pair) → inputs_met (xs ++ ys) ≡ inputs_met xs + inputs_met ys
inputs_met-append [] ys = omega arith
inputs_met-append (x ∷ xs) ys = let deep = inputs_met-append xs ys in omega (arith, deep)

pub inputs_meet : (root : Bool) (p g : Tree) (xs : List Pair) → pairs_of root p g ≡ Some xs → inputs_in g ≡ inputs_in p + inputs_met xs
inputs_meet root = met root (λ p g xs. inputs_in g ≡ inputs_in p + inputs_met xs) (record {
  number = λ value width. refl;
  extended = λ op operand width value wide. refl;
  unary = λ op p g xs deep. deep;
  binary = λ op p q g h xs ys one two. let sums = inputs_met-append xs ys in omega (arith, one, two, sums);
  register = λ place width g. omega arith;
  immediate = λ operand width g. omega arith;
  load = λ width p g xs deep. deep;
  input = λ width. refl;
  after = λ width root. refl;
})

-- the input is read in a tree exactly where it stands there
pub inputs_none : (t : Tree) → has_input t ≡ false → inputs_in t ≡ 0
inputs_none (Number value width) e = refl
inputs_none (Unary op arg) e = inputs_none arg e
inputs_none (Binary op left right) e = neither (has_input left) (has_input right) e (inputs_none left) (inputs_none right)
  where
    neither : (a b : Bool) → (a || b) ≡ false → (a ≡ false → inputs_in left ≡ 0) → (b ≡ false → inputs_in right ≡ 0) →
        inputs_in left + inputs_in right ≡ 0
    neither true b e one two = absurd (cc e)
    neither false true e one two = absurd (cc e)
    neither false false e one two = let x = one refl in let y = two refl in omega (arith, x, y)
inputs_none (Register place width) e = refl
inputs_none (Immediate operand width) e = refl
inputs_none (Load width address) e = inputs_none address e
inputs_none (NextInput width) e = absurd (cc e)
inputs_none (AddressAfter width) e = refl

pub inputs_some : (t : Tree) → inputs_in t ≡ 0 → has_input t ≡ false
inputs_some (Number value width) e = refl
inputs_some (Unary op arg) e = inputs_some arg e
inputs_some (Binary op left right) e =
    let one = inputs_some left (omega (arith, e)) in
    let two = inputs_some right (omega (arith, e)) in
    rw one two
inputs_some (Register place width) e = refl
inputs_some (Immediate operand width) e = refl
inputs_some (Load width address) e = inputs_some address e
inputs_some (NextInput width) e = absurd (omega (arith, e))
inputs_some (AddressAfter width) e = refl
