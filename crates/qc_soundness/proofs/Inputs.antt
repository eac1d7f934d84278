-- Each place of the goal where the input is read is met by the instruction, or is one child's.
use Rattle.std.proofs.Common.{◌≡◌, ◌∙◌, ◌+◌, ◌≤◌, ◌&&◌, not, ℕ, zero, suc, List, [], ◌∷◌, Bool, true, false, cond, Option, None, Some, nat_eq, nat_le, slice_get, find, inl, inr, refl, sym, ap, subst, arith}
use Rattle.std.specs.List.{list_all}
use Rattle.std.proofs.lemmas.Option.{same_Some}
use Rattle.qc_terms.specs.declared.term.Place.{Place}
use Rattle.qc_terms.specs.declared.term.Place.TheVariants as place
use Rattle.qc_terms.specs.Tree.{Tree, Number, Unary, Binary, Register, Immediate, Load, NextInput, AddressAfter, width_of}
use Rattle.qc_equations.specs.Matching.{is_constant}
use Rattle.qc_derivations.specs.declared.derivation.Leaf.{Leaf}
use Rattle.qc_derivations.specs.declared.derivation.Leaf.TheVariants as leaf
use Rattle.qc_derivations.specs.Forest.{Cell, Child, Constant, Own, Param, Spare, Stand}
use Rattle.qc_derivations.specs.Goals.{Need}
use Rattle.qc_derivations.specs.Machine.{Machine, has_flags, is_zero}
use Rattle.qc_derivations.specs.Matching.{Pair}
use Rattle.qc_derivations.specs.Nodes.{child_needs, is_child}
use Rattle.qc_derivations.specs.Rules.{extended_meets, flag_pair, immediate_meets, is_computed, is_extended, is_flag_leaf, is_flag_of, is_read_as, is_register_leaf, is_same_leaf, leaf_meets, names_target, operand_meets, register_part, value_in}
use Rattle.qc_derivations.specs.Same.{inputs_in, is_number, is_register, same_tree}
use Rattle.qc_derivations.specs.Law.Same.{same_tree-same}
use Rattle.qc_soundness.proofs.Children.{needs_from}
use Rattle.qc_soundness.proofs.Leaves.{is_immediate-same, is_register-same}
use Rattle.qc_soundness.proofs.Needs.{inputs_needed}
use Rattle.qc_soundness.proofs.Optional.{and_both, map_parts, numbers, or_either}
use Rattle.qc_soundness.proofs.Patterns.{inputs_met, is_number-same}

-- ---- no more than in the parts

-- how often the input is read in the parts of which a test holds
abbrev inputs_where : (Pair → Bool) → List Pair → ℕ
inputs_where test [] = 0
inputs_where test (x ∷ xs) = cond (test x) (inputs_in x.part) 0 + inputs_where test xs

-- the register of an operand of this number or a higher one
abbrev is_from_place : ℕ → Place → Bool
is_from_place number (place.Operand space n) = nat_le number n
is_from_place number (place.Cell space index) = false

abbrev is_from : ℕ → Leaf → Bool
is_from number (leaf.Register p width) = is_from_place number p
is_from number _ = false

from_next : (number : ℕ) (x : Leaf) → is_from (number + 1) x ≡ true → is_from number x ≡ true
from_next number (leaf.Register (place.Operand space n) width) e = grind (arith, e)
from_next number (leaf.Register (place.Cell space index) width) e = e
from_next number (leaf.Immediate operand width) e = e
from_next number (leaf.Extended op operand width) e = e

from_here : (number : ℕ) (x : Leaf) → is_register_leaf number x ≡ true → (is_from number x ≡ true) × (is_from (number + 1) x ≡ false)
from_here number (leaf.Register (place.Operand space n) width) e = let same : number ≡ n = numbers number n e in (grind (arith, same), grind (arith, same))
from_here number (leaf.Register (place.Cell space index) width) e = absurd (cc e)
from_here number (leaf.Immediate operand width) e = absurd (cc e)
from_here number (leaf.Extended op operand width) e = absurd (cc e)

abbrev from : ℕ → Pair → Bool
from number x = is_from number x.leaf

more_from : (number : ℕ) (x : Pair) → cond (from (number + 1) x) (inputs_in x.part) 0 ≤ cond (from number x) (inputs_in x.part) 0
more_from number x = go (from (number + 1) x) refl
  where
    go : (b : Bool) → from (number + 1) x ≡ b → cond b (inputs_in x.part) 0 ≤ cond (from number x) (inputs_in x.part) 0
    go true is = subst (λ b. inputs_in x.part ≤ cond b (inputs_in x.part) 0) (sym (from_next number x.leaf is)) (omega arith)
    go false is = omega arith

fewer_from : (number : ℕ) (xs : List Pair) → inputs_where (from (number + 1)) xs ≤ inputs_where (from number) xs
fewer_from number [] = omega arith
fewer_from number (x ∷ xs) = let one = more_from number x in let rest = fewer_from number xs in omega (arith, one, rest)

first_from : (number : ℕ) (xs : List Pair) (x : Pair) → find (λ (p : Pair). is_register_leaf number p.leaf) xs ≡ Some x →
    inputs_in x.part + inputs_where (from (number + 1)) xs ≤ inputs_where (from number) xs
first_from number [] x found = absurd (cc found)
first_from number (y ∷ ys) x found = go (is_register_leaf number y.leaf) refl found (λ later. first_from number ys x later)
  where
    go : (b : Bool) → is_register_leaf number y.leaf ≡ b → cond b (Some y) (find (λ (p : Pair). is_register_leaf number p.leaf) ys) ≡ Some x →
        (find (λ (p : Pair). is_register_leaf number p.leaf) ys ≡ Some x → inputs_in x.part + inputs_where (from (number + 1)) ys ≤ inputs_where (from number) ys) →
        inputs_in x.part + inputs_where (from (number + 1)) (y ∷ ys) ≤ inputs_where (from number) (y ∷ ys)
    go true is found deep =
        let same : y ≡ x = same_Some y x found in
        let both = from_here number y.leaf is in
        let here : cond (from number y) (inputs_in y.part) 0 ≡ inputs_in y.part = ap (λ b. cond b (inputs_in y.part) 0) both.0 in
        let there : cond (from (number + 1) y) (inputs_in y.part) 0 ≡ 0 = ap (λ b. cond b (inputs_in y.part) 0) both.1 in
        let equal : inputs_in x.part ≡ inputs_in y.part = ap (λ (p : Pair). inputs_in p.part) (sym same) in
        let rest = fewer_from number ys in omega (arith, here, there, equal, rest)
    go false is found deep = let rest = deep found in let one = more_from number y in omega (arith, rest, one)

children_inputs : (number : ℕ) (stands : List Stand) (pairs : List Pair) (inner : List Need) → child_needs number stands pairs ≡ Some inner →
    inputs_needed inner ≤ inputs_where (from number) pairs
children_inputs number [] pairs inner e = let same : [] ≡ inner = let it : Some [] ≡ Some inner = e in cc in subst (λ ns. inputs_needed ns ≤ inputs_where (from number) pairs) same (omega arith)
children_inputs number (stand ∷ stands) pairs inner e =
    let it = needs_from number stand stands pairs inner e in
    let deep = children_inputs (number + 1) stands pairs it.rest it.are in
    elim it.is [
      | inl child ↦
          let one = map_parts (λ (p : Pair). p.part) (find (λ (p : Pair). is_register_leaf number p.leaf) pairs) child.1 child.2 in
          let first = first_from number pairs one.0 one.1 in
          let equal : inputs_in child.1 ≡ inputs_in (one.0).part = ap inputs_in (sym one.2) in
          subst (λ ns. inputs_needed ns ≤ inputs_where (from number) pairs) (sym child.3) (omega (arith, first, deep, equal))
      | inr none ↦ subst (λ ns. inputs_needed ns ≤ inputs_where (from number) pairs) (sym none.1) (let less = fewer_from number pairs in omega (arith, deep, less))
    ]

abbrev flagged : Machine → Pair → Bool
flagged m x = is_flag_leaf m x.leaf

first_flag : (m : Machine) (xs : List Pair) (x : Pair) → find (λ (p : Pair). is_flag_leaf m p.leaf) xs ≡ Some x → inputs_in x.part ≤ inputs_where (flagged m) xs
first_flag m [] x found = absurd (cc found)
first_flag m (y ∷ ys) x found = go (is_flag_leaf m y.leaf) refl found (λ later. first_flag m ys x later)
  where
    go : (b : Bool) → is_flag_leaf m y.leaf ≡ b → cond b (Some y) (find (λ (p : Pair). is_flag_leaf m p.leaf) ys) ≡ Some x →
        (find (λ (p : Pair). is_flag_leaf m p.leaf) ys ≡ Some x → inputs_in x.part ≤ inputs_where (flagged m) ys) → inputs_in x.part ≤ inputs_where (flagged m) (y ∷ ys)
    go true is found deep =
        let equal : inputs_in x.part ≡ inputs_in y.part = ap (λ (p : Pair). inputs_in p.part) (sym (same_Some y x found)) in
        let here : cond (flagged m y) (inputs_in y.part) 0 ≡ inputs_in y.part = ap (λ b. cond b (inputs_in y.part) 0) is in
        omega (arith, here, equal)
    go false is found deep = let rest = deep found in omega (arith, rest)

apart_leaf : (m : Machine) (x : Leaf) → is_from 0 x ≡ true → is_flag_leaf m x ≡ false
apart_leaf m (leaf.Register (place.Operand space n) width) e = refl
apart_leaf m (leaf.Register (place.Cell space index) width) e = absurd (cc e)
apart_leaf m (leaf.Immediate operand width) e = absurd (cc e)
apart_leaf m (leaf.Extended op operand width) e = absurd (cc e)

both_where : (m : Machine) (xs : List Pair) → inputs_where (from 0) xs + inputs_where (flagged m) xs ≤ inputs_met xs
both_where m [] = omega arith
both_where m (x ∷ xs) = go (from 0 x) refl (both_where m xs)
  where
    go : (b : Bool) → from 0 x ≡ b → inputs_where (from 0) xs + inputs_where (flagged m) xs ≤ inputs_met xs →
        (cond b (inputs_in x.part) 0 + inputs_where (from 0) xs) + (cond (flagged m x) (inputs_in x.part) 0 + inputs_where (flagged m) xs) ≤ inputs_in x.part + inputs_met xs
    go true is rest =
        let none : cond (flagged m x) (inputs_in x.part) 0 ≡ 0 = ap (λ b. cond b (inputs_in x.part) 0) (apart_leaf m x.leaf is) in
        omega (arith, none, rest)
    go false is rest = by (flagged m x)
      where
        by : (f : Bool) → (0 + inputs_where (from 0) xs) + (cond f (inputs_in x.part) 0 + inputs_where (flagged m) xs) ≤ inputs_in x.part + inputs_met xs
        by true = omega (arith, rest)
        by false = omega (arith, rest)

-- the input that children read, where a flag's child reads so much
abbrev pub flag_inputs : Option Pair → ℕ
flag_inputs None = 0
flag_inputs (Some x) = inputs_in x.part

pub inputs_at_most : (m : Machine) (stands : List Stand) (pairs : List Pair) (inner : List Need) → child_needs 0 stands pairs ≡ Some inner →
    inputs_needed inner + flag_inputs (flag_pair m pairs) ≤ inputs_met pairs
inputs_at_most m stands pairs inner e =
    let one = children_inputs 0 stands pairs inner e in
    let two = both_where m pairs in
    go (flag_pair m pairs) refl one two
  where
    go : (it : Option Pair) → flag_pair m pairs ≡ it → inputs_needed inner ≤ inputs_where (from 0) pairs → inputs_where (from 0) pairs + inputs_where (flagged m) pairs ≤ inputs_met pairs →
        inputs_needed inner + flag_inputs it ≤ inputs_met pairs
    go None is one two = omega (arith, one, two)
    go (Some x) is one two = let three = first_flag m pairs x is in omega (arith, one, two, three)

-- ---- no fewer

-- a child's part is needed
child_part : (number : ℕ) (stands : List Stand) (pairs : List Pair) (inner : List Need) → child_needs number stands pairs ≡ Some inner → (j : ℕ) → slice_get stands j ≡ Some Child →
    (v : Tree) → register_part (number + j) pairs ≡ Some v → inputs_in v ≤ inputs_needed inner
child_part number [] pairs inner e j is v part = absurd (let no : None ≡ Some Child = is in cc no)
child_part number (stand ∷ stands) pairs inner e zero is v part =
    let it = needs_from number stand stands pairs inner e in
    elim it.is [
      | inl child ↦
          let plus : number + 0 ≡ number = omega arith in
          let same : child.1 ≡ v = same_Some child.1 v (sym child.2 ∙ ap (λ n. register_part n pairs) (sym plus) ∙ part) in
          let equal : inputs_in child.1 ≡ inputs_in v = ap inputs_in same in
          subst (λ ns. inputs_in v ≤ inputs_needed ns) (sym child.3) (omega (arith, equal))
      | inr none ↦ absurd (let it : Some stand ≡ Some Child = is in let same : stand ≡ Child = cc in let no : true ≡ false = ap is_child (sym same) ∙ none.0 in cc no)
    ]
child_part number (stand ∷ stands) pairs inner e (suc j) is v part =
    let it = needs_from number stand stands pairs inner e in
    let plus : number + suc j ≡ (number + 1) + j = omega arith in
    let deep = child_part (number + 1) stands pairs it.rest it.are j is v (ap (λ n. register_part n pairs) (sym plus) ∙ part) in
    elim it.is [
      | inl child ↦ subst (λ ns. inputs_in v ≤ inputs_needed ns) (sym child.3) (omega (arith, deep))
      | inr none ↦ subst (λ ns. inputs_in v ≤ inputs_needed ns) (sym none.1) deep
    ]

constant_inputs : (t : Tree) → is_constant t ≡ true → inputs_in t ≡ 0
constant_inputs (Number value width) e = refl
constant_inputs (Unary op arg) e = constant_inputs arg e
constant_inputs (Binary op left right) e =
    let parts = and_both (is_constant left) (is_constant right) e in
    let one = constant_inputs left parts.0 in let two = constant_inputs right parts.1 in omega (arith, one, two)
constant_inputs (Register p width) e = refl
constant_inputs (Immediate operand width) e = refl
constant_inputs (Load width address) e = absurd (cc e)
constant_inputs (NextInput width) e = absurd (cc e)
constant_inputs (AddressAfter width) e = refl

number_inputs : (t : Tree) (v : ℕ) → value_in t ≡ Some v → inputs_in t ≡ 0
number_inputs (Number value width) v e = refl
number_inputs (Unary op arg) v e = absurd (cc e)
number_inputs (Binary op left right) v e = absurd (cc e)
number_inputs (Register p width) v e = absurd (cc e)
number_inputs (Immediate operand width) v e = absurd (cc e)
number_inputs (Load width address) v e = absurd (cc e)
number_inputs (NextInput width) v e = absurd (cc e)
number_inputs (AddressAfter width) v e = absurd (cc e)

read_inputs : (m : Machine) (space index width : ℕ) (part : Tree) → is_read_as m space index width part ≡ true → inputs_in part ≡ 0
read_inputs m space index width part e =
    elim (or_either (is_register (place.Cell space index) width part) (is_zero m space index && is_number 0 width part) e) [
      | inl same ↦ ap inputs_in (is_register-same (place.Cell space index) width part same)
      | inr zeros ↦ ap inputs_in (is_number-same 0 width part (and_both (is_zero m space index) (is_number 0 width part) zeros).1)
    ]

computed_inputs : (first : Option Tree) (width : ℕ) (part : Tree) (bound : ℕ) → is_computed first width part ≡ true → ((v : Tree) → first ≡ Some v → inputs_in v ≤ bound) → inputs_in part ≤ bound
computed_inputs None width part bound e below = absurd (let parts = and_both (nat_eq width (width_of part)) false e in let no : false ≡ true = parts.1 in cc no)
computed_inputs (Some v) width part bound e below =
    let parts = and_both (nat_eq width (width_of part)) (same_tree part v) e in
    subst (λ t. inputs_in t ≤ bound) (sym (same_tree-same part v parts.1)) (below v refl)

module _ (m : Machine) (target : Option ℕ) (stands : List Stand) (pairs : List Pair) (inner : List Need) (needs : child_needs 0 stands pairs ≡ Some inner) where
  operand_inputs : (space number width : ℕ) (part : Tree) (it : Option Stand) → slice_get stands number ≡ it → operand_meets m pairs space number width part it ≡ true →
      inputs_in part ≤ inputs_needed inner
  operand_inputs space number width part None is e = absurd (cc e)
  operand_inputs space number width part (Some Own) is e = absurd (cc e)
  operand_inputs space number width part (Some Spare) is e = absurd (cc e)
  operand_inputs space number width part (Some (Constant t)) is e = absurd (cc e)
  operand_inputs space number width part (Some (Param n)) is e =
      let none : inputs_in part ≡ 0 = ap inputs_in (is_register-same (place.Operand space n) width part e) in omega (arith, none)
  operand_inputs space number width part (Some (Cell other index)) is e = let none = read_inputs m other index width part e in omega (arith, none)
  operand_inputs space number width part (Some Child) is e =
      computed_inputs (register_part number pairs) width part (inputs_needed inner) e
      (λ v first. child_part 0 stands pairs inner needs number is v (ap (λ n. register_part n pairs) (let plus : 0 + number ≡ number = omega arith in plus) ∙ first))

  leaf_inputs : (x : Leaf) (part : Tree) → leaf_meets m target stands pairs x part ≡ true → inputs_in part ≤ inputs_needed inner + flag_inputs (flag_pair m pairs)
  leaf_inputs (leaf.Register (place.Operand space number) width) part e =
      let it = operand_inputs space number width part (slice_get stands number) refl e in omega (arith, it)
  leaf_inputs (leaf.Register (place.Cell space index) width) part e = go (has_flags m space) e
    where
      flag : (it : Option Pair) → is_flag_of it (leaf.Register (place.Cell space index) width) width part ≡ true → inputs_in part ≤ inputs_needed inner + flag_inputs it
      flag None e = absurd (cc e)
      flag (Some first) e =
          let parts = and_both (is_same_leaf first.leaf (leaf.Register (place.Cell space index) width)) (is_computed (Some first.part) width part) e in
          computed_inputs (Some first.part) width part (inputs_needed inner + inputs_in first.part) parts.1
          (λ v same. let equal : inputs_in first.part ≡ inputs_in v = ap inputs_in (same_Some first.part v same) in omega (arith, equal))

      go : (b : Bool) → cond b (is_flag_of (flag_pair m pairs) (leaf.Register (place.Cell space index) width) width part) (is_read_as m space index width part) ≡ true →
          inputs_in part ≤ inputs_needed inner + flag_inputs (flag_pair m pairs)
      go true e = flag (flag_pair m pairs) e
      go false e = let none = read_inputs m space index width part e in omega (arith, none)
  leaf_inputs (leaf.Immediate operand width) part e = go (slice_get stands operand) e
    where
      go : (it : Option Stand) → immediate_meets target width part it ≡ true → inputs_in part ≤ inputs_needed inner + flag_inputs (flag_pair m pairs)
      go None e = absurd (cc e)
      go (Some Own) e = absurd (cc e)
      go (Some Spare) e = absurd (cc e)
      go (Some Child) e = absurd (cc e)
      go (Some (Cell a b)) e = absurd (cc e)
      go (Some (Param n)) e = let none : inputs_in part ≡ 0 = ap inputs_in (is_immediate-same n width part e) in omega (arith, none)
      go (Some (Constant t)) e =
          let parts = and_both (is_constant part) (nat_eq width (width_of part) && (not (names_target target part) && same_tree t part)) e in
          let none = constant_inputs part parts.0 in omega (arith, none)
  leaf_inputs (leaf.Extended op operand width) part e = go (slice_get stands operand) e
    where
      literal : (t : Tree) (it : Option ℕ) → value_in part ≡ it → is_extended op width t part it ≡ true → inputs_in part ≡ 0
      literal t None is e = absurd (cc e)
      literal t (Some v) is e = number_inputs part v is

      go : (it : Option Stand) → extended_meets op width part it ≡ true → inputs_in part ≤ inputs_needed inner + flag_inputs (flag_pair m pairs)
      go None e = absurd (cc e)
      go (Some Own) e = absurd (cc e)
      go (Some Spare) e = absurd (cc e)
      go (Some Child) e = absurd (cc e)
      go (Some (Cell a b)) e = absurd (cc e)
      go (Some (Param n)) e = absurd (cc e)
      go (Some (Constant t)) e = let none = literal t (value_in part) refl e in omega (arith, none)

  -- where no child reads the input, no part does
  pub inputs_nowhere : (xs : List Pair) → list_all (λ (x : Pair). leaf_meets m target stands pairs x.leaf x.part) xs ≡ true →
      inputs_needed inner + flag_inputs (flag_pair m pairs) ≡ 0 → inputs_met xs ≡ 0
  inputs_nowhere [] all none = refl
  inputs_nowhere (x ∷ xs) all none =
      let test : Pair → Bool = λ x. leaf_meets m target stands pairs x.leaf x.part in
      let parts = and_both (test x) (list_all test xs) all in
      let one = leaf_inputs x.leaf x.part parts.0 in
      let rest = inputs_nowhere xs parts.1 none in
      omega (arith, one, rest, none)
