-- What the program finds equal is the same.
use Rattle.std.proofs.Common.{rules, arith, ◌≡◌, ◌∙◌, ◌&&◌, Bool, true, false, refl, ap, nat_eq, inl, inr, List, [], ◌∷◌, ℕ}
use Rattle.std.specs.Bool.{beq}
use Rattle.std.proofs.lemmas.Bool.{and_parts}
use denote.Struct.Field.{Field}
use denote.Struct.Values.{Values}
use denote.Enum.Compared.{Each, by}
use denote.Enum.Declared.{Choice, values_one}
use Rattle.qc_words.specs.declared.operator.Op.{Op}
use Rattle.qc_words.specs.contracts.operator.Op as op
use Rattle.qc_words.specs.contracts.operator.OpPartialEq.TheImpl as op_eq
use Rattle.qc_terms.specs.declared.term.Place.{Place}
use Rattle.qc_terms.specs.declared.term.Place.TheVariants.{Cell, Operand}
use Rattle.qc_terms.specs.contracts.term.PlacePartialEq.TheImpl as place_eq
use Rattle.qc_pool.specs.declared.node.Node.{Node}
use Rattle.qc_pool.specs.declared.node.Node.TheVariants.{Num, Un, Bin, Reg, Imm, Mem, Input, After}
use Rattle.qc_pool.specs.declared.node.Entry.{Entry}
use Rattle.qc_pool.specs.contracts.node.NodePartialEq.TheImpl as node_eq
use Rattle.qc_pool.specs.contracts.node.EntryPartialEq.TheImpl as entry_eq

-- where each variant's test shows its parts equal, so does the whole test
abbrev Exact : (Fss : List (List Field)) → Each Bool Fss → Type 0
Exact [] each = Unit {0}
Exact (Fs ∷ Fss) each = ((x y : Values Fs) → each.0 x y ≡ true → x ≡ y) × Exact Fss each.1

by_exact : (Fss : List (List Field)) (each : Each Bool Fss) → Exact Fss each → (c d : Choice Fss) →
    by false false Fss each c d ≡ true → c ≡ d
by_exact [] each exact c d h = absurd c
by_exact (Fs ∷ Fss) each exact (inl x) (inl y) h = ap inl (exact.0 x y h)
by_exact (Fs ∷ Fss) each exact (inl x) (inr y) h = cc h
by_exact (Fs ∷ Fss) each exact (inr x) (inl y) h = cc h
by_exact (Fs ∷ Fss) each exact (inr x) (inr y) h = ap inr (by_exact Fss each.1 exact.1 x y h)

number : (x y : ℕ) → nat_eq x y ≡ true → x ≡ y
number x y h = grind (arith, rules)

numbers : (v w x y : ℕ) → (nat_eq v x && nat_eq w y) ≡ true → (v ≡ x) × (w ≡ y)
numbers v w x y h = let t = and_parts (nat_eq v x) (nat_eq w y) h in (number v x t.0, number w y t.1)

one_number : (x y : ℕ × Unit {0}) → nat_eq x.0 y.0 ≡ true → x ≡ y
one_number x y h = ap (λ n. (n, tt)) (number x.0 y.0 h)

two_numbers : (x y : ℕ × (ℕ × Unit {0})) → (nat_eq x.0 y.0 && nat_eq x.1.0 y.1.0) ≡ true → x ≡ y
two_numbers x y h = let t = numbers x.0 x.1.0 y.0 y.1.0 h in
    ap (λ n. (n, x.1)) t.0 ∙ ap (λ n. (y.0, (n, tt))) t.1

op_each : Each Bool op.enum.parts
op_each = (
  λ x y. true,
  (
    λ x y. true,
    (
      λ x y. true,
      (
        λ x y. true,
        (
          λ x y. true,
          (
            λ x y. true,
            (
              λ x y. true,
              (
                λ x y. true,
                (
                  λ x y. true,
                  (
                    λ x y. true,
                    (
                      λ x y. true,
                      (
                        λ x y. true,
                        (
                          λ x y. true,
                          (
                            λ x y. true,
                            (
                              λ x y. true,
                              (
                                λ x y. true,
                                (
                                  λ x y. true,
                                  (
                                    λ x y. true,
                                    (
                                      λ x y. true,
                                      (
                                        λ x y. true,
                                        (
                                          λ x y. true,
                                          (
                                            λ x y. nat_eq x.0 y.0,
                                            (
                                              λ x y. nat_eq x.0 y.0,
                                              (
                                                λ x y. nat_eq x.0 y.0 && nat_eq x.1.0 y.1.0,
                                                tt,
                                              ),
                                            ),
                                          ),
                                        ),
                                      ),
                                    ),
                                  ),
                                ),
                              ),
                            ),
                          ),
                        ),
                      ),
                    ),
                  ),
                ),
              ),
            ),
          ),
        ),
      ),
    ),
  ),
)

op_exact : Exact op.enum.parts op_each
unfolding op_each
op_exact = (
  λ x y h. refl,
  (
    λ x y h. refl,
    (
      λ x y h. refl,
      (
        λ x y h. refl,
        (
          λ x y h. refl,
          (
            λ x y h. refl,
            (
              λ x y h. refl,
              (
                λ x y h. refl,
                (
                  λ x y h. refl,
                  (
                    λ x y h. refl,
                    (
                      λ x y h. refl,
                      (
                        λ x y h. refl,
                        (
                          λ x y h. refl,
                          (
                            λ x y h. refl,
                            (
                              λ x y h. refl,
                              (
                                λ x y h. refl,
                                (
                                  λ x y h. refl,
                                  (
                                    λ x y h. refl,
                                    (
                                      λ x y h. refl,
                                      (
                                        λ x y h. refl,
                                        (
                                          λ x y h. refl,
                                          (
                                            one_number,
                                            (
                                              one_number,
                                              (
                                                two_numbers,
                                                tt,
                                              ),
                                            ),
                                          ),
                                        ),
                                      ),
                                    ),
                                  ),
                                ),
                              ),
                            ),
                          ),
                        ),
                      ),
                    ),
                  ),
                ),
              ),
            ),
          ),
        ),
      ),
    ),
  ),
)

pub same_op : (a b : Op) → (op_eq.ghosts).eq a b ≡ true → a ≡ b
unfolding op_each
same_op a b h = values_one op.enum a b (by_exact op.enum.parts op_each op_exact (op.enum.as_values a) (op.enum.as_values b) h)

same_place : (a b : Place) → (place_eq.ghosts).eq a b ≡ true → a ≡ b
same_place (Cell s i) (Cell t j) h = let e = numbers s i t j h in cc (e.0, e.1)
same_place (Operand s i) (Operand t j) h = let e = numbers s i t j h in cc (e.0, e.1)
same_place (Cell s i) (Operand t j) h = cc h
same_place (Operand s i) (Cell t j) h = cc h

same_node : (a b : Node) → (node_eq.ghosts).eq a b ≡ true → a ≡ b
same_node (Num v w) (Num x y) h = let e = numbers v w x y h in cc (e.0, e.1)
same_node (Un o a) (Un p b) h =
    let t = and_parts ((op_eq.ghosts).eq o p) (nat_eq a b) h in
    let e = same_op o p t.0 in
    let f = number a b t.1 in
    cc (e, f)
same_node (Bin o a b) (Bin p x y) h =
    let t = and_parts ((op_eq.ghosts).eq o p) (nat_eq a x && nat_eq b y) h in
    let u = numbers a b x y t.1 in
    let e = same_op o p t.0 in
    cc (e, u.0, u.1)
same_node (Reg o w) (Reg p y) h =
    let t = and_parts ((place_eq.ghosts).eq o p) (nat_eq w y) h in
    let e = same_place o p t.0 in
    let f = number w y t.1 in
    cc (e, f)
same_node (Imm v w) (Imm x y) h = let e = numbers v w x y h in cc (e.0, e.1)
same_node (Mem v w) (Mem x y) h = let e = numbers v w x y h in cc (e.0, e.1)
same_node (Input w) (Input y) h = let e = number w y h in cc e
same_node (After w) (After y) h = let e = number w y h in cc e
same_node _ _ h = cc h

entry : Node → ℕ → Bool → Entry
entry node width constant = record { node = node; width = width; constant = constant }

same_bool : (a b : Bool) → beq a b ≡ true → a ≡ b
same_bool true true h = refl
same_bool false false h = refl
same_bool _ _ h = cc h

pub same_entry : (a b : Entry) → (entry_eq.ghosts).eq a b ≡ true → a ≡ b
unfolding entry
same_entry a b h =
    let t = and_parts ((node_eq.ghosts).eq a.node b.node) (nat_eq a.width b.width && beq a.constant b.constant) h in
    let u = and_parts (nat_eq a.width b.width) (beq a.constant b.constant) t.1 in
    ap (λ n. entry n a.width a.constant) (same_node a.node b.node t.0)
    ∙ ap (λ w. entry b.node w a.constant) (number a.width b.width u.0)
    ∙ ap (λ c. entry b.node b.width c) (same_bool a.constant b.constant u.1)
