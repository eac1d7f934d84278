-- The needs and slots of a node's children.
use Rattle.std.proofs.Common.{◌≡◌, ◌∙◌, ◌⊎◌, ◌+◌, ◌≤◌, ◌<◌, ℕ, suc, List, [], ◌∷◌, length, Bool, true, false, cond, Option, None, Some, slice_get, find, inl, inr, refl, sym, ap, subst, arith}
use Rattle.std.specs.List.{AllByRecursion}
use Rattle.std.specs.Option.{option_map}
use Rattle.std.proofs.lemmas.Option.{same_Some, slice_get-get_or, slice_get_within}
use Rattle.qc_terms.specs.Tree.{Tree}
use Rattle.qc_descr.specs.declared.description.OperandKind.{OperandKind}
use Rattle.qc_code.specs.declared.template.Slot.{Slot}
use Rattle.qc_code.specs.declared.template.Slot.TheVariants as slot
use Rattle.qc_derivations.specs.Forest.{Cell, Child, Constant, Own, Param, Spare, Stand}
use Rattle.qc_derivations.specs.Goals.{InRegister, Need}
use Rattle.qc_derivations.specs.Machine.{Machine, machine_of}
use Rattle.qc_derivations.specs.Matching.{Pair}
use Rattle.qc_derivations.specs.Nodes.{child_needs, is_child}
use Rattle.qc_derivations.specs.Rules.{is_register_leaf, is_written, operands_suit, register_part, suits_if_there}
use Rattle.qc_derivations.specs.Sequence.{child_slots, scratches_at, scratches_from, slot_if_there, slots_from}
use Rattle.qc_soundness.proofs.LeafValues.{NodeLine, Suits, line_high}
use Rattle.qc_soundness.proofs.Needs.{AreRegisters, IsEnd, NeedHolds, SuitAll}
use Rattle.qc_soundness.proofs.Optional.{and_both, map_parts, numbers, then_parts}
use Rattle.qc_soundness.proofs.Patterns.{PartHolds}
use Rattle.qc_soundness.proofs.Scene.{Scene}

-- what is found in a list has what all of it have
pub found_holds : (Holds : Pair → Type 0) (test : Pair → Bool) (xs : List Pair) (x : Pair) → AllByRecursion Holds xs → find test xs ≡ Some x → Holds x
found_holds Holds test [] x all found = absurd (cc found)
found_holds Holds test (y ∷ ys) x all found = go (test y) found (λ later. found_holds Holds test ys x all.1 later)
  where
    go : (b : Bool) → cond b (Some y) (find test ys) ≡ Some x → (find test ys ≡ Some x → Holds x) → Holds x
    go true found later = subst Holds (same_Some y x found) all.0
    go false found later = later found

pub part_holds : (Holds : Tree → Type 0) (number : ℕ) (pairs : List Pair) (v : Tree) → AllByRecursion (PartHolds Holds) pairs → register_part number pairs ≡ Some v → Holds v
part_holds Holds number pairs v all is =
    let it = map_parts (λ (p : Pair). p.part) (find (λ (p : Pair). is_register_leaf number p.leaf) pairs) v is in
    subst Holds it.2 (found_holds (PartHolds Holds) (λ (p : Pair). is_register_leaf number p.leaf) pairs it.0 all it.1)

-- an operand's child, or none, and the others
pub record IsNeedsFrom (number : ℕ) (stand : Stand) (stands : List Stand) (pairs : List Pair) (inner : List Need) : Type 0 where
  pub rest : List Need
  pub are : child_needs (number + 1) stands pairs ≡ Some rest
  pub is : ((stand ≡ Child) × (v : Tree) × (register_part number pairs ≡ Some v) × (inner ≡ InRegister v ∷ rest)) ⊎ ((is_child stand ≡ false) × (inner ≡ rest))

pub needs_from : (number : ℕ) (stand : Stand) (stands : List Stand) (pairs : List Pair) (inner : List Need) → child_needs number (stand ∷ stands) pairs ≡ Some inner →
    IsNeedsFrom number stand stands pairs inner
needs_from number Child stands pairs inner e =
    let one = then_parts (λ (t : Tree). option_map (λ (ns : List Need). InRegister t ∷ ns) (child_needs (number + 1) stands pairs)) (register_part number pairs) inner e in
    let two = map_parts (λ (ns : List Need). InRegister one.0 ∷ ns) (child_needs (number + 1) stands pairs) inner one.2 in
    record { rest = two.0; are = two.1; is = inl (refl, one.0, one.1, sym two.2) }
needs_from number Own stands pairs inner e = record { rest = inner; are = e; is = inr (refl, refl) }
needs_from number Spare stands pairs inner e = record { rest = inner; are = e; is = inr (refl, refl) }
needs_from number (Param n) stands pairs inner e = record { rest = inner; are = e; is = inr (refl, refl) }
needs_from number (Cell s i) stands pairs inner e = record { rest = inner; are = e; is = inr (refl, refl) }
needs_from number (Constant t) stands pairs inner e = record { rest = inner; are = e; is = inr (refl, refl) }

-- what all parts have, all needs of children have
pub child_needs_hold : (Holds : Tree → Type 0) (number : ℕ) (stands : List Stand) (pairs : List Pair) (inner : List Need) → AllByRecursion (PartHolds Holds) pairs →
    child_needs number stands pairs ≡ Some inner → AllByRecursion (NeedHolds Holds) inner × AreRegisters inner
child_needs_hold Holds number [] pairs inner all e =
    let same : [] ≡ inner = let it : Some [] ≡ Some inner = e in cc in
    subst (λ ns. AllByRecursion (NeedHolds Holds) ns × AreRegisters ns) same (tt, tt)
child_needs_hold Holds number (stand ∷ stands) pairs inner all e =
    let it = needs_from number stand stands pairs inner e in
    let deep = child_needs_hold Holds (number + 1) stands pairs it.rest all it.are in
    elim it.is [
      | inl child ↦ subst (λ ns. AllByRecursion (NeedHolds Holds) ns × AreRegisters ns) (sym child.3)
          ((part_holds Holds number pairs child.1 all child.2, deep.0), deep.1)
      | inr none ↦ subst (λ ns. AllByRecursion (NeedHolds Holds) ns × AreRegisters ns) (sym none.1) deep
    ]

-- ---- slots

-- there are as many kinds as stands
pub same_length : (suits : ℕ → OperandKind → Stand → Bool) (stands : List Stand) (number : ℕ) (kinds : List OperandKind) → operands_suit suits stands number kinds ≡ true →
    number + length kinds ≡ length stands
same_length suits stands number [] all = let e = numbers number (length stands) all in omega (arith, e)
same_length suits stands number (k ∷ kinds) all =
    let parts = and_both (suits_if_there suits number k (slice_get stands number)) (operands_suit suits stands (number + 1) kinds) all in
    let deep = same_length suits stands (number + 1) kinds parts.1 in omega (arith, deep)

-- a child that is computed into the node's own register
abbrev pub IsTied : NodeLine → ℕ → Type 0
IsTied l j = (slice_get l.stands j ≡ Some Child) × (is_written j l.form.assignments ≡ true)

-- at most one child is, and the own register is then a scratch of a lower number
pub record TiesOnce (c : Scene) (l : NodeLine) : Type 0 where
  pub own : (j : ℕ) → IsTied l j → (k : ℕ) × (l.own ≡ slot.Scratch k) × (k < l.scratch)
  pub once : (i j : ℕ) → IsTied l i → IsTied l j → i ≡ j

-- where the child's own scratch is
abbrev pub IsChildEnd : NodeLine → (scratch high number k : ℕ) → Type 0
IsChildEnd l scratch high number k = ((scratch ≤ k) × (k < high)) ⊎ ((l.own ≡ slot.Scratch k) × (j : ℕ) × (number ≤ j) × IsTied l j)

pub record AreChildren (c : Scene) (l : NodeLine) (inner : List Need) (owns : List Slot) (scratch high number : ℕ) : Type 0 where
  pub suit : SuitAll c inner owns (line_high c l)
  pub ends : (k : ℕ) → IsEnd inner owns k → IsChildEnd l scratch high number k

pub kind_there : (c : Scene) (l : NodeLine) (number : ℕ) (stand : Stand) → Suits c l → slice_get l.stands number ≡ Some stand → (k : OperandKind) × (slice_get l.form.kinds number ≡ Some k)
kind_there c l number stand suits is = go (slice_get l.form.kinds number) refl
  where
    go : (it : Option OperandKind) → slice_get l.form.kinds number ≡ it → (k : OperandKind) × (slice_get l.form.kinds number ≡ Some k)
    go (Some k) same = (k, same)
    go None same = absurd (cut l.form.kinds same (let lengths = same_length _ l.stands 0 l.form.kinds suits in
        let within = slice_get_within l.stands number stand is in omega (arith, lengths, within)))
      where
        cut : (ks : List OperandKind) → slice_get ks number ≡ None → number < length ks → ⊥
        cut [] none below = omega (arith, below)
        cut (k ∷ ks) none below = let there : slice_get (k ∷ ks) number ≡ Some _ = slice_get-get_or (k ∷ ks) number k below in let no : None ≡ Some _ = sym none ∙ there in cc no

more : (l : NodeLine) (number scratch used rest k : ℕ) → IsChildEnd l (scratch + used) ((scratch + used) + rest) (number + 1) k → IsChildEnd l scratch (scratch + (used + rest)) number k
more l number scratch used rest k (inl between) = inl (omega (arith, between.0), omega (arith, between.1))
more l number scratch used rest k (inr tied) = inr (tied.0, tied.1, omega (arith, tied.2), tied.3)

other : (stands : List Stand) (stand : Stand) → is_child stand ≡ false → (s : Slot) (slots : List Slot) → child_slots (stand ∷ stands) (s ∷ slots) ≡ child_slots stands slots
other stands Own none s slots = refl
other stands Spare none s slots = refl
other stands Child none s slots = absurd (cc none)
other stands (Param n) none s slots = refl
other stands (Cell a b) none s slots = refl
other stands (Constant t) none s slots = refl

-- a child before others
child_are : (c : Scene) (l : NodeLine) (number scratch : ℕ) (stands : List Stand) (rest : List Need) (v : Tree) (k : OperandKind) → slice_get l.form.kinds number ≡ Some k →
    TiesOnce c l → l.scratch ≤ scratch → slice_get l.stands number ≡ Some Child → (written : Bool) → is_written number l.form.assignments ≡ written →
    scratch + (scratches_at (machine_of c.d) (is_written number l.form.assignments) Child + scratches_from (machine_of c.d) l.form.assignments (number + 1) stands) ≤ line_high c l →
    AreChildren c l rest
    (child_slots stands (slots_from (machine_of c.d) l.form.assignments l.form.kinds l.own (number + 1) (scratch + scratches_at (machine_of c.d) (is_written number l.form.assignments) Child) stands))
    (scratch + scratches_at (machine_of c.d) (is_written number l.form.assignments) Child)
    ((scratch + scratches_at (machine_of c.d) (is_written number l.form.assignments) Child) + scratches_from (machine_of c.d) l.form.assignments (number + 1) stands) (number + 1) →
    AreChildren c l (InRegister v ∷ rest) (child_slots (Child ∷ stands) (slots_from (machine_of c.d) l.form.assignments l.form.kinds l.own number scratch (Child ∷ stands))) scratch
    (scratch + scratches_from (machine_of c.d) l.form.assignments number (Child ∷ stands)) number
child_are c l number scratch stands rest v k kind ties low is true written high deep =
    let m : Machine = machine_of c.d in
    let tied : IsTied l number = (is, written) in
    let own = ties.own number tied in
    let slot_is : slot_if_there m l.own (is_written number l.form.assignments) scratch Child (slice_get l.form.kinds number) ≡ l.own =
    ap (slot_if_there m l.own (is_written number l.form.assignments) scratch Child) kind ∙ ap (λ b. cond b l.own (slot.Scratch scratch)) written in
    let none : scratches_at m (is_written number l.form.assignments) Child ≡ 0 = ap (λ b. cond b 0 1) written in
    let slots : List Slot = child_slots stands (slots_from m l.form.assignments l.form.kinds l.own (number + 1) (scratch + scratches_at m (is_written number l.form.assignments) Child) stands) in
    subst (λ x. AreChildren c l (InRegister v ∷ rest) (x ∷ slots) scratch (scratch + scratches_from m l.form.assignments number (Child ∷ stands)) number) (sym slot_is)
    (record {
      suit = (
        (own.0, own.1, omega (arith, own.2, low, high)),
        (λ a b mine end same. tied_apart a b mine (deep.ends b end) same own.0 own.1 own.2 tied none),
        deep.suit,
      );
      ends = λ a end. elim end [
        | inl mine ↦ inr (mine, number, omega arith, tied)
        | inr later ↦ more l number scratch (scratches_at m (is_written number l.form.assignments) Child) (scratches_from m l.form.assignments (number + 1) stands) a (deep.ends a later)
      ];
    })
  where
    tied_apart : (a b : ℕ) → l.own ≡ slot.Scratch a →
        IsChildEnd l (scratch + scratches_at (machine_of c.d) (is_written number l.form.assignments) Child) ((scratch + scratches_at (machine_of c.d) (is_written number l.form.assignments) Child) + scratches_from (machine_of c.d) l.form.assignments (number + 1) stands) (number + 1) b →
        a ≡ b → (k0 : ℕ) → l.own ≡ slot.Scratch k0 → k0 < l.scratch → IsTied l number → scratches_at (machine_of c.d) (is_written number l.form.assignments) Child ≡ 0 → ⊥
    tied_apart a b mine (inl between) same k0 own below tied none =
        let equal : k0 ≡ a = let it : slot.Scratch k0 ≡ slot.Scratch a = sym own ∙ mine in cc in
        omega (arith, between.0, same, equal, below, low)
    tied_apart a b mine (inr again) same k0 own below tied none =
        let equal = ties.once number again.1 tied again.3 in omega (arith, again.2, equal)
child_are c l number scratch stands rest v k kind ties low is false written high deep =
    let m : Machine = machine_of c.d in
    let slot_is : slot_if_there m l.own (is_written number l.form.assignments) scratch Child (slice_get l.form.kinds number) ≡ slot.Scratch scratch =
    ap (slot_if_there m l.own (is_written number l.form.assignments) scratch Child) kind ∙ ap (λ b. cond b l.own (slot.Scratch scratch)) written in
    let one : scratches_at m (is_written number l.form.assignments) Child ≡ 1 = ap (λ b. cond b 0 1) written in
    let slots : List Slot = child_slots stands (slots_from m l.form.assignments l.form.kinds l.own (number + 1) (scratch + scratches_at m (is_written number l.form.assignments) Child) stands) in
    subst (λ x. AreChildren c l (InRegister v ∷ rest) (x ∷ slots) scratch (scratch + scratches_from m l.form.assignments number (Child ∷ stands)) number) (sym slot_is)
    (record {
      suit = (
        (scratch, refl, omega (arith, high, one)),
        (λ a b mine end same. fresh_apart a b mine (deep.ends b end) same one),
        deep.suit,
      );
      ends = λ a end. elim end [
        | inl mine ↦
            let equal : scratch ≡ a = let it : slot.Scratch scratch ≡ slot.Scratch a = mine in cc in
            inl (omega (arith, equal), omega (arith, equal, one))
        | inr later ↦ more l number scratch (scratches_at m (is_written number l.form.assignments) Child) (scratches_from m l.form.assignments (number + 1) stands) a (deep.ends a later)
      ];
    })
  where
    fresh_apart : (a b : ℕ) → slot.Scratch scratch ≡ slot.Scratch a →
        IsChildEnd l (scratch + scratches_at (machine_of c.d) (is_written number l.form.assignments) Child) ((scratch + scratches_at (machine_of c.d) (is_written number l.form.assignments) Child) + scratches_from (machine_of c.d) l.form.assignments (number + 1) stands) (number + 1) b →
        a ≡ b → scratches_at (machine_of c.d) (is_written number l.form.assignments) Child ≡ 1 → ⊥
    fresh_apart a b mine (inl between) same one =
        let equal : scratch ≡ a = cc in omega (arith, between.0, same, equal, one)
    fresh_apart a b mine (inr again) same one =
        let own = ties.own again.1 again.3 in
        let first : own.0 ≡ b = let it : slot.Scratch own.0 ≡ slot.Scratch b = sym own.1 ∙ again.0 in cc in
        let second : scratch ≡ a = cc in omega (arith, first, second, same, own.2, low)

pub children_are : (c : Scene) (l : NodeLine) (number scratch : ℕ) (stands : List Stand) (inner : List Need) → Suits c l → TiesOnce c l → l.scratch ≤ scratch →
    scratch + scratches_from (machine_of c.d) l.form.assignments number stands ≤ line_high c l →
    ((j : ℕ) → slice_get stands j ≡ slice_get l.stands (number + j)) → child_needs number stands l.pairs ≡ Some inner →
    AreChildren c l inner (child_slots stands (slots_from (machine_of c.d) l.form.assignments l.form.kinds l.own number scratch stands)) scratch
    (scratch + scratches_from (machine_of c.d) l.form.assignments number stands) number
children_are c l number scratch [] inner suits ties low high shift e =
    let same : [] ≡ inner = let it : Some [] ≡ Some inner = e in cc in
    subst (λ ns. AreChildren c l ns [] scratch (scratch + 0) number) same (record { suit = tt; ends = λ k end. absurd end })
children_are c l number scratch (stand ∷ stands) inner suits ties low high shift e =
    let m : Machine = machine_of c.d in
    let it = needs_from number stand stands l.pairs inner e in
    let used : ℕ = scratches_at m (is_written number l.form.assignments) stand in
    let deep = children_are c l (number + 1) (scratch + used) stands it.rest suits ties (omega (arith, low)) (omega (arith, high))
    (λ j. shift (suc j) ∙ ap (slice_get l.stands) (let plus : number + suc j ≡ (number + 1) + j = omega arith in plus)) it.are in
    let here : slice_get l.stands number ≡ Some stand = ap (slice_get l.stands) (let plus : number ≡ number + 0 = omega arith in plus) ∙ sym (shift 0) in
    elim it.is [
      | inr none ↦
          subst (λ ns. AreChildren c l ns (child_slots (stand ∷ stands) (slots_from m l.form.assignments l.form.kinds l.own number scratch (stand ∷ stands))) scratch
          (scratch + scratches_from m l.form.assignments number (stand ∷ stands)) number) (sym none.1)
          (subst (λ os. AreChildren c l it.rest os scratch (scratch + scratches_from m l.form.assignments number (stand ∷ stands)) number)
          (sym (other stands stand none.0 (slot_if_there m l.own (is_written number l.form.assignments) scratch stand (slice_get l.form.kinds number))
          (slots_from m l.form.assignments l.form.kinds l.own (number + 1) (scratch + used) stands)))
          (record {
            suit = deep.suit;
            ends = λ k end. more l number scratch used (scratches_from m l.form.assignments (number + 1) stands) k (deep.ends k end);
          }))
      | inl child ↦
          let is_there : slice_get l.stands number ≡ Some Child = here ∙ ap Some child.0 in
          let k = kind_there c l number Child suits is_there in
          let built = child_are c l number scratch stands it.rest child.1 k.0 k.1 ties low is_there (is_written number l.form.assignments) refl
          (subst (λ x. scratch + (scratches_at m (is_written number l.form.assignments) x + scratches_from m l.form.assignments (number + 1) stands) ≤ line_high c l) child.0 high)
          (subst (λ x. AreChildren c l it.rest (child_slots stands (slots_from m l.form.assignments l.form.kinds l.own (number + 1) (scratch + scratches_at m (is_written number l.form.assignments) x) stands))
          (scratch + scratches_at m (is_written number l.form.assignments) x) ((scratch + scratches_at m (is_written number l.form.assignments) x) + scratches_from m l.form.assignments (number + 1) stands) (number + 1)) child.0 deep) in
          subst (λ ns. AreChildren c l ns (child_slots (stand ∷ stands) (slots_from m l.form.assignments l.form.kinds l.own number scratch (stand ∷ stands))) scratch
          (scratch + scratches_from m l.form.assignments number (stand ∷ stands)) number) (sym child.3)
          (subst (λ x. AreChildren c l (InRegister child.1 ∷ it.rest) (child_slots (x ∷ stands) (slots_from m l.form.assignments l.form.kinds l.own number scratch (x ∷ stands))) scratch
          (scratch + scratches_from m l.form.assignments number (x ∷ stands)) number) (sym child.0) built)
    ]
