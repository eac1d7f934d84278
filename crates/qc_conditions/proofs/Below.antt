-- What is known of the slots of needs is known of the children's.
use Rattle.std.proofs.Common.{◌≡◌, ◌∙◌, ◌+◌, ◌||◌, ◌&&◌, ℕ, suc, List, [], ◌∷◌, ◌++◌, Bool, true, false, not, cond, Option, None, Some, nat_eq, slice_get, find, if◌then◌else◌, inl, inr, refl, sym, ap, subst, arith}
use Rattle.std.specs.List.{list_all, list_any}
use Rattle.std.specs.Option.{option_map}
use Rattle.qc_terms.specs.declared.term.Place.TheVariants as place
use Rattle.qc_terms.specs.Tree.{Tree}
use Rattle.qc_descr.specs.declared.description.Description.{Description}
use Rattle.qc_descr.specs.declared.description.OperandKind.{OperandKind}
use Rattle.qc_descr.specs.declared.description.OperandKind.TheVariants as kind
use Rattle.qc_code.specs.declared.template.Slot.{Slot}
use Rattle.qc_code.specs.declared.template.Slot.TheVariants as slot
use Rattle.qc_derivations.specs.declared.derivation.Leaf.{Leaf}
use Rattle.qc_derivations.specs.declared.derivation.Leaf.TheVariants as leaf
use Rattle.qc_derivations.specs.Forest.{Cell, Child, Constant, Node, Own, Param, Spare, Stand, is_there}
use Rattle.qc_derivations.specs.Goals.{AsTile, InFlag, InRegister, Need, gets, goals_of, is_root}
use Rattle.qc_derivations.specs.Machine.{Assignment, Destination, Form, Machine, ToCounter, ToHalt, ToMemory, ToOutput, ToPlace, ToTrap, machine_of}
use Rattle.qc_derivations.specs.Matching.{Pair, meets, takes_goal}
use Rattle.qc_derivations.specs.Nodes.{Task, child_needs, flag_need, flag_need_at, is_allowed}
use Rattle.qc_derivations.specs.Rules.{flag_pair, guard_touches, is_flag_leaf, is_free_destination, is_met, is_read, is_spare, is_written, operand_suits, register_part, touches_input_or_memory, writes_operand}
use Rattle.qc_derivations.specs.Sequence.{assignments_in, child_slots, kinds_in, node_slots, own_slots, scratches_at, slot_if_there, slots_from}
use Rattle.qc_conditions.proofs.Lines.{AllOwn, GoesDown}
use Rattle.qc_conditions.proofs.Operands.{flags_same, kind_there, operand_is}
use Rattle.qc_conditions.proofs.Optional.{and_both, map_parts, numbers, or_either, then_parts}
use Rattle.qc_conditions.proofs.Rules.{KeepsRules}
use Rattle.qc_conditions.proofs.Writes.{IsOwnOf, IsScratch, child_goal}

-- ---- the children at operands

-- a child at an operand that is written is computed into a scratch
abbrev pub IsChildAt : List Assignment → List OperandKind → Slot → ℕ → Type 0
IsChildAt assignments kinds own number =
    (k : OperandKind) × (slice_get kinds number ≡ Some k) × (is_written number assignments ≡ true → IsScratch own)

child_slot : (m : Machine) (assignments : List Assignment) (kinds : List OperandKind) (own : Slot) (number scratch : ℕ) → IsChildAt assignments kinds own number →
    IsScratch (slot_if_there m own (is_written number assignments) scratch Child (slice_get kinds number))
child_slot m assignments kinds own number scratch at =
    subst (λ o. IsScratch (slot_if_there m own (is_written number assignments) scratch Child o)) (sym at.1) (go (is_written number assignments) refl)
  where
    go : (b : Bool) → is_written number assignments ≡ b → IsScratch (cond b own (slot.Scratch scratch))
    go true is = at.2 is
    go false is = (scratch, refl)

children_known : (d : Description) (m : Machine) (assignments : List Assignment) (kinds : List OperandKind) (own : Slot) (pairs : List Pair) (more : List Need) (others : List Slot) → AllOwn (IsOwnOf d) more others →
    (number scratch : ℕ) (stands : List Stand) (needs : List Need) → child_needs number stands pairs ≡ Some needs → ((j : ℕ) → slice_get stands j ≡ Some Child → IsChildAt assignments kinds own (number + j)) →
    AllOwn (IsOwnOf d) (needs ++ more) (child_slots stands (slots_from m assignments kinds own number scratch stands) ++ others)
children_known d m assignments kinds own pairs more others known number scratch [] needs e at =
    let same : [] ≡ needs = let it : Some [] ≡ Some needs = e in cc in
    subst (λ ns. AllOwn (IsOwnOf d) (ns ++ more) others) same known
children_known d m assignments kinds own pairs more others known number scratch (Child ∷ stands) needs e at =
    let used : ℕ = scratches_at m (is_written number assignments) Child in
    let one = then_parts (λ (t : Tree). option_map (λ (ns : List Need). InRegister t ∷ ns) (child_needs (number + 1) stands pairs)) (register_part number pairs) needs e in
    let t : Tree = one.0 in
    let two = map_parts (λ (ns : List Need). InRegister t ∷ ns) (child_needs (number + 1) stands pairs) needs one.2 in
    let deep = children_known d m assignments kinds own pairs more others known (number + 1) (scratch + used) stands two.0 two.1
    (λ j is. subst (IsChildAt assignments kinds own) (let plus : number + suc j ≡ (number + 1) + j = omega arith in plus) (at (suc j) is)) in
    let here : IsChildAt assignments kinds own number = subst (IsChildAt assignments kinds own) (let plus : number + 0 ≡ number = omega arith in plus) (at 0 refl) in
    subst (λ ns. AllOwn (IsOwnOf d) (ns ++ more) (child_slots (Child ∷ stands) (slots_from m assignments kinds own number scratch (Child ∷ stands)) ++ others)) two.2
    (child_slot m assignments kinds own number scratch here, deep)
children_known d m assignments kinds own pairs more others known number scratch (Own ∷ stands) needs e at =
    children_known d m assignments kinds own pairs more others known (number + 1) (scratch + scratches_at m (is_written number assignments) Own) stands needs e
    (λ j is. subst (IsChildAt assignments kinds own) (let plus : number + suc j ≡ (number + 1) + j = omega arith in plus) (at (suc j) is))
children_known d m assignments kinds own pairs more others known number scratch (Spare ∷ stands) needs e at =
    children_known d m assignments kinds own pairs more others known (number + 1) (scratch + scratches_at m (is_written number assignments) Spare) stands needs e
    (λ j is. subst (IsChildAt assignments kinds own) (let plus : number + suc j ≡ (number + 1) + j = omega arith in plus) (at (suc j) is))
children_known d m assignments kinds own pairs more others known number scratch (Param n ∷ stands) needs e at =
    children_known d m assignments kinds own pairs more others known (number + 1) (scratch + scratches_at m (is_written number assignments) (Param n)) stands needs e
    (λ j is. subst (IsChildAt assignments kinds own) (let plus : number + suc j ≡ (number + 1) + j = omega arith in plus) (at (suc j) is))
children_known d m assignments kinds own pairs more others known number scratch (Cell a b ∷ stands) needs e at =
    children_known d m assignments kinds own pairs more others known (number + 1) (scratch + scratches_at m (is_written number assignments) (Cell a b)) stands needs e
    (λ j is. subst (IsChildAt assignments kinds own) (let plus : number + suc j ≡ (number + 1) + j = omega arith in plus) (at (suc j) is))
children_known d m assignments kinds own pairs more others known number scratch (Constant t ∷ stands) needs e at =
    children_known d m assignments kinds own pairs more others known (number + 1) (scratch + scratches_at m (is_written number assignments) (Constant t)) stands needs e
    (λ j is. subst (IsChildAt assignments kinds own) (let plus : number + suc j ≡ (number + 1) + j = omega arith in plus) (at (suc j) is))

-- ---- the child for a flag

found_is : (test : Pair → Bool) (xs : List Pair) (x : Pair) → find test xs ≡ Some x → test x ≡ true
found_is test [] x e = absurd (cc e)
found_is test (y ∷ ys) x e = go (test y) refl e (λ later. found_is test ys x later)
  where
    go : (b : Bool) → test y ≡ b → cond b (Some y) (find test ys) ≡ Some x → (find test ys ≡ Some x → test x ≡ true) → test x ≡ true
    go true is e deep = let same : y ≡ x = cc e in subst (λ z. test z ≡ true) same is
    go false is e deep = deep e

flag_known : (d : Description) (pairs : List Pair) (others : List Slot) → AllOwn (IsOwnOf d) (flag_need (flag_pair (machine_of d) pairs)) others
flag_known d pairs others = go (flag_pair (machine_of d) pairs) refl
  where
    nothing : (os : List Slot) → AllOwn (IsOwnOf d) [] os
    nothing os = tt

    at : (l : Leaf) (part : Tree) (os : List Slot) → is_flag_leaf (machine_of d) l ≡ true → AllOwn (IsOwnOf d) (flag_need_at l part) os
    at (leaf.Register (place.Cell space index) width) part [] is = tt
    at (leaf.Register (place.Cell space index) width) part (o ∷ os) is = (sym (flags_same d space) ∙ is, nothing os)
    at (leaf.Register (place.Operand space number) width) part os is = absurd (cc is)
    at (leaf.Immediate operand width) part os is = absurd (cc is)
    at (leaf.Extended op operand width) part os is = absurd (cc is)

    go : (it : Option Pair) → flag_pair (machine_of d) pairs ≡ it → AllOwn (IsOwnOf d) (flag_need it) others
    go None is = nothing others
    go (Some x) is = at x.leaf x.part others (found_is (λ (p : Pair). is_flag_leaf (machine_of d) p.leaf) pairs x is)

-- ---- what is written

-- where a child's value goes to a flag, no child is computed into the node's own register
no_tie : (m : Machine) (stands : List Stand) (space index : ℕ) (u : Tree) (number : ℕ) → slice_get stands number ≡ Some Child → (all : List Assignment) →
    list_all (is_allowed m false stands (gets (ToPlace (place.Cell space index)) u ∷ [])) all ≡ true → list_any (λ (a : Assignment). writes_operand number a.to) all ≡ true → ⊥
no_tie m stands space index u number child [] allowed writes = absurd (cc writes)
no_tie m stands space index u number child (a ∷ all) allowed writes =
    let goal : Assignment = gets (ToPlace (place.Cell space index)) u in
    let test : Assignment → Bool = is_allowed m false stands (goal ∷ []) in
    let parts = and_both (test a) (list_all test all) allowed in
    elim (or_either (writes_operand number a.to) (list_any (λ (a : Assignment). writes_operand number a.to) all) writes) [
      | inr later ↦ no_tie m stands space index u number child all parts.1 later
      | inl here ↦ go a.to here parts.0
    ]
  where
    go : (to : Destination) → writes_operand number to ≡ true →
        (is_there (cond (meets false stands (ToPlace (place.Cell space index)) to) (Some (gets (ToPlace (place.Cell space index)) u)) None)
        || (is_free_destination m stands to && (not (guard_touches a.guard) && not (touches_input_or_memory a.value)))) ≡ true → ⊥
    go (ToPlace (place.Cell s i)) writes e = cc writes
    go (ToPlace (place.Operand s k)) writes e =
        let same : number ≡ k = numbers number k writes in
        let there : slice_get stands k ≡ Some Child = ap (slice_get stands) (sym same) ∙ child in
        let no : false ≡ true =
        sym (ap (λ o. is_there (cond (takes_goal false (place.Cell space index) o) (Some (gets (ToPlace (place.Cell space index)) u)) None)
        || (is_spare o && (not (guard_touches a.guard) && not (touches_input_or_memory a.value)))) there) ∙ e in
        cc no
    go (ToMemory width address) writes e = cc writes
    go ToCounter writes e = cc writes
    go ToOutput writes e = cc writes
    go ToHalt writes e = cc writes
    go ToTrap writes e = cc writes

-- ---- nodes

module _ (d : Description) (task : Task) (on : task.machine ≡ machine_of d) (own : Slot) (scratch : ℕ) (node : Node) (inner : List Need) where
  known_below : (root : Bool) (goals : List Assignment) → (kept : KeepsRules task root goals node inner) →
      ((number : ℕ) → slice_get node.stands number ≡ Some Child → is_written number kept.form.assignments ≡ true → IsScratch own) → GoesDown task.machine (IsOwnOf d) own scratch node inner
  known_below root goals kept tied =
      let m : Machine = task.machine in
      let form : Form = kept.form in
      let it = map_parts (λ (ns : List Need). ns ++ flag_need (flag_pair m kept.pairs)) (child_needs 0 node.stands kept.pairs) inner kept.needs in
      let slots : node_slots m own scratch node ≡ slots_from m form.assignments form.kinds own 0 scratch node.stands =
      ap (λ o. slots_from m (assignments_in o) (kinds_in o) own 0 scratch node.stands) kept.is_form in
      let others : List Slot = if node.flag then own ∷ [] else [] in
      let flags : AllOwn (IsOwnOf d) (flag_need (flag_pair m kept.pairs)) others =
      subst (λ (m : Machine). AllOwn (IsOwnOf d) (flag_need (flag_pair m kept.pairs)) others) (sym on) (flag_known d kept.pairs others) in
      subst (λ ns. AllOwn (IsOwnOf d) ns (own_slots own node (node_slots m own scratch node))) it.2
      (subst (λ xs. AllOwn (IsOwnOf d) (it.0 ++ flag_need (flag_pair m kept.pairs)) (own_slots own node xs)) (sym slots)
      (children_known d m form.assignments form.kinds own kept.pairs (flag_need (flag_pair m kept.pairs)) others flags 0 scratch node.stands it.0 it.1
      (λ j is. subst (IsChildAt form.assignments form.kinds own) (let plus : j ≡ 0 + j = omega arith in plus)
      (let k = kind_there (operand_suits m task.target root form.assignments kept.pairs) node.stands form.kinds j Child kept.operands is in (k.0, k.1, tied j is)))))

  pub child_below : (need : Need) → is_root need ≡ false → IsOwnOf d need own → KeepsRules task false (goals_of need) node inner → GoesDown task.machine (IsOwnOf d) own scratch node inner
  child_below (InRegister v) no_root known kept = known_below false (goals_of (InRegister v)) kept (λ number child written. known)
  child_below (InFlag space index v) no_root known kept =
      let goal = child_goal node.steps (ToPlace (place.Cell space index)) v kept.rewritten kept.is_rewritten in
      known_below false (goals_of (InFlag space index v)) kept
      (λ number child written. absurd (no_tie task.machine node.stands space index goal.0 number child kept.form.assignments
      (subst (λ gs. list_all (is_allowed task.machine false node.stands gs) kept.form.assignments ≡ true) goal.1 kept.allowed) written))
  child_below (AsTile all) no_root known kept = absurd known

  pub root_below : (goals : List Assignment) → KeepsRules task true goals node inner → GoesDown task.machine (IsOwnOf d) own scratch node inner
  root_below goals kept = known_below true goals kept (λ number child written. absurd (no_written number child written))
    where
      no_written : (number : ℕ) → slice_get node.stands number ≡ Some Child → is_written number kept.form.assignments ≡ true → ⊥
      no_written number child written =
          let k = kind_there (operand_suits task.machine task.target true kept.form.assignments kept.pairs) node.stands kept.form.kinds number Child kept.operands child in
          let it = operand_is task true goals node inner own scratch number k.0 kept k.1 in
          let same : Some it.stand ≡ Some Child = sym it.is ∙ child in
          let one : it.stand ≡ Child = cc same in
          go k.0 (subst (λ s. operand_suits task.machine task.target true kept.form.assignments kept.pairs number k.0 s ≡ true) one it.suits)
        where
          bits : (written read : Bool) → (not written || (read && not true)) ≡ true → written ≡ true → ⊥
          bits true true e w = cc e
          bits true false e w = cc e
          bits false read e w = cc w

          go : (k : OperandKind) → operand_suits task.machine task.target true kept.form.assignments kept.pairs number k Child ≡ true → ⊥
          go (kind.Register space) e =
              let one = and_both (nat_eq space task.machine.allocatable) (is_met number kept.pairs && (not (is_written number kept.form.assignments) || (is_read number kept.form.assignments && not true))) e in
              let two = and_both (is_met number kept.pairs) (not (is_written number kept.form.assignments) || (is_read number kept.form.assignments && not true)) one.1 in
              bits (is_written number kept.form.assignments) (is_read number kept.form.assignments) two.1 written
          go (kind.Imm width) e = cc e
          go kind.Addr e = cc e
