-- What the lines of children write: scratches, flags and the zero cell alone.
use Rattle.std.proofs.Common.{◌≡◌, ◌∙◌, ◌||◌, ◌&&◌, ℕ, List, [], ◌∷◌, map, Bool, true, false, not, cond, Option, None, Some, nat_eq, slice_get, option_and_then, inl, inr, refl, sym, ap, subst}
use Rattle.std.specs.Prelude.{slice_set}
use Rattle.std.specs.List.{AllByRecursion, list_all}
use Rattle.std.proofs.lemmas.Bool.{and_from}
use Rattle.qc_terms.specs.declared.term.Dest.{Dest}
use Rattle.qc_terms.specs.declared.term.Dest.TheVariants as dest
use Rattle.qc_terms.specs.declared.term.Effect.{Effect}
use Rattle.qc_terms.specs.declared.term.Place.{Place}
use Rattle.qc_terms.specs.declared.term.Place.TheVariants as place
use Rattle.qc_terms.specs.State.{is_zero_cell}
use Rattle.qc_terms.specs.Tree.{Tree}
use Rattle.qc_descr.specs.declared.description.Description.{Description}
use Rattle.qc_descr.specs.declared.description.OperandKind.TheVariants as kind
use Rattle.qc_descr.specs.Valid.{EffectNames, NamesDest, NamesPlace}
use Rattle.qc_equations.specs.declared.names.Law.{Law}
use Rattle.qc_equations.specs.Steps.{rewritten}
use Rattle.qc_code.specs.declared.template.Slot.{Slot}
use Rattle.qc_code.specs.declared.template.Slot.TheVariants as slot
use Rattle.qc_code.specs.TileHolds.{is_flag_space}
use Rattle.qc_code.specs.Work.{goes_to, is_inner, named_by, place_in_line}
use Rattle.qc_derivations.specs.Forest.{Cell, Child, Constant, Node, Own, Param, Spare, Stand, is_there}
use Rattle.qc_derivations.specs.Goals.{AsTile, InFlag, InRegister, Need, gets, goals_after, goals_of, is_root, with_part, with_place}
use Rattle.qc_derivations.specs.Machine as machine
use Rattle.qc_derivations.specs.Machine.{Assignment, Destination, Form, Machine, ToCounter, ToHalt, ToMemory, ToOutput, ToPlace, ToTrap, assignment_of, destination_of, machine_of}
use Rattle.qc_derivations.specs.Matching.{goal_met, is_place_of, meets, takes_goal}
use Rattle.qc_derivations.specs.Nodes.{Task, is_allowed}
use Rattle.qc_derivations.specs.Rules.{guard_touches, is_free_destination, is_harmless, is_read, is_spare, is_written, operand_suits, touches_input_or_memory}
use Rattle.qc_derivations.specs.Sequence.{node_slots, slot_at, spare_cell, spare_cell_in, spare_slot}
use Rattle.qc_conditions.proofs.Operands.{flags_same, operand_is}
use Rattle.qc_conditions.proofs.Optional.{and_both, eq_test, map_parts, numbers, or_either, or_left, or_right, then_parts}
use Rattle.qc_conditions.proofs.Rules.{KeepsRules}

-- ---- the slots of needs

abbrev pub IsScratch : Slot → Type 0
IsScratch own = (k : ℕ) × (own ≡ slot.Scratch k)

-- a register's own is a scratch, and a flag is one
abbrev pub IsOwnOf : Description → Need → Slot → Type 0
IsOwnOf d (InRegister value) own = IsScratch own
IsOwnOf d (InFlag space index value) own = is_flag_space d space ≡ true
IsOwnOf d (AsTile assignments) own = ⊥

-- ---- goals of children

-- the goal of a child after its steps goes to the same place
pub child_goal : (steps : List (Law × List ℕ)) (to : Destination) (v : Tree) (goals : List Assignment) → goals_after false steps (gets to v ∷ []) ≡ Some goals → (u : Tree) × (goals ≡ gets to u ∷ [])
child_goal [] to v goals e = let it : Some (gets to v ∷ []) ≡ Some goals = e in (v, let same : goals ≡ gets to v ∷ [] = cc in same)
child_goal (step ∷ steps) to v goals e =
    let it = then_parts (goals_after false steps) (with_place step.0 (0 ∷ 2 ∷ step.1) (gets to v ∷ [])) goals e in
    let new = map_parts (slice_set (gets to v ∷ []) 0) (option_and_then (with_part step.0 2 step.1) (Some (gets to v))) it.0 it.1 in
    let by = map_parts (λ u. gets to u) (rewritten step.0 step.1 v) new.0 new.1 in
    let u : Tree = by.0 in
    let here : gets to u ∷ [] ≡ it.0 = subst (λ a. a ∷ [] ≡ it.0) (sym by.2) new.2 in
    child_goal steps to u goals (subst (λ gs. goals_after false steps gs ≡ Some goals) (sym here) it.2)

-- where a child's value goes
abbrev pub place_of : Need → Place
place_of (InRegister value) = place.Operand 0 0
place_of (InFlag space index value) = place.Cell space index
place_of (AsTile assignments) = place.Operand 0 0

pub goal_of : (need : Need) → is_root need ≡ false → (v : Tree) × (goals_of need ≡ gets (ToPlace (place_of need)) v ∷ [])
goal_of (InRegister value) is = (value, refl)
goal_of (InFlag space index value) is = (value, refl)
goal_of (AsTile assignments) is = absurd (cc is)

-- ---- places that are harmless

spare_is_inner : (d : Description) (space first : ℕ) → space ≡ d.allocatable → is_inner d (named_by space (Some (spare_slot (spare_cell (machine_of d)) first))) ≡ true
spare_is_inner d space first here = go d.facts.zero refl
  where
    go : (z : Option (ℕ × ℕ)) → d.facts.zero ≡ z → is_inner d (named_by space (Some (spare_slot (spare_cell_in d.allocatable z) first))) ≡ true
    go None is = refl
    go (Some z) is = by (nat_eq z.0 d.allocatable) refl
      where
        by : (b : Bool) → nat_eq z.0 d.allocatable ≡ b → is_inner d (named_by space (Some (spare_slot (cond b (Some z.1) None) first))) ≡ true
        by false e = refl
        by true e =
            or_right (is_flag_space d space) (is_zero_cell d.facts.zero space z.1)
            (ap (λ o. is_zero_cell o space z.1) is
            ∙ and_from (nat_eq z.0 space) (nat_eq z.1 z.1) (eq_test z.0 space (numbers z.0 d.allocatable e ∙ sym here)) (eq_test z.1 z.1 refl))

cell_is_inner : (d : Description) (space index : ℕ) → (machine.has_flags (machine_of d) space || is_zero_cell d.facts.zero space index) ≡ true → is_inner d (place_in_line [] (place.Cell space index)) ≡ true
cell_is_inner d space index e = ap (λ b. b || is_zero_cell d.facts.zero space index) (sym (flags_same d space)) ∙ e

module _ (d : Description) (task : Task) (on : task.machine ≡ machine_of d) (root : Bool) (goals : List Assignment) (node : Node) (inner : List Need) (kept : KeepsRules task root goals node inner)
    (own : Slot) (scratch : ℕ) where
  abbrev slots : List Slot
  slots = node_slots task.machine own scratch node

  pub harmless_is_inner : (to : Dest) → NamesDest d.facts.word kept.form.kinds to → is_free_destination task.machine node.stands (destination_of to) ≡ true → goes_to (is_inner d) (place_in_line slots) to ≡ true
  harmless_is_inner (dest.Reg (place.Cell space index)) names free = cell_is_inner d space index (subst (λ (m : Machine). (machine.has_flags m space || is_zero_cell m.«zero» space index) ≡ true) on free)
  harmless_is_inner (dest.Reg (place.Operand space number)) names free =
      let it = operand_is task root goals node inner own scratch number (kind.Register space) kept names in
      ap (λ o. is_inner d (named_by space o)) it.is_slot ∙ go it.stand it.is it.suits it.first
    where
      go : (stand : Stand) → slice_get node.stands number ≡ Some stand → operand_suits task.machine task.target root kept.form.assignments kept.pairs number (kind.Register space) stand ≡ true → (first : ℕ) →
          is_inner d (named_by space (Some (slot_at task.machine own (kind.Register space) (is_written number kept.form.assignments) first stand))) ≡ true
      go Spare is suits first =
          let here : space ≡ d.allocatable = numbers space task.machine.allocatable (and_both (nat_eq space task.machine.allocatable) (is_written number kept.form.assignments && not (is_read number kept.form.assignments)) suits).0
          ∙ ap (λ (m : Machine). m.allocatable) on in
          ap (λ m. is_inner d (named_by space (Some (spare_slot (spare_cell m) first)))) on ∙ spare_is_inner d space first here
      go Own is suits first = absurd (let no : false ≡ true = sym (ap (λ o. is_spare o) is) ∙ free in cc no)
      go Child is suits first = absurd (let no : false ≡ true = sym (ap (λ o. is_spare o) is) ∙ free in cc no)
      go (Param n) is suits first = absurd (let no : false ≡ true = sym (ap (λ o. is_spare o) is) ∙ free in cc no)
      go (Cell a b) is suits first = absurd (let no : false ≡ true = sym (ap (λ o. is_spare o) is) ∙ free in cc no)
      go (Constant t) is suits first = absurd (let no : false ≡ true = sym (ap (λ o. is_spare o) is) ∙ free in cc no)
  harmless_is_inner (dest.Mem width address) names free = absurd (cc free)
  harmless_is_inner dest.Pc names free = absurd (cc free)
  harmless_is_inner dest.Out names free = absurd (cc free)
  harmless_is_inner dest.Halt names free = absurd (cc free)
  harmless_is_inner dest.Trap names free = absurd (cc free)

  -- a register that a child's value goes to, where the node's own slot is a scratch
  own_is_inner : (space number : ℕ) → IsScratch own → slice_get kept.form.kinds number ≡ Some (kind.Register space) → takes_goal false (place.Operand 0 0) (slice_get node.stands number) ≡ true →
      is_inner d (named_by space (slice_get slots number)) ≡ true
  own_is_inner space number scratch_is names takes =
      let it = operand_is task root goals node inner own scratch number (kind.Register space) kept names in
      ap (λ o. is_inner d (named_by space o)) it.is_slot ∙ go it.stand (ap (takes_goal false (place.Operand 0 0)) (sym it.is) ∙ takes) it.first
    where
      mine : is_inner d (named_by space (Some own)) ≡ true
      mine = ap (λ o. is_inner d (named_by space (Some o))) scratch_is.1

      child : (b : Bool) (first : ℕ) → is_inner d (named_by space (Some (cond b own (slot.Scratch first)))) ≡ true
      child true first = mine
      child false first = refl

      go : (stand : Stand) → takes_goal false (place.Operand 0 0) (Some stand) ≡ true → (first : ℕ) →
          is_inner d (named_by space (Some (slot_at task.machine own (kind.Register space) (is_written number kept.form.assignments) first stand))) ≡ true
      go Own e first = mine
      go Child e first = child (is_written number kept.form.assignments) first
      go Spare e first = absurd (cc e)
      go (Param n) e first = absurd (cc e)
      go (Cell a b) e first = absurd (cc e)
      go (Constant t) e first = absurd (cc e)

  no_operand : (a b number : ℕ) → takes_goal false (place.Cell a b) (slice_get node.stands number) ≡ true → ⊥
  no_operand a b number e = go (slice_get node.stands number) e
    where
      go : (it : Option Stand) → takes_goal false (place.Cell a b) it ≡ true → ⊥
      go None e = cc e
      go (Some Own) e = cc e
      go (Some Child) e = cc e
      go (Some Spare) e = cc e
      go (Some (Param n)) e = cc e
      go (Some (Cell s i)) e = cc e
      go (Some (Constant t)) e = cc e

  register_is_inner : (p : Place) → NamesPlace kept.form.kinds p → IsScratch own → is_place_of false node.stands (place.Operand 0 0) p ≡ true → is_inner d (place_in_line slots p) ≡ true
  register_is_inner (place.Cell a b) names known met = absurd (cc met)
  register_is_inner (place.Operand space number) names known met = own_is_inner space number known names met

  flag_is_inner : (p : Place) (space index : ℕ) → is_flag_space d space ≡ true → is_place_of false node.stands (place.Cell space index) p ≡ true → is_inner d (place_in_line slots p) ≡ true
  flag_is_inner (place.Operand a b) space index flag met = absurd (no_operand space index b met)
  flag_is_inner (place.Cell a b) space index flag met =
      let parts = and_both (nat_eq space a) (nat_eq index b) met in
      or_left (is_flag_space d a) (is_zero_cell d.facts.zero a b) (ap (is_flag_space d) (sym (numbers space a parts.0)) ∙ flag)

  -- where the goal of a child goes
  matched_is_inner : (need : Need) → IsOwnOf d need own → (x : Dest) → NamesDest d.facts.word kept.form.kinds x →
      meets false node.stands (ToPlace (place_of need)) (destination_of x) ≡ true → goes_to (is_inner d) (place_in_line slots) x ≡ true
  matched_is_inner need known (dest.Mem width address) names met = absurd (cc met)
  matched_is_inner need known dest.Pc names met = absurd (cc met)
  matched_is_inner need known dest.Out names met = absurd (cc met)
  matched_is_inner need known dest.Halt names met = absurd (cc met)
  matched_is_inner need known dest.Trap names met = absurd (cc met)
  matched_is_inner (AsTile all) known (dest.Reg p) names met = absurd known
  matched_is_inner (InRegister w) known (dest.Reg p) names met = register_is_inner p names known met
  matched_is_inner (InFlag space index w) known (dest.Reg p) names met = flag_is_inner p space index known met

  -- each effect that may be there in a child goes to a scratch, a flag or the zero cell
  pub all_inner : (need : Need) (u : Tree) (es : List Effect) → IsOwnOf d need own → AllByRecursion (EffectNames d.facts.word kept.form.kinds) es →
      list_all (is_allowed task.machine false node.stands (gets (ToPlace (place_of need)) u ∷ [])) (map assignment_of es) ≡ true →
      list_all (λ e. goes_to (is_inner d) (place_in_line slots) e.to) es ≡ true
  all_inner need u [] known names allowed = refl
  all_inner need u (e ∷ es) known names allowed =
      let goal : Assignment = gets (ToPlace (place_of need)) u in
      let m : Machine = task.machine in
      let test : Assignment → Bool = is_allowed m false node.stands (goal ∷ []) in
      let parts = and_both (test (assignment_of e)) (list_all test (map assignment_of es)) allowed in
      let here : goes_to (is_inner d) (place_in_line slots) e.to ≡ true = elim (or_either (is_there (goal_met false node.stands (goal ∷ []) (assignment_of e))) (is_harmless m node.stands (assignment_of e)) parts.0) [
        | inl there ↦ matched_is_inner need known e.to names.0.to (by (meets false node.stands (ToPlace (place_of need)) (destination_of e.to)) there)
        | inr harmless ↦ harmless_is_inner e.to names.0.to
            (and_both (is_free_destination m node.stands (destination_of e.to)) (not (guard_touches (assignment_of e).guard) && not (touches_input_or_memory (assignment_of e).value)) harmless).0
      ] in
      and_from (goes_to (is_inner d) (place_in_line slots) e.to) (list_all (λ e. goes_to (is_inner d) (place_in_line slots) e.to) es) here (all_inner need u es known names.1 parts.1)
    where
      by : (b : Bool) → is_there (cond b (Some (gets (ToPlace (place_of need)) u)) None) ≡ true → b ≡ true
      by true e = refl
      by false e = absurd (cc e)
