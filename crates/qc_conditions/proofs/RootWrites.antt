-- What the line of the root writes: what the tile writes, and scratches, flags and the zero cell.
use Rattle.std.proofs.Common.{◌≡◌, ◌∙◌, ◌⊎◌, ◌||◌, ◌&&◌, ℕ, List, [], ◌∷◌, map, Bool, true, false, not, cond, None, Some, nat_eq, slice_get, option_and_then, find, inl, inr, refl, sym, ap, subst}
use Rattle.std.specs.Prelude.{slice_set}
use Rattle.std.specs.List.{AllByRecursion, list_all, list_any}
use Rattle.std.proofs.lemmas.Bool.{and_from}
use Rattle.std.proofs.lemmas.Option.{get_or_from_slice_get}
use Rattle.std.proofs.Math.Seq.{map-set_same}
use Rattle.qc_terms.specs.declared.term.Dest.{Dest}
use Rattle.qc_terms.specs.declared.term.Dest.TheVariants as dest
use Rattle.qc_terms.specs.declared.term.Effect.{Effect}
use Rattle.qc_terms.specs.declared.term.Place.{Place}
use Rattle.qc_terms.specs.declared.term.Place.TheVariants as place
use Rattle.qc_terms.specs.Tree.{Number, Tree}
use Rattle.qc_descr.specs.declared.description.Description.{Description}
use Rattle.qc_descr.specs.declared.description.OperandKind.TheVariants as kind
use Rattle.qc_descr.specs.Valid.{EffectNames, IsValid, NamesDest, NamesPlace}
use Rattle.qc_tiles.specs.Sound.{IsOwnPlace, facts_of}
use Rattle.qc_equations.specs.declared.names.Law.{Law}
use Rattle.qc_equations.specs.Steps.{rewritten}
use Rattle.qc_code.specs.declared.template.Slot.{Slot}
use Rattle.qc_code.specs.declared.template.Slot.TheVariants as slot
use Rattle.qc_code.specs.Work.{Fixed, goes_to, is_inner, is_same_dest, is_same_name, named_by, place_in_line, place_in_tile}
use Rattle.qc_derivations.specs.Forest.{Cell, Child, Constant, Node, Own, Param, Spare, Stand, is_there}
use Rattle.qc_derivations.specs.Goals.{Need, goals_after, with_address, with_destination, with_guard, with_part, with_place, with_value}
use Rattle.qc_derivations.specs.Machine.{Assignment, Destination, Machine, ToCounter, ToHalt, ToMemory, ToOutput, ToPlace, ToTrap, assignment_of, destination_of, machine_of}
use Rattle.qc_derivations.specs.Matching.{goal_met, is_place_of, meets, takes_goal}
use Rattle.qc_derivations.specs.Nodes.{Task, is_allowed}
use Rattle.qc_derivations.specs.Rules.{guard_touches, is_free_destination, is_harmless, is_met, is_read, is_written, operand_suits, touches_input_or_memory}
use Rattle.qc_derivations.specs.Sequence.{node_slots, place_slot, slot_at}
use Rattle.qc_conditions.proofs.Operands.{operand_is, same_places}
use Rattle.qc_conditions.proofs.Optional.{and_both, eq_test, map_parts, numbers, or_either, or_left, or_right, then_parts}
use Rattle.qc_conditions.proofs.Rules.{KeepsRules}
use Rattle.qc_conditions.proofs.Writes.{harmless_is_inner}

-- ---- where goals go after laws

-- a destination without its address
abbrev pub bare : Destination → Destination
bare (ToMemory width address) = ToMemory width (Number 0 0)
bare (ToPlace p) = ToPlace p
bare ToCounter = ToCounter
bare ToOutput = ToOutput
bare ToHalt = ToHalt
bare ToTrap = ToTrap

abbrev pub bare_to : Assignment → Destination
bare_to a = bare a.to

part_to : (law : Law) (part : ℕ) (place : List ℕ) (a b : Assignment) → with_part law part place a ≡ Some b → bare_to b ≡ bare_to a
part_to law part place a b e = zero_or (nat_eq part 0) e
  where
    guard : with_guard law place a ≡ Some b → bare_to b ≡ bare_to a
    guard here =
        let it = map_parts (λ (g : Tree). record a { guard = Some g }) (option_and_then (rewritten law place) a.guard) b here in
        subst (λ (x : Assignment). bare_to x ≡ bare_to a) it.2 refl

    destination : (from to : Destination) → with_destination law place from ≡ Some to → bare to ≡ bare from
    destination (ToMemory width address) to here =
        let it = map_parts (ToMemory width) (rewritten law place address) to here in sym (ap bare it.2)
    destination (ToPlace p) to here = absurd (cc here)
    destination ToCounter to here = absurd (cc here)
    destination ToOutput to here = absurd (cc here)
    destination ToHalt to here = absurd (cc here)
    destination ToTrap to here = absurd (cc here)

    address : with_address law place a ≡ Some b → bare_to b ≡ bare_to a
    address here =
        let it = map_parts (λ (to : Destination). record a { to = to }) (with_destination law place a.to) b here in
        subst (λ (x : Assignment). bare_to x ≡ bare_to a) it.2 (destination a.to it.0 it.1)

    value : with_value law place a ≡ Some b → bare_to b ≡ bare_to a
    value here =
        let it = map_parts (λ (v : Tree). record a { value = v }) (rewritten law place a.value) b here in
        subst (λ (x : Assignment). bare_to x ≡ bare_to a) it.2 refl

    two_or : (t : Bool) → cond t (with_value law place a) None ≡ Some b → bare_to b ≡ bare_to a
    two_or true here = value here
    two_or false here = absurd (cc here)

    one_or : (t : Bool) → cond t (with_address law place a) (cond (nat_eq part 2) (with_value law place a) None) ≡ Some b → bare_to b ≡ bare_to a
    one_or true here = address here
    one_or false here = two_or (nat_eq part 2) here

    zero_or : (t : Bool) → cond t (with_guard law place a) (cond (nat_eq part 1) (with_address law place a) (cond (nat_eq part 2) (with_value law place a) None)) ≡ Some b → bare_to b ≡ bare_to a
    zero_or true here = guard here
    zero_or false here = one_or (nat_eq part 1) here

place_to : (law : Law) (place : List ℕ) (goals gs : List Assignment) → with_place law place goals ≡ Some gs → map bare_to gs ≡ map bare_to goals
place_to law [] goals gs e = absurd (cc e)
place_to law (number ∷ []) goals gs e = absurd (cc e)
place_to law (number ∷ part ∷ place) goals gs e =
    let it = map_parts (slice_set goals number) (option_and_then (with_part law part place) (slice_get goals number)) gs e in
    let b : Assignment = it.0 in
    let by = then_parts (with_part law part place) (slice_get goals number) b it.1 in
    let a : Assignment = by.0 in
    subst (λ xs. map bare_to xs ≡ map bare_to goals) it.2
    (map-set_same bare_to goals number b a (part_to law part place a b by.2 ∙ ap bare_to (sym (get_or_from_slice_get goals number a a by.1))))

pub goals_to : (steps : List (Law × List ℕ)) (goals gs : List Assignment) → goals_after true steps goals ≡ Some gs → map bare_to gs ≡ map bare_to goals
goals_to [] goals gs e = let it : Some goals ≡ Some gs = e in let same : goals ≡ gs = cc it in ap (map bare_to) (sym same)
goals_to (step ∷ steps) goals gs e =
    let it = then_parts (goals_after true steps) (with_place step.0 step.1 goals) gs e in
    let one : List Assignment = it.0 in
    goals_to steps one gs it.2 ∙ place_to step.0 step.1 goals one it.1

meets_bare : (stands : List Stand) (to x : Destination) → meets true stands (bare to) x ≡ meets true stands to x
meets_bare stands (ToMemory width address) (ToPlace p) = refl
meets_bare stands (ToMemory width address) (ToMemory v b) = refl
meets_bare stands (ToMemory width address) ToCounter = refl
meets_bare stands (ToMemory width address) ToOutput = refl
meets_bare stands (ToMemory width address) ToHalt = refl
meets_bare stands (ToMemory width address) ToTrap = refl
meets_bare stands (ToPlace q) x = refl
meets_bare stands ToCounter x = refl
meets_bare stands ToOutput x = refl
meets_bare stands ToHalt x = refl
meets_bare stands ToTrap x = refl

-- ---- places

itself : (n : ℕ) → nat_eq n n ≡ true
itself n = eq_test n n refl

same_cell : (a b s k : ℕ) → a ≡ s → b ≡ k → is_same_name (Fixed a b) (Fixed s k) ≡ true
same_cell a b s k one two = and_from (nat_eq a s) (nat_eq b k) (eq_test a s one) (eq_test b k two)

-- a cell that a tile names is of the allocatable space
own_cell_space : (d : Description) (space index : ℕ) → IsValid d → IsOwnPlace (facts_of d) (place.Cell space index) → space ≡ d.allocatable
own_cell_space d space index valid (inl frame) = frame.0 ∙ valid.layout.same_space.0
own_cell_space d space index valid (inr link) = link.0 ∙ valid.layout.same_space.1

no_bits : (written read : Bool) → (not written || (read && not true)) ≡ true → written ≡ false
no_bits true true e = absurd (cc e)
no_bits true false e = absurd (cc e)
no_bits false read e = refl

takes : (q : Place) (stand : Stand) → takes_goal true q (Some stand) ≡ true → (stand ≡ Own) ⊎ (stand ≡ Child)
takes q Own e = inl refl
takes q Child e = inr refl
takes (place.Operand s k) Spare e = absurd (cc e)
takes (place.Operand s k) (Param n) e = absurd (cc e)
takes (place.Operand s k) (Cell x y) e = absurd (cc e)
takes (place.Operand s k) (Constant t) e = absurd (cc e)
takes (place.Cell s k) Spare e = absurd (cc e)
takes (place.Cell s k) (Param n) e = absurd (cc e)
takes (place.Cell s k) (Cell x y) e = absurd (cc e)
takes (place.Cell s k) (Constant t) e = absurd (cc e)

takes_none : (q : Place) → takes_goal true q None ≡ true → ⊥
takes_none (place.Operand s k) e = cc e
takes_none (place.Cell s k) e = cc e

module _ (d : Description) (valid : IsValid d) (task : Task) (on : task.machine ≡ machine_of d) (goals : List Assignment) (node : Node) (inner : List Need) (kept : KeepsRules task true goals node inner)
    (own : Slot) where
  abbrev slots : List Slot
  slots = node_slots task.machine own 0 node

  -- a place is inner, or the tile's
  abbrev Either : Place → Place → Type 0
  Either q p = (is_inner d (place_in_line slots p) ≡ true) ⊎ (is_same_name (place_in_line slots p) (place_in_tile q) ≡ true)

  root_place : (q p : Place) → own ≡ place_slot q → IsOwnPlace (facts_of d) q → NamesPlace kept.form.kinds p → is_place_of true node.stands q p ≡ true → Either q p
  root_place q (place.Cell a b) own_is own_q names met =
      let same : q ≡ place.Cell a b = same_places q (place.Cell a b) met in
      inr (ap (λ z. is_same_name (Fixed a b) (place_in_tile z)) same ∙ same_cell a b a b refl refl)
  root_place q (place.Operand space number) own_is own_q names met =
      let it = operand_is task true goals node inner own 0 number (kind.Register space) kept names in
      let written : Bool = is_written number kept.form.assignments in
      elim (takes q it.stand (ap (takes_goal true q) (sym it.is) ∙ met)) [
        | inl mine ↦
            let suits = subst (λ s. operand_suits task.machine task.target true kept.form.assignments kept.pairs number (kind.Register space) s ≡ true) mine it.suits in
            let here : space ≡ d.allocatable = numbers space task.machine.allocatable (and_both (nat_eq space task.machine.allocatable) (written && not (is_read number kept.form.assignments)) suits).0
            ∙ ap (λ (m : Machine). m.allocatable) on in
            let at : slice_get slots number ≡ Some (place_slot q) =
            it.is_slot ∙ ap (λ s. Some (slot_at task.machine own (kind.Register space) written it.first s)) mine ∙ ap Some own_is in
            inr (ap (λ o. is_same_name (named_by space o) (place_in_tile q)) at ∙ named q here own_q)
        | inr child ↦
            let suits = subst (λ s. operand_suits task.machine task.target true kept.form.assignments kept.pairs number (kind.Register space) s ≡ true) child it.suits in
            let one = and_both (nat_eq space task.machine.allocatable) (is_met number kept.pairs && (not written || (is_read number kept.form.assignments && not true))) suits in
            let two = and_both (is_met number kept.pairs) (not written || (is_read number kept.form.assignments && not true)) one.1 in
            let none : written ≡ false = no_bits written (is_read number kept.form.assignments) two.1 in
            let at : slice_get slots number ≡ Some (slot.Scratch it.first) =
            it.is_slot ∙ ap (λ s. Some (slot_at task.machine own (kind.Register space) written it.first s)) child ∙ ap (λ b. Some (cond b own (slot.Scratch it.first))) none in
            inl (ap (λ o. is_inner d (named_by space o)) at)
      ]
    where
      named : (q : Place) → space ≡ d.allocatable → IsOwnPlace (facts_of d) q → is_same_name (named_by space (Some (place_slot q))) (place_in_tile q) ≡ true
      named (place.Operand s k) here own_q = itself k
      named (place.Cell s k) here own_q = same_cell space k s k (here ∙ sym (own_cell_space d s k valid own_q)) refl

  -- ---- destinations

  abbrev EitherTo : Dest → Dest → Type 0
  EitherTo x f = (goes_to (is_inner d) (place_in_line slots) x ≡ true) ⊎ (is_same_dest (place_in_line slots) x place_in_tile f ≡ true)

  abbrev Owns : Dest → Type 0
  Owns f = (q : Place) → f ≡ dest.Reg q → (p : Place) → NamesPlace kept.form.kinds p → is_place_of true node.stands q p ≡ true → Either q p

  same_to : (x f : Dest) → NamesDest d.facts.word kept.form.kinds x → meets true node.stands (bare (destination_of f)) (destination_of x) ≡ true → Owns f → EitherTo x f
  same_to (dest.Reg p) (dest.Reg q) names met owns = owns q refl p names met
  same_to (dest.Mem w a) (dest.Reg q) names met owns = absurd (cc met)
  same_to dest.Pc (dest.Reg q) names met owns = absurd (cc met)
  same_to dest.Out (dest.Reg q) names met owns = absurd (cc met)
  same_to dest.Halt (dest.Reg q) names met owns = absurd (cc met)
  same_to dest.Trap (dest.Reg q) names met owns = absurd (cc met)
  same_to (dest.Reg p) (dest.Mem v b) names met owns = absurd (cc met)
  same_to (dest.Mem w a) (dest.Mem v b) names met owns = inr refl
  same_to dest.Pc (dest.Mem v b) names met owns = absurd (cc met)
  same_to dest.Out (dest.Mem v b) names met owns = absurd (cc met)
  same_to dest.Halt (dest.Mem v b) names met owns = absurd (cc met)
  same_to dest.Trap (dest.Mem v b) names met owns = absurd (cc met)
  same_to (dest.Reg p) dest.Pc names met owns = absurd (cc met)
  same_to (dest.Mem w a) dest.Pc names met owns = absurd (cc met)
  same_to dest.Pc dest.Pc names met owns = inr refl
  same_to dest.Out dest.Pc names met owns = absurd (cc met)
  same_to dest.Halt dest.Pc names met owns = absurd (cc met)
  same_to dest.Trap dest.Pc names met owns = absurd (cc met)
  same_to (dest.Reg p) dest.Out names met owns = absurd (cc met)
  same_to (dest.Mem w a) dest.Out names met owns = absurd (cc met)
  same_to dest.Pc dest.Out names met owns = absurd (cc met)
  same_to dest.Out dest.Out names met owns = inr refl
  same_to dest.Halt dest.Out names met owns = absurd (cc met)
  same_to dest.Trap dest.Out names met owns = absurd (cc met)
  same_to (dest.Reg p) dest.Halt names met owns = absurd (cc met)
  same_to (dest.Mem w a) dest.Halt names met owns = absurd (cc met)
  same_to dest.Pc dest.Halt names met owns = absurd (cc met)
  same_to dest.Out dest.Halt names met owns = absurd (cc met)
  same_to dest.Halt dest.Halt names met owns = inr refl
  same_to dest.Trap dest.Halt names met owns = absurd (cc met)
  same_to (dest.Reg p) dest.Trap names met owns = absurd (cc met)
  same_to (dest.Mem w a) dest.Trap names met owns = absurd (cc met)
  same_to dest.Pc dest.Trap names met owns = absurd (cc met)
  same_to dest.Out dest.Trap names met owns = absurd (cc met)
  same_to dest.Halt dest.Trap names met owns = absurd (cc met)
  same_to dest.Trap dest.Trap names met owns = inr refl

  -- what the tile's effects own
  abbrev pub OwnsOf : Effect → Type 0
  OwnsOf f = (q : Place) → f.to ≡ dest.Reg q → (own ≡ place_slot q) × IsOwnPlace (facts_of d) q

  met_is_tile : (x : Dest) → NamesDest d.facts.word kept.form.kinds x → (gs : List Assignment) (fs : List Effect) → map bare_to gs ≡ map bare_to (map assignment_of fs) → AllByRecursion OwnsOf fs →
      is_there (find (λ (goal : Assignment). meets true node.stands goal.to (destination_of x)) gs) ≡ true →
      (goes_to (is_inner d) (place_in_line slots) x ≡ true) ⊎ (list_any (λ (f : Effect). is_same_dest (place_in_line slots) x place_in_tile f.to) fs ≡ true)
  met_is_tile x names [] fs same owns there = absurd (cc there)
  met_is_tile x names (g ∷ gs) [] same owns there = absurd (cc same)
  met_is_tile x names (g ∷ gs) (f ∷ fs) same owns there =
      let head : bare_to g ≡ bare (destination_of f.to) = cc same in
      let tail : map bare_to gs ≡ map bare_to (map assignment_of fs) = cc same in
      let test : Effect → Bool = λ f. is_same_dest (place_in_line slots) x place_in_tile f.to in
      go (meets true node.stands g.to (destination_of x)) refl there head (λ later. met_is_tile x names gs fs tail owns.1 later)
    where
      go : (b : Bool) → meets true node.stands g.to (destination_of x) ≡ b → is_there (cond b (Some g) (find (λ (goal : Assignment). meets true node.stands goal.to (destination_of x)) gs)) ≡ true →
          bare_to g ≡ bare (destination_of f.to) →
          (is_there (find (λ (goal : Assignment). meets true node.stands goal.to (destination_of x)) gs) ≡ true →
          (goes_to (is_inner d) (place_in_line slots) x ≡ true) ⊎ (list_any (λ (f : Effect). is_same_dest (place_in_line slots) x place_in_tile f.to) fs ≡ true)) →
          (goes_to (is_inner d) (place_in_line slots) x ≡ true) ⊎ (list_any (λ (f : Effect). is_same_dest (place_in_line slots) x place_in_tile f.to) (f ∷ fs) ≡ true)
      go true is there head deep =
          let met : meets true node.stands (bare (destination_of f.to)) (destination_of x) ≡ true =
          subst (λ z. meets true node.stands z (destination_of x) ≡ true) head (meets_bare node.stands g.to (destination_of x) ∙ is) in
          elim (same_to x f.to names met (λ q to p names_p met_p. let it = owns.0 q to in root_place q p it.0 it.1 names_p met_p)) [
            | inl here ↦ inl here
            | inr here ↦ inr (or_left (is_same_dest (place_in_line slots) x place_in_tile f.to) (list_any (λ (f : Effect). is_same_dest (place_in_line slots) x place_in_tile f.to) fs) here)
          ]
      go false is there head deep = elim (deep there) [
        | inl here ↦ inl here
        | inr later ↦ inr (or_right (is_same_dest (place_in_line slots) x place_in_tile f.to) (list_any (λ (f : Effect). is_same_dest (place_in_line slots) x place_in_tile f.to) fs) later)
      ]

  -- each effect of the root goes to a scratch, a flag, the zero cell, or where the tile's do
  pub root_effects : (fs : List Effect) → goals ≡ map assignment_of fs → AllByRecursion OwnsOf fs → (es : List Effect) → AllByRecursion (EffectNames d.facts.word kept.form.kinds) es →
      list_all (is_allowed task.machine true node.stands kept.rewritten) (map assignment_of es) ≡ true →
      list_all (λ e. goes_to (is_inner d) (place_in_line slots) e.to || (true && list_any (λ f. is_same_dest (place_in_line slots) e.to place_in_tile f.to) fs)) es ≡ true
  root_effects fs goals_are owns [] names allowed = refl
  root_effects fs goals_are owns (e ∷ es) names allowed =
      let m : Machine = task.machine in
      let test : Assignment → Bool = is_allowed m true node.stands kept.rewritten in
      let parts = and_both (test (assignment_of e)) (list_all test (map assignment_of es)) allowed in
      let tos : map bare_to kept.rewritten ≡ map bare_to (map assignment_of fs) = goals_to node.steps goals kept.rewritten kept.is_rewritten ∙ ap (map bare_to) goals_are in
      let one : Bool = goes_to (is_inner d) (place_in_line slots) e.to in
      let two : Bool = list_any (λ (f : Effect). is_same_dest (place_in_line slots) e.to place_in_tile f.to) fs in
      let here : (one || two) ≡ true = elim (or_either (is_there (goal_met true node.stands kept.rewritten (assignment_of e))) (is_harmless m node.stands (assignment_of e)) parts.0) [
        | inl there ↦ elim (met_is_tile e.to names.0.to kept.rewritten fs tos owns there) [
          | inl inside ↦ or_left one two inside
          | inr tiles ↦ or_right one two tiles
        ]
        | inr harmless ↦ or_left one two (harmless_is_inner d task on true goals node inner kept own 0 e.to names.0.to
            (and_both (is_free_destination m node.stands (destination_of e.to)) (not (guard_touches (assignment_of e).guard) && not (touches_input_or_memory (assignment_of e).value)) harmless).0)
      ] in
      and_from (one || two) (list_all (λ e. goes_to (is_inner d) (place_in_line slots) e.to || (true && list_any (λ f. is_same_dest (place_in_line slots) e.to place_in_tile f.to) fs)) es) here
      (root_effects fs goals_are owns es names.1 parts.1)
