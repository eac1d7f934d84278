-- The root's line writes what the tile's only effect writes, and anything to free cells.
use Rattle.std.proofs.Common.{◌≡◌, ◌∙◌, ◌⊎◌, ◌+◌, ◌≤◌, ◌/◌, ◌||◌, ◌&&◌, ℕ, zero, suc, List, [], ◌∷◌, ◌++◌, Bool, true, false, not, cond, Option, None, Some, IfSome, nat_eq, slice_get, slice_index, option_and_then, inl, inr, refl, sym, ap, subst, arith}
use Rattle.std.specs.List.{AllByRecursion, list_all}
use Rattle.std.specs.Option.{option_map}
use Rattle.std.proofs.lemmas.Option.{same_Some}
use Rattle.qc_lists.specs.Law.Lists.{each_of_append}
use Rattle.qc_terms.specs.declared.state.State.{State}
use Rattle.qc_terms.specs.declared.term.Dest.{Dest}
use Rattle.qc_terms.specs.declared.term.Dest.TheVariants as dest
use Rattle.qc_terms.specs.declared.term.Effect.{Effect}
use Rattle.qc_terms.specs.declared.term.Place.{Place}
use Rattle.qc_terms.specs.declared.term.Place.TheVariants as place
use Rattle.qc_terms.specs.declared.term.Term.{Term}
use Rattle.qc_terms.specs.Effects.{ToCell, Write, dest_has_input, effect_has_input, guard_has_input, guard_of, store_at, write_of, writes_of_effect}
use Rattle.qc_terms.specs.Tree.{Tree, has_input, tree_of}
use Rattle.qc_terms.specs.Value.{index_of, next_input_of, space_of}
use Rattle.qc_descr.specs.declared.description.OperandKind.{OperandKind}
use Rattle.qc_descr.specs.declared.description.OperandKind.TheVariants as kind
use Rattle.qc_descr.specs.Valid.{EffectNames, NamesDest, NamesOperands, NamesPlace}
use Rattle.qc_tiles.specs.Sound.{DestNamesOwn, IsOwnPlace, facts_of, kinds_of_tile}
use Rattle.qc_code.specs.Setting.{slot_value}
use Rattle.qc_derivations.specs.Forest.{Cell, Child, Constant, Own, Param, Spare, Stand}
use Rattle.qc_derivations.specs.Machine.{Assignment, Destination, ToCounter, ToHalt, ToMemory, ToOutput, ToPlace, ToTrap, assignment_of, destination_of, machine_of}
use Rattle.qc_derivations.specs.Matching.{Pair, destination_pairs, guard_pairs, is_place_of, meets, pairs_of, takes_goal}
use Rattle.qc_derivations.specs.Nodes.{inputs_in_destination, inputs_in_goal, inputs_in_guard, target_of}
use Rattle.qc_derivations.specs.Rules.{is_met, is_read, is_written, leaf_meets, operand_suits}
use Rattle.qc_derivations.specs.Same.{inputs_in}
use Rattle.qc_derivations.specs.Sequence.{place_slot, slot_at}
use Rattle.qc_soundness.proofs.Children.{IsTied, kind_there}
use Rattle.qc_soundness.proofs.ChildLine.{all_read, names-parts}
use Rattle.qc_soundness.proofs.ChildNode.{alike_fault, same_value}
use Rattle.qc_soundness.proofs.ChildStep.{Faults}
use Rattle.qc_soundness.proofs.LeafValues.{AreHeld, NodeLine, Suits, line_operands, operand_is}
use Rattle.qc_soundness.proofs.Leaves.{same_places}
use Rattle.qc_soundness.proofs.Optional.{and_both, if_parts, numbers, or_either, or_neither}
use Rattle.qc_soundness.proofs.Patterns.{AreAlikeReadings, Reading, ReadsAs, inputs_meet, inputs_met, inputs_met-append, inputs_none, inputs_some, value_at, values_meet}
use Rattle.qc_soundness.proofs.RootGoal.{AlikeGuard, AlikeOne, AlikeTo, AllHoldOf, GuardHolds, HasPairs, ToHolds, all_leaves_hold, all_parts_hold, own_cell_space, parameter_space}
use Rattle.qc_soundness.proofs.Scene.{IsGood, IsOuter, IsScene, Scene, at_front, good-alike, good-parts}
use Rattle.qc_soundness.proofs.Writes.{AreKept}

-- ---- operands of the root

abbrev guard_value : Option (Option ℕ) → Option ℕ
guard_value None = Some 1
guard_value (Some v) = v

reads_some : (t : Tree) → has_input t ≡ true → 1 ≤ inputs_in t
reads_some t is = by (inputs_in t) refl
  where
    by : (n : ℕ) → inputs_in t ≡ n → 1 ≤ n
    by zero none = absurd (let no : true ≡ false = sym is ∙ inputs_some t none in cc no)
    by (suc n) more = omega arith

-- the root has no child that is computed into its own register
pub no_ties : (c : Scene) (l : NodeLine) (j : ℕ) → l.root ≡ true → Suits c l → IsTied l j → ⊥
no_ties c l j root suits tied =
    let k = kind_there c l j Child suits tied.0 in
    let it = operand_is c l j k.0 suits k.1 in
    let same : it.stand ≡ Child = same_Some it.stand Child (sym it.is ∙ tied.0) in
    go k.0 (subst (λ x. operand_suits (machine_of c.d) (target_of c.t) l.root l.form.assignments l.pairs j k.0 x ≡ true) same it.suits)
  where
    go : (k : OperandKind) → operand_suits (machine_of c.d) (target_of c.t) l.root l.form.assignments l.pairs j k Child ≡ true → ⊥
    go (kind.Register space) e =
        let one = and_both (nat_eq space c.d.allocatable) (is_met j l.pairs && (not (is_written j l.form.assignments) || (is_read j l.form.assignments && not l.root))) e in
        let two = and_both (is_met j l.pairs) (not (is_written j l.form.assignments) || (is_read j l.form.assignments && not l.root)) one.1 in
        elim (or_either (not (is_written j l.form.assignments)) (is_read j l.form.assignments && not l.root) two.1) [
          | inl unwritten ↦ let no : false ≡ true = ap not (sym tied.1) ∙ unwritten in cc no
          | inr reads ↦
              let three = and_both (is_read j l.form.assignments) (not l.root) reads in
              let no : false ≡ true = ap not (sym root) ∙ three.1 in cc no
        ]
    go (kind.Imm width) e = cc e
    go kind.Addr e = cc e

-- the register that the root's matched effect writes is the tile's
root_place : (c : Scene) (l : NodeLine) (q p : Place) → IsScene c → Suits c l → l.root ≡ true → l.own ≡ place_slot q → NamesPlace (kinds_of_tile (facts_of c.d) c.t) q → IsOwnPlace (facts_of c.d) q →
    NamesPlace l.form.kinds p → is_place_of true l.stands q p ≡ true → ((space number : ℕ) → p ≡ place.Operand space number → is_written number l.form.assignments ≡ true) →
    (space_of p ≡ space_of q) × (index_of p (line_operands c l) ≡ index_of q c.e.operands)
root_place c l (place.Operand a b) (place.Cell space index) is suits root own names_q own_q names takes written = absurd (cc takes)
root_place c l (place.Cell a b) (place.Cell space index) is suits root own names_q own_q names takes written =
    let same : place.Cell a b ≡ place.Cell space index = same_places (place.Cell a b) (place.Cell space index) takes in
    let one : space ≡ a = cc in
    let two : index ≡ b = cc in (one, two)
root_place c l q (place.Operand space number) is suits root own names_q own_q names takes written =
    let it = operand_is c l number (kind.Register space) suits names in
    go it.stand it.is it.suits it.scratch it.value (ap (takes_goal true q) (sym it.is) ∙ takes)
  where
    tile_space : (q : Place) → NamesPlace (kinds_of_tile (facts_of c.d) c.t) q → IsOwnPlace (facts_of c.d) q → space_of q ≡ c.d.allocatable
    tile_space (place.Operand s k) names own = parameter_space c.d c.t s k is.placed.valid names
    tile_space (place.Cell s k) names own = own_cell_space c.d s k is.placed.valid own

    own_index : (q : Place) → slot_value c.t c.e (place_slot q) ≡ index_of q c.e.operands
    own_index (place.Operand s k) = refl
    own_index (place.Cell s k) = refl

    other : (q : Place) (stand : Stand) → takes_goal true q (Some stand) ≡ true → (stand ≡ Own) ⊎ (stand ≡ Child)
    other q Own e = inl refl
    other q Child e = inr refl
    other (place.Operand s k) Spare e = absurd (cc e)
    other (place.Operand s k) (Param n) e = absurd (cc e)
    other (place.Operand s k) (Cell x y) e = absurd (cc e)
    other (place.Operand s k) (Constant t) e = absurd (cc e)
    other (place.Cell s k) Spare e = absurd (cc e)
    other (place.Cell s k) (Param n) e = absurd (cc e)
    other (place.Cell s k) (Cell x y) e = absurd (cc e)
    other (place.Cell s k) (Constant t) e = absurd (cc e)

    go : (stand : Stand) → slice_get l.stands number ≡ Some stand → operand_suits (machine_of c.d) (target_of c.t) l.root l.form.assignments l.pairs number (kind.Register space) stand ≡ true → (scratch : ℕ) →
        slice_index (line_operands c l) number ≡ slot_value c.t c.e (slot_at (machine_of c.d) l.own (kind.Register space) (is_written number l.form.assignments) scratch stand) →
        takes_goal true q (Some stand) ≡ true → (space ≡ space_of q) × (slice_index (line_operands c l) number ≡ index_of q c.e.operands)
    go stand stands fits scratch value e = elim (other q stand e) [
      | inl same ↦
          let fit = subst (λ x. operand_suits (machine_of c.d) (target_of c.t) l.root l.form.assignments l.pairs number (kind.Register space) x ≡ true) same fits in
          let here : space ≡ c.d.allocatable = numbers space c.d.allocatable (and_both (nat_eq space c.d.allocatable) (is_written number l.form.assignments && not (is_read number l.form.assignments)) fit).0 in (
            here ∙ sym (tile_space q names_q own_q),
            value ∙ ap (λ x. slot_value c.t c.e (slot_at (machine_of c.d) l.own (kind.Register space) (is_written number l.form.assignments) scratch x)) same
                ∙ ap (slot_value c.t c.e) own ∙ own_index q,
          )
      | inr same ↦ absurd (no_ties c l number root suits (stands ∙ ap Some same, written space number refl))
    ]

-- ---- faults of a goal

abbrev pub GuardFaults : Scene → ℕ → Option Tree → Type 0
GuardFaults c code None = ⊥
GuardFaults c code (Some g) = Faults c code g

abbrev pub ToFaults : Scene → ℕ → Destination → Type 0
ToFaults c code (ToMemory width address) = Faults c code address
ToFaults c code other = ⊥

-- some term of the assignment traps
abbrev pub SomeTraps : Scene → ℕ → Assignment → Type 0
SomeTraps c code a = GuardFaults c code a.guard ⊎ (ToFaults c code a.to ⊎ Faults c code a.value)

pub traps_of_parts : (c : Scene) (code : ℕ) (g : Assignment) → AllHoldOf (λ t. Faults c code t → SomeTraps c code g) g
traps_of_parts c code g = record {
  guard = guard g.guard (λ fault. inl fault);
  to = to g.to (λ fault. inr (inl fault));
  value = λ fault. inr (inr fault);
}
  where
    guard : (x : Option Tree) → (GuardFaults c code x → SomeTraps c code g) → GuardHolds (λ t. Faults c code t → SomeTraps c code g) x
    guard None up = tt
    guard (Some t) up = up

    to : (x : Destination) → (ToFaults c code x → SomeTraps c code g) → ToHolds (λ t. Faults c code t → SomeTraps c code g) x
    to (ToMemory width address) up = up
    to (ToPlace p) up = tt
    to ToCounter up = tt
    to ToOutput up = tt
    to ToHalt up = tt
    to ToTrap up = tt

-- what traps after laws traps before them
pub traps_before : (c : Scene) (code : ℕ) (a g : Assignment) → IsScene c → AllHoldOf (IsGood c) a → AlikeOne a g → SomeTraps c code g → SomeTraps c code a
traps_before c code a g is good alike (inl fault) = inl (guard a.guard g.guard good.guard alike.guard fault)
  where
    guard : (x y : Option Tree) → GuardHolds (IsGood c) x → AlikeGuard x y → GuardFaults c code y → GuardFaults c code x
    guard None None good alike fault = fault
    guard None (Some y) good alike fault = absurd alike
    guard (Some x) None good alike fault = absurd alike
    guard (Some x) (Some y) good alike fault = alike_fault c x y code is good alike fault
traps_before c code a g is good alike (inr (inl fault)) = inr (inl (to a.to g.to good.to alike.to fault))
  where
    to : (x y : Destination) → ToHolds (IsGood c) x → AlikeTo x y → ToFaults c code y → ToFaults c code x
    to (ToMemory width address) y good alike fault = alike_fault c address alike.0 code is good alike.2 (subst (ToFaults c code) alike.1 fault)
    to (ToPlace p) y good alike fault = subst (ToFaults c code) alike fault
    to ToCounter y good alike fault = subst (ToFaults c code) alike fault
    to ToOutput y good alike fault = subst (ToFaults c code) alike fault
    to ToHalt y good alike fault = subst (ToFaults c code) alike fault
    to ToTrap y good alike fault = subst (ToFaults c code) alike fault
traps_before c code a g is good alike (inr (inr fault)) = inr (inr (alike_fault c a.value g.value code is good.value alike.value fault))

-- goals after laws are good
pub good_after : (c : Scene) (a g : Assignment) → AllHoldOf (IsGood c) a → AlikeOne a g → AllHoldOf (IsGood c) g
good_after c a g good alike = record {
  guard = guard a.guard g.guard good.guard alike.guard;
  to = to a.to g.to good.to alike.to;
  value = good-alike c a.value g.value alike.value good.value;
}
  where
    guard : (x y : Option Tree) → GuardHolds (IsGood c) x → AlikeGuard x y → GuardHolds (IsGood c) y
    guard None None good alike = tt
    guard None (Some y) good alike = absurd alike
    guard (Some x) None good alike = absurd alike
    guard (Some x) (Some y) good alike = good-alike c x y alike good

    to : (x y : Destination) → ToHolds (IsGood c) x → AlikeTo x y → ToHolds (IsGood c) y
    to (ToMemory width address) y good alike = subst (ToHolds (IsGood c)) (sym alike.1) (good-alike c address alike.0 alike.2 good)
    to (ToPlace p) y good alike = subst (ToHolds (IsGood c)) (sym alike) tt
    to ToCounter y good alike = subst (ToHolds (IsGood c)) (sym alike) tt
    to ToOutput y good alike = subst (ToHolds (IsGood c)) (sym alike) tt
    to ToHalt y good alike = subst (ToHolds (IsGood c)) (sym alike) tt
    to ToTrap y good alike = subst (ToHolds (IsGood c)) (sym alike) tt

-- ---- inputs

guard_inputs_met : (h g : Option Tree) (xs : List Pair) → guard_pairs true h g ≡ Some xs → inputs_in_guard g ≡ inputs_in_guard h + inputs_met xs
guard_inputs_met None None xs e = let same : [] ≡ xs = let it : Some [] ≡ Some xs = e in cc in subst (λ ys. 0 ≡ 0 + inputs_met ys) same refl
guard_inputs_met (Some h) (Some g) xs e = inputs_meet true h g xs e
guard_inputs_met None (Some g) xs e = absurd (cc e)
guard_inputs_met (Some h) None xs e = absurd (cc e)

nothing : (xs : List Pair) → Some [] ≡ Some xs → 0 ≡ 0 + inputs_met xs
nothing xs e = let same : [] ≡ xs = cc in subst (λ ys. 0 ≡ 0 + inputs_met ys) same refl

same_kind_inputs : (stands : List Stand) (a g : Destination) (xs : List Pair) → meets true stands g a ≡ true → destination_pairs true a g ≡ Some xs →
    inputs_in_destination g ≡ inputs_in_destination a + inputs_met xs
same_kind_inputs stands (ToMemory width h) (ToMemory w t) xs met e = inputs_meet true h t xs (if_parts (nat_eq width w) (pairs_of true h t) xs e).1
same_kind_inputs stands (ToMemory width h) (ToPlace p) xs met e = absurd (cc met)
same_kind_inputs stands (ToMemory width h) ToCounter xs met e = absurd (cc met)
same_kind_inputs stands (ToMemory width h) ToOutput xs met e = absurd (cc met)
same_kind_inputs stands (ToMemory width h) ToHalt xs met e = absurd (cc met)
same_kind_inputs stands (ToMemory width h) ToTrap xs met e = absurd (cc met)
same_kind_inputs stands (ToPlace p) (ToPlace q) xs met e = nothing xs (let it : Some [] ≡ Some xs = e in it)
same_kind_inputs stands (ToPlace p) (ToMemory w t) xs met e = absurd (cc met)
same_kind_inputs stands (ToPlace p) ToCounter xs met e = absurd (cc met)
same_kind_inputs stands (ToPlace p) ToOutput xs met e = absurd (cc met)
same_kind_inputs stands (ToPlace p) ToHalt xs met e = absurd (cc met)
same_kind_inputs stands (ToPlace p) ToTrap xs met e = absurd (cc met)
same_kind_inputs stands ToCounter (ToMemory w t) xs met e = absurd (cc met)
same_kind_inputs stands ToOutput (ToMemory w t) xs met e = absurd (cc met)
same_kind_inputs stands ToHalt (ToMemory w t) xs met e = absurd (cc met)
same_kind_inputs stands ToTrap (ToMemory w t) xs met e = absurd (cc met)
same_kind_inputs stands ToCounter (ToPlace p) xs met e = absurd (cc met)
same_kind_inputs stands ToCounter ToCounter xs met e = nothing xs (let it : Some [] ≡ Some xs = e in it)
same_kind_inputs stands ToCounter ToOutput xs met e = absurd (cc met)
same_kind_inputs stands ToCounter ToHalt xs met e = absurd (cc met)
same_kind_inputs stands ToCounter ToTrap xs met e = absurd (cc met)
same_kind_inputs stands ToOutput (ToPlace p) xs met e = absurd (cc met)
same_kind_inputs stands ToOutput ToCounter xs met e = absurd (cc met)
same_kind_inputs stands ToOutput ToOutput xs met e = nothing xs (let it : Some [] ≡ Some xs = e in it)
same_kind_inputs stands ToOutput ToHalt xs met e = absurd (cc met)
same_kind_inputs stands ToOutput ToTrap xs met e = absurd (cc met)
same_kind_inputs stands ToHalt (ToPlace p) xs met e = absurd (cc met)
same_kind_inputs stands ToHalt ToCounter xs met e = absurd (cc met)
same_kind_inputs stands ToHalt ToOutput xs met e = absurd (cc met)
same_kind_inputs stands ToHalt ToHalt xs met e = nothing xs (let it : Some [] ≡ Some xs = e in it)
same_kind_inputs stands ToHalt ToTrap xs met e = absurd (cc met)
same_kind_inputs stands ToTrap (ToPlace p) xs met e = absurd (cc met)
same_kind_inputs stands ToTrap ToCounter xs met e = absurd (cc met)
same_kind_inputs stands ToTrap ToOutput xs met e = absurd (cc met)
same_kind_inputs stands ToTrap ToHalt xs met e = absurd (cc met)
same_kind_inputs stands ToTrap ToTrap xs met e = nothing xs (let it : Some [] ≡ Some xs = e in it)

pub goal_inputs_met : (stands : List Stand) (a g : Assignment) (pairs : List Pair) → HasPairs a g pairs → meets true stands g.to a.to ≡ true → inputs_in_goal g ≡ inputs_in_goal a + inputs_met pairs
goal_inputs_met stands a g pairs has met =
    let one = guard_inputs_met a.guard g.guard has.guards has.are_guards in
    let two = same_kind_inputs stands a.to g.to has.tos met has.are_tos in
    let three = inputs_meet true a.value g.value has.values has.are_values in
    let first = inputs_met-append has.guards (has.tos ++ has.values) in
    let second = inputs_met-append has.tos has.values in
    let all : inputs_met (has.guards ++ (has.tos ++ has.values)) ≡ inputs_met pairs = ap inputs_met has.whole in
    omega (arith, one, two, three, first, second, all)

-- ---- the same writes

guard_same : (a b : Reading) → AreAlikeReadings a b → a.after ≡ b.after → (h g : Option Tree) (xs : List Pair) → guard_pairs true h g ≡ Some xs → (1 ≤ inputs_in_guard h → next_input_of a.state ≡ next_input_of b.state) →
    AllByRecursion (ReadsAs a b) xs → option_map (λ t. value_at t a) h ≡ option_map (λ t. value_at t b) g
guard_same a b alike next None None xs e input reads = refl
guard_same a b alike next (Some h) (Some g) xs e input reads =
    ap Some (values_meet true a b alike (λ root. next) h g xs e (λ is. input (reads_some h is)) reads).value
guard_same a b alike next None (Some g) xs e input reads = absurd (cc e)
guard_same a b alike next (Some h) None xs e input reads = absurd (cc e)

guard_alike : (c : Scene) (h g : Option Tree) → IsScene c → GuardHolds (IsGood c) h → AlikeGuard h g → option_map (λ t. value_at t (at_front c)) g ≡ option_map (λ t. value_at t (at_front c)) h
guard_alike c None None is good alike = refl
guard_alike c (Some h) (Some g) is good alike = ap Some (same_value c h g is good alike)
guard_alike c None (Some g) is good alike = absurd alike
guard_alike c (Some h) None is good alike = absurd alike

guard_of_is : (g : Option Term) (r : Reading) → guard_of g r.operands r.after r.state ≡ guard_value (option_map (λ t. value_at t r) (option_map tree_of g))
guard_of_is None r = refl
guard_of_is (Some g) r = refl

-- what a destination writes, for each word
abbrev pub SameWrites : Dest → Reading → Dest → Reading → Type 0
SameWrites x a y b = (word : ℕ) → write_of x a.operands a.after a.state word ≡ write_of y b.operands b.after b.state word

pub effects_same : (e f : Effect) (a b : Reading) → guard_of e.guard a.operands a.after a.state ≡ guard_of f.guard b.operands b.after b.state → SameWrites e.to a f.to b →
    value_at (tree_of e.value) a ≡ value_at (tree_of f.value) b → writes_of_effect e a.operands a.after a.state ≡ writes_of_effect f b.operands b.after b.state
unfolding writes_of_effect
effects_same e f a b guards tos values =
    let whole : (Option Write) → ℕ → Option (List Write) = λ w g. cond (nat_eq g 0) (Some []) (option_map (λ (x : Write). x ∷ []) w) in
    let writes : option_and_then (write_of e.to a.operands a.after a.state) (value_at (tree_of e.value) a) ≡ option_and_then (write_of f.to b.operands b.after b.state) (value_at (tree_of f.value) b) =
    ap (option_and_then (write_of e.to a.operands a.after a.state)) values ∙ each (value_at (tree_of f.value) b) in
    ap (λ w. option_and_then (whole w) (guard_of e.guard a.operands a.after a.state)) writes
    ∙ ap (option_and_then (whole (option_and_then (write_of f.to b.operands b.after b.state) (value_at (tree_of f.value) b)))) guards
  where
    each : (v : Option ℕ) → option_and_then (write_of e.to a.operands a.after a.state) v ≡ option_and_then (write_of f.to b.operands b.after b.state) v
    each None = refl
    each (Some word) = tos word

pub reads_input : (e : Effect) → effect_has_input e ≡ true → 1 ≤ inputs_in_goal (assignment_of e)
unfolding effect_has_input
reads_input e is = elim (or_either (guard_has_input e.guard) (dest_has_input e.to || has_input (tree_of e.value)) is) [
  | inl here ↦ let it = guard e.guard here in omega (arith, it)
  | inr later ↦ elim (or_either (dest_has_input e.to) (has_input (tree_of e.value)) later) [
    | inl here ↦ let it = to e.to here in omega (arith, it)
    | inr here ↦ let it = reads_some (tree_of e.value) here in omega (arith, it)
  ]
]
  where
    guard : (g : Option Term) → guard_has_input g ≡ true → 1 ≤ inputs_in_guard (option_map tree_of g)
    guard None here = absurd (cc here)
    guard (Some g) here = reads_some (tree_of g) here

    to : (x : Dest) → dest_has_input x ≡ true → 1 ≤ inputs_in_destination (destination_of x)
    to (dest.Mem width address) here = reads_some (tree_of address) here
    to (dest.Reg p) here = absurd (cc here)
    to dest.Pc here = absurd (cc here)
    to dest.Out here = absurd (cc here)
    to dest.Halt here = absurd (cc here)
    to dest.Trap here = absurd (cc here)

pub reads_no_input : (e : Effect) → effect_has_input e ≡ false → inputs_in_goal (assignment_of e) ≡ 0
unfolding effect_has_input
reads_no_input e is =
    let one = or_neither (guard_has_input e.guard) (dest_has_input e.to || has_input (tree_of e.value)) is in
    let two = or_neither (dest_has_input e.to) (has_input (tree_of e.value)) one.1 in
    let a = guard e.guard one.0 in
    let b = to e.to two.0 in
    let d = inputs_none (tree_of e.value) two.1 in
    omega (arith, a, b, d)
  where
    guard : (g : Option Term) → guard_has_input g ≡ false → inputs_in_guard (option_map tree_of g) ≡ 0
    guard None here = refl
    guard (Some g) here = inputs_none (tree_of g) here

    to : (x : Dest) → dest_has_input x ≡ false → inputs_in_destination (destination_of x) ≡ 0
    to (dest.Mem width address) here = inputs_none (tree_of address) here
    to (dest.Reg p) here = refl
    to dest.Pc here = refl
    to dest.Out here = refl
    to dest.Halt here = refl
    to dest.Trap here = refl

-- laws keep whether the input is read
pub inputs_alike : (e : Effect) (g : Assignment) → AlikeOne (assignment_of e) g → (1 ≤ inputs_in_goal g → effect_has_input e ≡ true) × (effect_has_input e ≡ true → 1 ≤ inputs_in_goal g)
unfolding effect_has_input
inputs_alike e g alike = (
  (λ some. by (effect_has_input e) refl some),
  λ is. elim (or_either (guard_has_input e.guard) (dest_has_input e.to || has_input (tree_of e.value)) is) [
    | inl here ↦ let it = guard e.guard g.guard alike.guard here in omega (arith, it)
    | inr later ↦ elim (or_either (dest_has_input e.to) (has_input (tree_of e.value)) later) [
      | inl here ↦ let it = to e.to g.to alike.to here in omega (arith, it)
      | inr here ↦ let it = reads_some g.value (alike.value.input ∙ here) in omega (arith, it)
    ]
  ],
)
  where
    guard : (h : Option Term) (k : Option Tree) → AlikeGuard (option_map tree_of h) k → guard_has_input h ≡ true → 1 ≤ inputs_in_guard k
    guard None k alike here = absurd (cc here)
    guard (Some h) None alike here = absurd alike
    guard (Some h) (Some k) alike here = reads_some k (alike.input ∙ here)

    to : (x : Dest) (y : Destination) → AlikeTo (destination_of x) y → dest_has_input x ≡ true → 1 ≤ inputs_in_destination y
    to (dest.Mem width address) y alike here = subst (λ z. 1 ≤ inputs_in_destination z) (sym alike.1) (reads_some alike.0 (alike.2.input ∙ here))
    to (dest.Reg p) y alike here = absurd (cc here)
    to dest.Pc y alike here = absurd (cc here)
    to dest.Out y alike here = absurd (cc here)
    to dest.Halt y alike here = absurd (cc here)
    to dest.Trap y alike here = absurd (cc here)

    no_guard : (h : Option Term) (k : Option Tree) → AlikeGuard (option_map tree_of h) k → guard_has_input h ≡ false → inputs_in_guard k ≡ 0
    no_guard None None alike here = refl
    no_guard None (Some k) alike here = absurd alike
    no_guard (Some h) None alike here = refl
    no_guard (Some h) (Some k) alike here = inputs_none k (alike.input ∙ here)

    no_to : (x : Dest) (y : Destination) → AlikeTo (destination_of x) y → dest_has_input x ≡ false → inputs_in_destination y ≡ 0
    no_to (dest.Mem width address) y alike here = ap inputs_in_destination alike.1 ∙ inputs_none alike.0 (alike.2.input ∙ here)
    no_to (dest.Reg p) y alike here = ap inputs_in_destination alike
    no_to dest.Pc y alike here = ap inputs_in_destination alike
    no_to dest.Out y alike here = ap inputs_in_destination alike
    no_to dest.Halt y alike here = ap inputs_in_destination alike
    no_to dest.Trap y alike here = ap inputs_in_destination alike

    by : (b : Bool) → effect_has_input e ≡ b → 1 ≤ inputs_in_goal g → b ≡ true
    by true is some = refl
    by false is some =
        let one = or_neither (guard_has_input e.guard) (dest_has_input e.to || has_input (tree_of e.value)) is in
        let two = or_neither (dest_has_input e.to) (has_input (tree_of e.value)) one.1 in
        let a = no_guard e.guard g.guard alike.guard one.0 in
        let b = no_to e.to g.to alike.to two.0 in
        let d = inputs_none g.value (alike.value.input ∙ two.1) in
        absurd (omega (arith, a, b, d, some))

-- the root's matched effect writes what the tile's effect does
pub root_writes : (c : Scene) (l : NodeLine) (ps : List Pair) (e f : Effect) (g : Assignment) (s : State) (after : ℕ) → IsScene c → Suits c l → l.root ≡ true → AreKept (IsOuter c) c.start s → AreHeld c l s → after ≡ c.after →
    list_all (λ (x : Pair). leaf_meets (machine_of c.d) (target_of c.t) l.stands l.pairs x.leaf x.part) ps ≡ true → HasPairs (assignment_of e) g ps → meets true l.stands g.to (assignment_of e).to ≡ true →
    AllHoldOf (IsGood c) (assignment_of f) → AlikeOne (assignment_of f) g → EffectNames c.d.facts.word l.form.kinds e →
    NamesDest c.d.facts.word (kinds_of_tile (facts_of c.d) c.t) f.to → DestNamesOwn (facts_of c.d) f.to → ((q : Place) → f.to ≡ dest.Reg q → l.own ≡ place_slot q) →
    ((space number : ℕ) → e.to ≡ dest.Reg (place.Operand space number) → is_written number l.form.assignments ≡ true) →
    (1 ≤ inputs_in_goal (assignment_of e) → next_input_of s ≡ next_input_of c.start) →
    writes_of_effect e (line_operands c l) after s ≡ writes_of_effect f c.e.operands c.after c.start
root_writes c l ps e f g s after is suits root kept held same_after leaves has met good alike names names_to own_to own written untaken =
    let r : Reading = record { operands = line_operands c l; after = after; state = s } in
    let fine : AllHoldOf (IsGood c) g = good_after c (assignment_of f) g good alike in
    let named : AllHoldOf (NamesOperands c.d.facts.word l.form.kinds) (assignment_of e) = record { guard = guard_names e.guard names.guard; to = to_names e.to names.to; value = names.value } in
    let reads = all_read c is l suits s after kept held ps leaves (all_parts_hold (IsGood c) (good-parts c) (assignment_of e) g ps has fine)
    (all_leaves_hold (NamesOperands c.d.facts.word l.form.kinds) (names-parts c.d.facts.word l.form.kinds) (assignment_of e) g ps has named) in
    let parts = each_of_append (ReadsAs r (at_front c)) has.guards (has.tos ++ has.values) (subst (AllByRecursion (ReadsAs r (at_front c))) (sym has.whole) reads) in
    let more = each_of_append (ReadsAs r (at_front c)) has.tos has.values parts.1 in
    let same : AreAlikeReadings r (at_front c) = record { order = ap (λ f. f.order) kept.facts; memory = kept.memory } in
    let guards : guard_of e.guard r.operands r.after r.state ≡ guard_of f.guard c.e.operands c.after c.start =
    guard_of_is e.guard r
    ∙ ap guard_value (guard_same r (at_front c) same same_after (option_map tree_of e.guard) g.guard has.guards has.are_guards (λ some. untaken (omega (arith, some))) parts.0
    ∙ guard_alike c (option_map tree_of f.guard) g.guard is good.guard alike.guard)
    ∙ sym (guard_of_is f.guard (at_front c)) in
    let values : value_at (tree_of e.value) r ≡ value_at (tree_of f.value) (at_front c) =
    (values_meet true r (at_front c) same (λ root. same_after) (tree_of e.value) g.value has.values has.are_values
    (λ reads_it. untaken (let it = reads_some (tree_of e.value) reads_it in omega (arith, it))) more.1).value
    ∙ same_value c (tree_of f.value) g.value is good.value alike.value in
    effects_same e f r (at_front c) guards (tos e.to f.to g.to refl refl names.to names_to own_to met good.to alike.to has.tos has.are_tos more.0 same) values
  where
    guard_names : (g : Option Term) → IfSome g (λ t. NamesOperands c.d.facts.word l.form.kinds (tree_of t)) → GuardHolds (NamesOperands c.d.facts.word l.form.kinds) (option_map tree_of g)
    guard_names None names = tt
    guard_names (Some g) names = names

    to_names : (x : Dest) → NamesDest c.d.facts.word l.form.kinds x → ToHolds (NamesOperands c.d.facts.word l.form.kinds) (destination_of x)
    to_names (dest.Mem width address) names = names
    to_names (dest.Reg p) names = tt
    to_names dest.Pc names = tt
    to_names dest.Out names = tt
    to_names dest.Halt names = tt
    to_names dest.Trap names = tt

    tos : (x y : Dest) (z : Destination) → e.to ≡ x → f.to ≡ y → NamesDest c.d.facts.word l.form.kinds x → NamesDest c.d.facts.word (kinds_of_tile (facts_of c.d) c.t) y → DestNamesOwn (facts_of c.d) y → meets true l.stands z (destination_of x) ≡ true →
        ToHolds (IsGood c) (destination_of y) → AlikeTo (destination_of y) z → (xs : List Pair) → destination_pairs true (destination_of x) z ≡ Some xs →
        AllByRecursion (ReadsAs (record { operands = line_operands c l; after = after; state = s }) (at_front c)) xs → AreAlikeReadings (record { operands = line_operands c l; after = after; state = s }) (at_front c) →
        SameWrites x (record { operands = line_operands c l; after = after; state = s }) y (at_front c)
    tos (dest.Reg p) (dest.Reg q) z is_x is_y names names_y own_y met good alike xs pairs reads same word =
        let both = root_place c l q p is suits root (own q is_y) names_y own_y names (subst (λ t. meets true l.stands t (ToPlace p) ≡ true) alike met)
        (λ space number here. written space number (is_x ∙ ap dest.Reg here)) in
        ap (λ n. Some (ToCell n (index_of p (line_operands c l)) word)) both.0 ∙ ap (λ n. Some (ToCell (space_of q) n word)) both.1
    tos (dest.Mem wx ax) (dest.Reg py) z is_x is_y names names_y own_y met good alike xs pairs reads same word =
        absurd (let no : meets true l.stands (destination_of (dest.Reg py)) (destination_of (dest.Mem wx ax)) ≡ true = subst (λ t. meets true l.stands t (destination_of (dest.Mem wx ax)) ≡ true) alike met in cc no)
    tos dest.Pc (dest.Reg py) z is_x is_y names names_y own_y met good alike xs pairs reads same word =
        absurd (let no : meets true l.stands (destination_of (dest.Reg py)) (destination_of dest.Pc) ≡ true = subst (λ t. meets true l.stands t (destination_of dest.Pc) ≡ true) alike met in cc no)
    tos dest.Out (dest.Reg py) z is_x is_y names names_y own_y met good alike xs pairs reads same word =
        absurd (let no : meets true l.stands (destination_of (dest.Reg py)) (destination_of dest.Out) ≡ true = subst (λ t. meets true l.stands t (destination_of dest.Out) ≡ true) alike met in cc no)
    tos dest.Halt (dest.Reg py) z is_x is_y names names_y own_y met good alike xs pairs reads same word =
        absurd (let no : meets true l.stands (destination_of (dest.Reg py)) (destination_of dest.Halt) ≡ true = subst (λ t. meets true l.stands t (destination_of dest.Halt) ≡ true) alike met in cc no)
    tos dest.Trap (dest.Reg py) z is_x is_y names names_y own_y met good alike xs pairs reads same word =
        absurd (let no : meets true l.stands (destination_of (dest.Reg py)) (destination_of dest.Trap) ≡ true = subst (λ t. meets true l.stands t (destination_of dest.Trap) ≡ true) alike met in cc no)
    tos (dest.Reg px) (dest.Mem v b) z is_x is_y names names_y own_y met good alike xs pairs reads same word =
        absurd (let no : meets true l.stands (ToMemory v alike.0) (destination_of (dest.Reg px)) ≡ true = subst (λ t. meets true l.stands t (destination_of (dest.Reg px)) ≡ true) alike.1 met in cc no)
    tos (dest.Mem w a) (dest.Mem v b) z is_x is_y names names_y own_y met good alike xs pairs reads same word =
        let goal : destination_pairs true (ToMemory w (tree_of a)) (ToMemory v alike.0) ≡ Some xs = subst (λ t. destination_pairs true (ToMemory w (tree_of a)) t ≡ Some xs) alike.1 pairs in
        let it = if_parts (nat_eq w v) (pairs_of true (tree_of a) alike.0) xs goal in
        let width : w ≡ v = numbers w v it.0 in
        let address : value_at (tree_of a) (record { operands = line_operands c l; after = after; state = s }) ≡ value_at (tree_of b) (at_front c) =
        (values_meet true (record { operands = line_operands c l; after = after; state = s }) (at_front c) same (λ root. same_after) (tree_of a) alike.0 xs it.1
        (λ reads_it. untaken (let some = reads_some (tree_of a) reads_it in let here : inputs_in (tree_of a) ≡ inputs_in_destination (assignment_of e).to = ap (λ (x : Dest). inputs_in_destination (destination_of x)) (sym is_x) in omega (arith, some, here))) reads).value
        ∙ same_value c (tree_of b) alike.0 is good alike.2 in
        ap (λ m. option_and_then (store_at m (w / 8) word) (value_at (tree_of a) (record { operands = line_operands c l; after = after; state = s }))) kept.memory
        ∙ ap (λ n. option_and_then (store_at c.start.memory (n / 8) word) (value_at (tree_of a) (record { operands = line_operands c l; after = after; state = s }))) width
        ∙ ap (option_and_then (store_at c.start.memory (v / 8) word)) address
    tos dest.Pc (dest.Mem v b) z is_x is_y names names_y own_y met good alike xs pairs reads same word =
        absurd (let no : meets true l.stands (ToMemory v alike.0) (destination_of dest.Pc) ≡ true = subst (λ t. meets true l.stands t (destination_of dest.Pc) ≡ true) alike.1 met in cc no)
    tos dest.Out (dest.Mem v b) z is_x is_y names names_y own_y met good alike xs pairs reads same word =
        absurd (let no : meets true l.stands (ToMemory v alike.0) (destination_of dest.Out) ≡ true = subst (λ t. meets true l.stands t (destination_of dest.Out) ≡ true) alike.1 met in cc no)
    tos dest.Halt (dest.Mem v b) z is_x is_y names names_y own_y met good alike xs pairs reads same word =
        absurd (let no : meets true l.stands (ToMemory v alike.0) (destination_of dest.Halt) ≡ true = subst (λ t. meets true l.stands t (destination_of dest.Halt) ≡ true) alike.1 met in cc no)
    tos dest.Trap (dest.Mem v b) z is_x is_y names names_y own_y met good alike xs pairs reads same word =
        absurd (let no : meets true l.stands (ToMemory v alike.0) (destination_of dest.Trap) ≡ true = subst (λ t. meets true l.stands t (destination_of dest.Trap) ≡ true) alike.1 met in cc no)
    tos (dest.Reg px) dest.Pc z is_x is_y names names_y own_y met good alike xs pairs reads same word =
        absurd (let no : meets true l.stands (destination_of dest.Pc) (destination_of (dest.Reg px)) ≡ true = subst (λ t. meets true l.stands t (destination_of (dest.Reg px)) ≡ true) alike met in cc no)
    tos (dest.Mem wx ax) dest.Pc z is_x is_y names names_y own_y met good alike xs pairs reads same word =
        absurd (let no : meets true l.stands (destination_of dest.Pc) (destination_of (dest.Mem wx ax)) ≡ true = subst (λ t. meets true l.stands t (destination_of (dest.Mem wx ax)) ≡ true) alike met in cc no)
    tos dest.Pc dest.Pc z is_x is_y names names_y own_y met good alike xs pairs reads same word = refl
    tos dest.Out dest.Pc z is_x is_y names names_y own_y met good alike xs pairs reads same word =
        absurd (let no : meets true l.stands (destination_of dest.Pc) (destination_of dest.Out) ≡ true = subst (λ t. meets true l.stands t (destination_of dest.Out) ≡ true) alike met in cc no)
    tos dest.Halt dest.Pc z is_x is_y names names_y own_y met good alike xs pairs reads same word =
        absurd (let no : meets true l.stands (destination_of dest.Pc) (destination_of dest.Halt) ≡ true = subst (λ t. meets true l.stands t (destination_of dest.Halt) ≡ true) alike met in cc no)
    tos dest.Trap dest.Pc z is_x is_y names names_y own_y met good alike xs pairs reads same word =
        absurd (let no : meets true l.stands (destination_of dest.Pc) (destination_of dest.Trap) ≡ true = subst (λ t. meets true l.stands t (destination_of dest.Trap) ≡ true) alike met in cc no)
    tos (dest.Reg px) dest.Out z is_x is_y names names_y own_y met good alike xs pairs reads same word =
        absurd (let no : meets true l.stands (destination_of dest.Out) (destination_of (dest.Reg px)) ≡ true = subst (λ t. meets true l.stands t (destination_of (dest.Reg px)) ≡ true) alike met in cc no)
    tos (dest.Mem wx ax) dest.Out z is_x is_y names names_y own_y met good alike xs pairs reads same word =
        absurd (let no : meets true l.stands (destination_of dest.Out) (destination_of (dest.Mem wx ax)) ≡ true = subst (λ t. meets true l.stands t (destination_of (dest.Mem wx ax)) ≡ true) alike met in cc no)
    tos dest.Pc dest.Out z is_x is_y names names_y own_y met good alike xs pairs reads same word =
        absurd (let no : meets true l.stands (destination_of dest.Out) (destination_of dest.Pc) ≡ true = subst (λ t. meets true l.stands t (destination_of dest.Pc) ≡ true) alike met in cc no)
    tos dest.Out dest.Out z is_x is_y names names_y own_y met good alike xs pairs reads same word = refl
    tos dest.Halt dest.Out z is_x is_y names names_y own_y met good alike xs pairs reads same word =
        absurd (let no : meets true l.stands (destination_of dest.Out) (destination_of dest.Halt) ≡ true = subst (λ t. meets true l.stands t (destination_of dest.Halt) ≡ true) alike met in cc no)
    tos dest.Trap dest.Out z is_x is_y names names_y own_y met good alike xs pairs reads same word =
        absurd (let no : meets true l.stands (destination_of dest.Out) (destination_of dest.Trap) ≡ true = subst (λ t. meets true l.stands t (destination_of dest.Trap) ≡ true) alike met in cc no)
    tos (dest.Reg px) dest.Halt z is_x is_y names names_y own_y met good alike xs pairs reads same word =
        absurd (let no : meets true l.stands (destination_of dest.Halt) (destination_of (dest.Reg px)) ≡ true = subst (λ t. meets true l.stands t (destination_of (dest.Reg px)) ≡ true) alike met in cc no)
    tos (dest.Mem wx ax) dest.Halt z is_x is_y names names_y own_y met good alike xs pairs reads same word =
        absurd (let no : meets true l.stands (destination_of dest.Halt) (destination_of (dest.Mem wx ax)) ≡ true = subst (λ t. meets true l.stands t (destination_of (dest.Mem wx ax)) ≡ true) alike met in cc no)
    tos dest.Pc dest.Halt z is_x is_y names names_y own_y met good alike xs pairs reads same word =
        absurd (let no : meets true l.stands (destination_of dest.Halt) (destination_of dest.Pc) ≡ true = subst (λ t. meets true l.stands t (destination_of dest.Pc) ≡ true) alike met in cc no)
    tos dest.Out dest.Halt z is_x is_y names names_y own_y met good alike xs pairs reads same word =
        absurd (let no : meets true l.stands (destination_of dest.Halt) (destination_of dest.Out) ≡ true = subst (λ t. meets true l.stands t (destination_of dest.Out) ≡ true) alike met in cc no)
    tos dest.Halt dest.Halt z is_x is_y names names_y own_y met good alike xs pairs reads same word = refl
    tos dest.Trap dest.Halt z is_x is_y names names_y own_y met good alike xs pairs reads same word =
        absurd (let no : meets true l.stands (destination_of dest.Halt) (destination_of dest.Trap) ≡ true = subst (λ t. meets true l.stands t (destination_of dest.Trap) ≡ true) alike met in cc no)
    tos (dest.Reg px) dest.Trap z is_x is_y names names_y own_y met good alike xs pairs reads same word =
        absurd (let no : meets true l.stands (destination_of dest.Trap) (destination_of (dest.Reg px)) ≡ true = subst (λ t. meets true l.stands t (destination_of (dest.Reg px)) ≡ true) alike met in cc no)
    tos (dest.Mem wx ax) dest.Trap z is_x is_y names names_y own_y met good alike xs pairs reads same word =
        absurd (let no : meets true l.stands (destination_of dest.Trap) (destination_of (dest.Mem wx ax)) ≡ true = subst (λ t. meets true l.stands t (destination_of (dest.Mem wx ax)) ≡ true) alike met in cc no)
    tos dest.Pc dest.Trap z is_x is_y names names_y own_y met good alike xs pairs reads same word =
        absurd (let no : meets true l.stands (destination_of dest.Trap) (destination_of dest.Pc) ≡ true = subst (λ t. meets true l.stands t (destination_of dest.Pc) ≡ true) alike met in cc no)
    tos dest.Out dest.Trap z is_x is_y names names_y own_y met good alike xs pairs reads same word =
        absurd (let no : meets true l.stands (destination_of dest.Trap) (destination_of dest.Out) ≡ true = subst (λ t. meets true l.stands t (destination_of dest.Out) ≡ true) alike met in cc no)
    tos dest.Halt dest.Trap z is_x is_y names names_y own_y met good alike xs pairs reads same word =
        absurd (let no : meets true l.stands (destination_of dest.Trap) (destination_of dest.Halt) ≡ true = subst (λ t. meets true l.stands t (destination_of dest.Halt) ≡ true) alike met in cc no)
    tos dest.Trap dest.Trap z is_x is_y names names_y own_y met good alike xs pairs reads same word = refl
