-- What laws make of a tile's only effect, and which registers a tile reads.
use Rattle.std.proofs.Common.{◌≡◌, ◌∙◌, ◌⊎◌, ◌<◌, ◌&&◌, ℕ, zero, suc, List, [], ◌∷◌, ◌++◌, Bool, true, false, not, cond, Option, None, Some, IfSome, nat_eq, nat_lt, nat_le, slice_get, slice_set, slice_index, option_and_then, inl, inr, refl, sym, ap, subst, arith}
use Rattle.std.specs.List.{AllByRecursion}
use Rattle.std.specs.Option.{option_map}
use Rattle.std.proofs.lemmas.Bool.{and_from}
use Rattle.qc_lists.specs.Law.Lists.{each_append}
use Rattle.qc_terms.specs.declared.term.Dest.{Dest}
use Rattle.qc_terms.specs.declared.term.Dest.TheVariants as dest
use Rattle.qc_terms.specs.declared.term.Effect.{Effect}
use Rattle.qc_terms.specs.declared.term.Place.{Place}
use Rattle.qc_terms.specs.declared.term.Place.TheVariants as place
use Rattle.qc_terms.specs.declared.term.Term.{Term}
use Rattle.qc_terms.specs.State.{context_of}
use Rattle.qc_terms.specs.Tree.{Tree, Number, Unary, Binary, Register, Immediate, Load, NextInput, AddressAfter, tree_of, width_of}
use Rattle.qc_terms.specs.Typing.{DestFits, EffectFits, IsTyped, IsTypedEffect, OperandsFit, TakesWidth}
use Rattle.qc_descr.specs.declared.description.Description.{Description}
use Rattle.qc_descr.specs.declared.description.OperandKind.TheVariants as kind
use Rattle.qc_descr.specs.Description.{counts_of}
use Rattle.qc_descr.specs.Valid.{EffectNames, IsValid, NamesDest, NamesOperands, NamesPlace}
use Rattle.qc_tiles.specs.declared.tile.Tile.{Tile}
use Rattle.qc_tiles.specs.Sound.{DestNamesOwn, EffectNamesOwn, IsOwnPlace, NamesOwn, facts_of, kinds_of_tile, operand_kinds}
use Rattle.qc_equations.specs.declared.names.Law.{Law}
use Rattle.qc_equations.specs.Alike.{AllNodes, AreAlike}
use Rattle.qc_equations.specs.Law.Alike.{alike-refl, alike-trans}
use Rattle.qc_equations.specs.Steps.{rewritten}
use Rattle.qc_code.specs.Marks.{is_allocatable}
use Rattle.qc_code.specs.TileHolds.{is_flag_space}
use Rattle.qc_code.specs.Law.Operands.{operand_space}
use Rattle.qc_derivations.specs.Goals.{goals_after, with_address, with_destination, with_guard, with_part, with_place, with_value}
use Rattle.qc_derivations.specs.Machine.{Assignment, Destination, ToCounter, ToHalt, ToMemory, ToOutput, ToPlace, ToTrap, assignment_of, destination_of}
use Rattle.qc_derivations.specs.Matching.{Pair, assignment_pairs, both, destination_pairs, guard_pairs, pairs_of}
use Rattle.qc_soundness.proofs.Goals.{Laws}
use Rattle.qc_soundness.proofs.Optional.{and_both, both_parts, eq_test, if_parts, le_from, map_parts, numbers, then_parts}
use Rattle.qc_soundness.proofs.Patterns.{GoesToParts, LeafHolds, PartHolds, leaves_hold, parts_hold}
use Rattle.qc_soundness.proofs.Scene.{IsGood, IsScene, Scene, allocatable_no_flag, is_kept_place, reads_kept}

-- ---- alike assignments

abbrev pub AlikeGuard : Option Tree → Option Tree → Type 0
AlikeGuard None None = Unit {0}
AlikeGuard None (Some h) = ⊥
AlikeGuard (Some g) None = ⊥
AlikeGuard (Some g) (Some h) = AreAlike g h

abbrev pub AlikeTo : Destination → Destination → Type 0
AlikeTo (ToMemory width address) to = (b : Tree) × (to ≡ ToMemory width b) × AreAlike address b
AlikeTo other to = to ≡ other

pub record AlikeOne (a b : Assignment) : Type 0 where
  pub guard : AlikeGuard a.guard b.guard
  pub to : AlikeTo a.to b.to
  pub value : AreAlike a.value b.value

guard-refl : (g : Option Tree) → AlikeGuard g g
guard-refl None = tt
guard-refl (Some g) = alike-refl g

guard-trans : (f g h : Option Tree) → AlikeGuard f g → AlikeGuard g h → AlikeGuard f h
guard-trans None None None one two = tt
guard-trans None None (Some h) one two = two
guard-trans None (Some g) h one two = absurd one
guard-trans (Some f) None h one two = absurd one
guard-trans (Some f) (Some g) None one two = two
guard-trans (Some f) (Some g) (Some h) one two = alike-trans f g h one two

to-refl : (a : Destination) → AlikeTo a a
to-refl (ToPlace p) = refl
to-refl (ToMemory width address) = (address, refl, alike-refl address)
to-refl ToCounter = refl
to-refl ToOutput = refl
to-refl ToHalt = refl
to-refl ToTrap = refl

to-trans : (a b d : Destination) → AlikeTo a b → AlikeTo b d → AlikeTo a d
to-trans (ToPlace p) b d one two = subst (λ x. AlikeTo x d) one two
to-trans (ToMemory width address) b d one two =
    let next = subst (λ x. AlikeTo x d) one.1 two in
    (next.0, next.1, alike-trans address one.0 next.0 one.2 next.2)
to-trans ToCounter b d one two = subst (λ x. AlikeTo x d) one two
to-trans ToOutput b d one two = subst (λ x. AlikeTo x d) one two
to-trans ToHalt b d one two = subst (λ x. AlikeTo x d) one two
to-trans ToTrap b d one two = subst (λ x. AlikeTo x d) one two

pub one-refl : (a : Assignment) → AlikeOne a a
one-refl a = record { guard = guard-refl a.guard; to = to-refl a.to; value = alike-refl a.value }

pub one-trans : (a b d : Assignment) → AlikeOne a b → AlikeOne b d → AlikeOne a d
one-trans a b d one two = record {
  guard = guard-trans a.guard b.guard d.guard one.guard two.guard;
  to = to-trans a.to b.to d.to one.to two.to;
  value = alike-trans a.value b.value d.value one.value two.value;
}

pub part_alike : Laws → (law : Law) (part : ℕ) (place : List ℕ) (a b : Assignment) → with_part law part place a ≡ Some b → AlikeOne a b
part_alike laws law part place a b e = zero_or (nat_eq part 0) e
  where
    guard : with_guard law place a ≡ Some b → AlikeOne a b
    guard here =
        let it = map_parts (λ (g : Tree). record a { guard = Some g }) (option_and_then (rewritten law place) a.guard) b here in
        let by = then_parts (rewritten law place) a.guard it.0 it.1 in
        subst (λ (x : Assignment). AlikeOne a x) it.2 (record {
          guard = subst (λ g. AlikeGuard g (Some it.0)) (sym by.1) (laws law place by.0 it.0 by.2);
          to = to-refl a.to;
          value = alike-refl a.value;
        })

    destination : (from to : Destination) → with_destination law place from ≡ Some to → AlikeTo from to
    destination (ToMemory width address) to here =
        let it = map_parts (ToMemory width) (rewritten law place address) to here in (it.0, sym it.2, laws law place address it.0 it.1)
    destination (ToPlace p) to here = absurd (cc here)
    destination ToCounter to here = absurd (cc here)
    destination ToOutput to here = absurd (cc here)
    destination ToHalt to here = absurd (cc here)
    destination ToTrap to here = absurd (cc here)

    address : with_address law place a ≡ Some b → AlikeOne a b
    address here =
        let it = map_parts (λ (to : Destination). record a { to = to }) (with_destination law place a.to) b here in
        subst (λ (x : Assignment). AlikeOne a x) it.2 (record {
          guard = guard-refl a.guard;
          to = destination a.to it.0 it.1;
          value = alike-refl a.value;
        })

    value : with_value law place a ≡ Some b → AlikeOne a b
    value here =
        let it = map_parts (λ (v : Tree). record a { value = v }) (rewritten law place a.value) b here in
        subst (λ (x : Assignment). AlikeOne a x) it.2 (record {
          guard = guard-refl a.guard;
          to = to-refl a.to;
          value = laws law place a.value it.0 it.1;
        })

    two_or : (t : Bool) → cond t (with_value law place a) None ≡ Some b → AlikeOne a b
    two_or true here = value here
    two_or false here = absurd (cc here)

    one_or : (t : Bool) → cond t (with_address law place a) (cond (nat_eq part 2) (with_value law place a) None) ≡ Some b → AlikeOne a b
    one_or true here = address here
    one_or false here = two_or (nat_eq part 2) here

    zero_or : (t : Bool) → cond t (with_guard law place a) (cond (nat_eq part 1) (with_address law place a) (cond (nat_eq part 2) (with_value law place a) None)) ≡ Some b → AlikeOne a b
    zero_or true here = guard here
    zero_or false here = one_or (nat_eq part 1) here

place_alike : Laws → (law : Law) (place : List ℕ) (a : Assignment) (gs : List Assignment) → with_place law place (a ∷ []) ≡ Some gs → (b : Assignment) × (gs ≡ b ∷ []) × AlikeOne a b
place_alike laws law [] a gs e = absurd (cc e)
place_alike laws law (number ∷ []) a gs e = absurd (cc e)
place_alike laws law (zero ∷ part ∷ place) a gs e =
    let it = map_parts (slice_set (a ∷ []) 0) (option_and_then (with_part law part place) (Some a)) gs e in
    (it.0, sym it.2, part_alike laws law part place a it.0 it.1)
place_alike laws law (suc number ∷ part ∷ place) a gs e =
    let it = map_parts (slice_set (a ∷ []) (suc number)) (option_and_then (with_part law part place) (slice_get (a ∷ []) (suc number))) gs e in
    absurd (let by = then_parts (with_part law part place) (slice_get (a ∷ []) (suc number)) it.0 it.1 in let no : None ≡ Some by.0 = by.1 in cc no)

-- the goal of a tile of one effect after the root's steps
pub root_goal : Laws → (steps : List (Law × List ℕ)) (a : Assignment) (gs : List Assignment) → goals_after true steps (a ∷ []) ≡ Some gs → (b : Assignment) × (gs ≡ b ∷ []) × AlikeOne a b
root_goal laws [] a gs e = let it : Some (a ∷ []) ≡ Some gs = e in (a, let same : gs ≡ a ∷ [] = cc in same, one-refl a)
root_goal laws (step ∷ steps) a gs e =
    let it = then_parts (goals_after true steps) (with_place step.0 step.1 (a ∷ [])) gs e in
    let one = place_alike laws step.0 step.1 a it.0 it.1 in
    let rest = root_goal laws steps one.0 gs (subst (λ xs. goals_after true steps xs ≡ Some gs) one.1 it.2) in
    (rest.0, rest.1, one-trans a one.0 rest.0 one.2 rest.2)

-- ---- pairs of an assignment

abbrev pub GuardHolds : (Tree → Type 0) → Option Tree → Type 0
GuardHolds Holds None = Unit {0}
GuardHolds Holds (Some g) = Holds g

abbrev pub ToHolds : (Tree → Type 0) → Destination → Type 0
ToHolds Holds (ToMemory width address) = Holds address
ToHolds Holds other = Unit {0}

pub record AllHoldOf (Holds : Tree → Type 0) (a : Assignment) : Type 0 where
  pub guard : GuardHolds Holds a.guard
  pub to : ToHolds Holds a.to
  pub value : Holds a.value

-- the pairs of the guard, of the address and of the value
pub record HasPairs (a g : Assignment) (pairs : List Pair) : Type 0 where
  pub guards : List Pair
  pub tos : List Pair
  pub values : List Pair
  pub are_guards : guard_pairs true a.guard g.guard ≡ Some guards
  pub are_tos : destination_pairs true a.to g.to ≡ Some tos
  pub are_values : pairs_of true a.value g.value ≡ Some values
  pub whole : guards ++ (tos ++ values) ≡ pairs

pub has_pairs : (a g : Assignment) (pairs : List Pair) → assignment_pairs true a g ≡ Some pairs → HasPairs a g pairs
has_pairs a g pairs e =
    let one = both_parts (guard_pairs true a.guard g.guard) (both (destination_pairs true a.to g.to) (pairs_of true a.value g.value)) pairs e in
    let two = both_parts (destination_pairs true a.to g.to) (pairs_of true a.value g.value) one.1 one.3 in
    record {
      guards = one.0;
      tos = two.0;
      values = two.1;
      are_guards = one.2;
      are_tos = two.2;
      are_values = two.3;
      whole = ap (λ xs. one.0 ++ xs) two.4 ∙ one.4;
    }

guards_hold : (Holds : Tree → Type 0) → GoesToParts Holds → (h g : Option Tree) (xs : List Pair) → guard_pairs true h g ≡ Some xs → GuardHolds Holds g → AllByRecursion (PartHolds Holds) xs
guards_hold Holds down None None xs e holds = subst (AllByRecursion (PartHolds Holds)) (let it : Some [] ≡ Some xs = e in let same : [] ≡ xs = cc in same) tt
guards_hold Holds down (Some h) (Some g) xs e holds = parts_hold true Holds down h g xs e holds
guards_hold Holds down None (Some g) xs e holds = absurd (cc e)
guards_hold Holds down (Some h) None xs e holds = absurd (cc e)

guard_leaves_hold : (Holds : Tree → Type 0) → GoesToParts Holds → (h g : Option Tree) (xs : List Pair) → guard_pairs true h g ≡ Some xs → GuardHolds Holds h → AllByRecursion (LeafHolds Holds) xs
guard_leaves_hold Holds down None None xs e holds = subst (AllByRecursion (LeafHolds Holds)) (let it : Some [] ≡ Some xs = e in let same : [] ≡ xs = cc in same) tt
guard_leaves_hold Holds down (Some h) (Some g) xs e holds = leaves_hold true Holds down h g xs e holds
guard_leaves_hold Holds down None (Some g) xs e holds = absurd (cc e)
guard_leaves_hold Holds down (Some h) None xs e holds = absurd (cc e)

-- the pairs of a store, or none
pub to_pairs : (a g : Destination) (xs : List Pair) → destination_pairs true a g ≡ Some xs →
    ((width : ℕ) × (h : Tree) × (t : Tree) × (a ≡ ToMemory width h) × (g ≡ ToMemory width t) × (pairs_of true h t ≡ Some xs)) ⊎ (xs ≡ [])
to_pairs (ToMemory width h) (ToMemory w t) xs e =
    let it = if_parts (nat_eq width w) (pairs_of true h t) xs e in
    inl (width, h, t, refl, ap (λ n. ToMemory n t) (sym (numbers width w it.0)), it.1)
to_pairs (ToMemory width h) (ToPlace p) xs e = inr (let it : Some [] ≡ Some xs = e in let same : xs ≡ [] = cc in same)
to_pairs (ToMemory width h) ToCounter xs e = inr (let it : Some [] ≡ Some xs = e in let same : xs ≡ [] = cc in same)
to_pairs (ToMemory width h) ToOutput xs e = inr (let it : Some [] ≡ Some xs = e in let same : xs ≡ [] = cc in same)
to_pairs (ToMemory width h) ToHalt xs e = inr (let it : Some [] ≡ Some xs = e in let same : xs ≡ [] = cc in same)
to_pairs (ToMemory width h) ToTrap xs e = inr (let it : Some [] ≡ Some xs = e in let same : xs ≡ [] = cc in same)
to_pairs (ToPlace p) g xs e = inr (let it : Some [] ≡ Some xs = e in let same : xs ≡ [] = cc in same)
to_pairs ToCounter g xs e = inr (let it : Some [] ≡ Some xs = e in let same : xs ≡ [] = cc in same)
to_pairs ToOutput g xs e = inr (let it : Some [] ≡ Some xs = e in let same : xs ≡ [] = cc in same)
to_pairs ToHalt g xs e = inr (let it : Some [] ≡ Some xs = e in let same : xs ≡ [] = cc in same)
to_pairs ToTrap g xs e = inr (let it : Some [] ≡ Some xs = e in let same : xs ≡ [] = cc in same)

tos_hold : (Holds : Tree → Type 0) → GoesToParts Holds → (a g : Destination) (xs : List Pair) → destination_pairs true a g ≡ Some xs → ToHolds Holds g → AllByRecursion (PartHolds Holds) xs
tos_hold Holds down a g xs e holds = elim (to_pairs a g xs e) [
  | inl it ↦ parts_hold true Holds down it.1 it.2 xs it.5 (subst (ToHolds Holds) it.4 holds)
  | inr none ↦ subst (AllByRecursion (PartHolds Holds)) (sym none) tt
]

to_leaves_hold : (Holds : Tree → Type 0) → GoesToParts Holds → (a g : Destination) (xs : List Pair) → destination_pairs true a g ≡ Some xs → ToHolds Holds a → AllByRecursion (LeafHolds Holds) xs
to_leaves_hold Holds down a g xs e holds = elim (to_pairs a g xs e) [
  | inl it ↦ leaves_hold true Holds down it.1 it.2 xs it.5 (subst (ToHolds Holds) it.3 holds)
  | inr none ↦ subst (AllByRecursion (LeafHolds Holds)) (sym none) tt
]

pub all_parts_hold : (Holds : Tree → Type 0) → GoesToParts Holds → (a g : Assignment) (pairs : List Pair) → HasPairs a g pairs → AllHoldOf Holds g → AllByRecursion (PartHolds Holds) pairs
all_parts_hold Holds down a g pairs has holds =
    subst (AllByRecursion (PartHolds Holds)) has.whole
    (each_append (PartHolds Holds) has.guards (has.tos ++ has.values) (guards_hold Holds down a.guard g.guard has.guards has.are_guards holds.guard)
    (each_append (PartHolds Holds) has.tos has.values (tos_hold Holds down a.to g.to has.tos has.are_tos holds.to) (parts_hold true Holds down a.value g.value has.values has.are_values holds.value)))

pub all_leaves_hold : (Holds : Tree → Type 0) → GoesToParts Holds → (a g : Assignment) (pairs : List Pair) → HasPairs a g pairs → AllHoldOf Holds a → AllByRecursion (LeafHolds Holds) pairs
all_leaves_hold Holds down a g pairs has holds =
    subst (AllByRecursion (LeafHolds Holds)) has.whole
    (each_append (LeafHolds Holds) has.guards (has.tos ++ has.values) (guard_leaves_hold Holds down a.guard g.guard has.guards has.are_guards holds.guard)
    (each_append (LeafHolds Holds) has.tos has.values (to_leaves_hold Holds down a.to g.to has.tos has.are_tos holds.to) (leaves_hold true Holds down a.value g.value has.values has.are_values holds.value)))

-- ---- what a tile reads

register_number : (space registers : ℕ) (constants : List ℕ) (target : Bool) (number other : ℕ) →
    slice_get (operand_kinds space registers constants target) number ≡ Some (kind.Register other) → number < registers
register_number space (suc registers) constants target zero other is = omega arith
register_number space (suc registers) constants target (suc number) other is = let deep = register_number space registers constants target number other is in omega (arith, deep)
register_number space zero (width ∷ constants) target zero other is = absurd (let no : Some (kind.Imm width) ≡ Some (kind.Register other) = is in cc no)
register_number space zero (width ∷ constants) target (suc number) other is =
    absurd (let deep = register_number space zero constants target number other is in omega (arith, deep))
register_number space zero [] true zero other is = absurd (let no : Some kind.Addr ≡ Some (kind.Register other) = is in cc no)
register_number space zero [] true (suc number) other is = absurd (let no : None ≡ Some (kind.Register other) = is in cc no)
register_number space zero [] false number other is = absurd (let no : None ≡ Some (kind.Register other) = is in cc no)

-- a register parameter is of the allocatable space
pub parameter_space : (d : Description) (t : Tile) (space number : ℕ) → IsValid d → slice_get (kinds_of_tile (facts_of d) t) number ≡ Some (kind.Register space) → space ≡ d.allocatable
parameter_space d t space number valid is = operand_space d.frame.0 t.registers t.constants t.target number space is ∙ valid.layout.same_space.0

-- a cell that a tile names is of that space too
pub own_cell_space : (d : Description) (space index : ℕ) → IsValid d → IsOwnPlace (facts_of d) (place.Cell space index) → space ≡ d.allocatable
own_cell_space d space index valid (inl frame) = frame.0 ∙ valid.layout.same_space.0
own_cell_space d space index valid (inr link) = link.0 ∙ valid.layout.same_space.1

lt_yes : (a b : ℕ) → a < b → nat_lt a b ≡ true
lt_yes a b h = grind (arith, h)

place_kept : (c : Scene) (p : Place) → IsScene c → NamesPlace (kinds_of_tile (facts_of c.d) c.t) p → IsOwnPlace (facts_of c.d) p → is_kept_place c p ≡ true
place_kept c (place.Operand space number) is names own =
    and_from (nat_eq space c.d.allocatable) (nat_lt number c.t.registers) (eq_test space c.d.allocatable (parameter_space c.d c.t space number is.placed.valid names))
    (let below = register_number c.d.frame.0 c.t.registers c.t.constants c.t.target number space names in lt_yes number c.t.registers below)
place_kept c (place.Cell space index) is names own =
    let here : space ≡ c.d.allocatable = own_cell_space c.d space index is.placed.valid own in
    let flag : is_flag_space c.d space ≡ false = ap (is_flag_space c.d) here ∙ allocatable_no_flag c.d is.placed.valid in
    and_from (not (is_flag_space c.d space)) (nat_lt index (slice_index (counts_of c.d) space) && not (is_allocatable c.d space index)) (ap not flag)
    (and_from (nat_lt index (slice_index (counts_of c.d) space)) (not (is_allocatable c.d space index)) (inside own) (ap not (free (is_allocatable c.d space index) refl here own)))
  where
    inside : IsOwnPlace (facts_of c.d) (place.Cell space index) → nat_lt index (slice_index (counts_of c.d) space) ≡ true
    inside (inl frame) =
        lt_yes index (slice_index (counts_of c.d) space)
        (subst (λ s. index < slice_index (counts_of c.d) s) (sym frame.0) (subst (λ i. i < slice_index (counts_of c.d) c.d.frame.0) (sym frame.1) is.placed.valid.layout.frame.1))
    inside (inr link) =
        lt_yes index (slice_index (counts_of c.d) space)
        (subst (λ s. index < slice_index (counts_of c.d) s) (sym link.0) (subst (λ i. i < slice_index (counts_of c.d) c.d.link.0) (sym link.1) is.placed.valid.layout.link.1))

    free : (b : Bool) → is_allocatable c.d space index ≡ b → space ≡ c.d.allocatable → IsOwnPlace (facts_of c.d) (place.Cell space index) → b ≡ false
    free false e here own = refl
    free true e here own =
        let parts = and_both (nat_eq space c.d.allocatable) (nat_le c.d.first index && nat_le index c.d.last) e in
        let more = and_both (nat_le c.d.first index) (nat_le index c.d.last) parts.1 in
        let low = le_from c.d.first index more.0 in
        let high = le_from index c.d.last more.1 in
        absurd (elim own [
          | inl frame ↦ is.placed.valid.layout.free_frame (sym frame.0 ∙ here, omega (arith, low, frame.1), omega (arith, high, frame.1))
          | inr link ↦ is.placed.valid.layout.free_link (sym link.0 ∙ here, omega (arith, low, link.1), omega (arith, high, link.1))
        ])

pub tile_reads_kept : (c : Scene) (t : Tree) → IsScene c → NamesOperands c.d.facts.word (kinds_of_tile (facts_of c.d) c.t) t → NamesOwn (facts_of c.d) t → AllNodes (reads_kept c) t
tile_reads_kept c (Number value width) is names own = refl
tile_reads_kept c (Unary op arg) is names own = (refl, tile_reads_kept c arg is names own)
tile_reads_kept c (Binary op left right) is names own = (refl, tile_reads_kept c left is names.0 own.0, tile_reads_kept c right is names.1 own.1)
tile_reads_kept c (Register p width) is names own = place_kept c p is names own
tile_reads_kept c (Immediate operand width) is names own = refl
tile_reads_kept c (Load width address) is names own = (refl, tile_reads_kept c address is names own)
tile_reads_kept c (NextInput width) is names own = refl
tile_reads_kept c (AddressAfter width) is names own = refl

-- all terms of a tile's effect are good
pub effect_is_good : (c : Scene) (f : Effect) → IsScene c → IsTypedEffect (context_of c.start) f → EffectFits (context_of c.start) c.e.operands f →
    EffectNames c.d.facts.word (kinds_of_tile (facts_of c.d) c.t) f → EffectNamesOwn (facts_of c.d) f → AllHoldOf (IsGood c) (assignment_of f)
effect_is_good c f is typed fits names own = record {
  guard = guard f.guard typed.guard fits.guard names.guard own.guard;
  to = to f.to typed.to fits.to names.to own.to;
  value = record { typed = typed.value; fits = fits.value; kept = tile_reads_kept c (tree_of f.value) is names.value own.value };
}
  where
    guard : (g : Option Term) → IfSome g (λ t. IsTyped (context_of c.start) (tree_of t) × (width_of (tree_of t) ≡ 1)) → IfSome g (λ t. OperandsFit (context_of c.start) c.e.operands (tree_of t)) →
        IfSome g (λ t. NamesOperands c.d.facts.word (kinds_of_tile (facts_of c.d) c.t) (tree_of t)) → IfSome g (λ t. NamesOwn (facts_of c.d) (tree_of t)) → GuardHolds (IsGood c) (option_map tree_of g)
    guard None typed fits names own = tt
    guard (Some t) typed fits names own = record { typed = typed.0; fits = fits; kept = tile_reads_kept c (tree_of t) is names own }

    to : (x : Dest) → TakesWidth (context_of c.start) x (width_of (tree_of f.value)) → DestFits (context_of c.start) c.e.operands x →
        NamesDest c.d.facts.word (kinds_of_tile (facts_of c.d) c.t) x → DestNamesOwn (facts_of c.d) x → ToHolds (IsGood c) (destination_of x)
    to (dest.Reg p) typed fits names own = tt
    to (dest.Mem width address) typed fits names own = record { typed = typed.2; fits = fits; kept = tile_reads_kept c (tree_of address) is names own }
    to dest.Pc typed fits names own = tt
    to dest.Out typed fits names own = tt
    to dest.Halt typed fits names own = tt
    to dest.Trap typed fits names own = tt
