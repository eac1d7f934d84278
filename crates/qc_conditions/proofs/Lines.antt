-- One induction over a valid forest: what holds of the line of each node that keeps the rules holds of all lines.
use Rattle.std.proofs.Common.{◌≡◌, ◌+◌, ◌&&◌, ℕ, List, [], ◌∷◌, ◌++◌, Bool, true, false, cond, Option, None, Some, refl, sym, subst}
use Rattle.std.specs.List.{AllByRecursion, list_all}
use Rattle.std.specs.Option.{option_map}
use Rattle.std.proofs.lemmas.Bool.{and_from}
use Rattle.qc_lists.specs.Law.Lists.{each_append}
use Rattle.qc_terms.specs.declared.term.Place.TheVariants as place
use Rattle.qc_terms.specs.Tree.{Tree}
use Rattle.qc_descr.specs.declared.description.Description.{Description}
use Rattle.qc_tiles.specs.declared.tile.Tile.{Tile}
use Rattle.qc_code.specs.declared.template.Slot.{Slot}
use Rattle.qc_code.specs.Setting.{Line}
use Rattle.qc_code.specs.Work.{all_lines}
use Rattle.qc_derivations.specs.declared.derivation.Bounds.{Bounds}
use Rattle.qc_derivations.specs.declared.derivation.Derivation.{Derivation}
use Rattle.qc_derivations.specs.declared.derivation.Leaf.{Leaf}
use Rattle.qc_derivations.specs.declared.derivation.Leaf.TheVariants as leaf
use Rattle.qc_derivations.specs.Forest.{Empty, Forest, Grow, Node, Stand, children_under, forest_of, node_of}
use Rattle.qc_derivations.specs.Goals.{AsTile, InRegister, Need, goals_of, is_root}
use Rattle.qc_derivations.specs.Law.Forest.{grows_of-tree}
use Rattle.qc_derivations.specs.Machine.{Machine, assignments_of, machine_of}
use Rattle.qc_derivations.specs.Matching.{Pair}
use Rattle.qc_derivations.specs.Nodes.{Task, child_needs, children_for, flag_need, flag_need_at, is_child, need_before, needs_of, task_of}
use Rattle.qc_derivations.specs.Rules.{flag_pair, register_part}
use Rattle.qc_derivations.specs.Sequence.{lines_of, node_scratches, node_slots, own_slot, own_slots, scratches_of, sequence_of}
use Rattle.qc_derivations.specs.Valid.{AreValid, IsValidDerivation}
use Rattle.qc_conditions.proofs.Optional.{and_both, map_parts, then_parts}
use Rattle.qc_conditions.proofs.Rules.{KeepsRules, keeps_rules-of}

-- ---- needs of children

abbrev pub IsInner : Need → Type 0
IsInner need = is_root need ≡ false

abbrev pub AreInner : List Need → Type 0
AreInner needs = AllByRecursion IsInner needs

children_are_inner : (number : ℕ) (stands : List Stand) (pairs : List Pair) (inner : List Need) → child_needs number stands pairs ≡ Some inner → AreInner inner
children_are_inner number [] pairs inner e =
    let same : [] ≡ inner = let it : Some [] ≡ Some inner = e in cc in
    subst AreInner same tt
children_are_inner number (stand ∷ stands) pairs inner e = go (is_child stand) e (λ ns is. children_are_inner (number + 1) stands pairs ns is)
  where
    go : (b : Bool) → cond b (need_before (register_part number pairs) (child_needs (number + 1) stands pairs)) (child_needs (number + 1) stands pairs) ≡ Some inner →
        ((ns : List Need) → child_needs (number + 1) stands pairs ≡ Some ns → AreInner ns) → AreInner inner
    go false is deep = deep inner is
    go true is deep =
        let one = then_parts (λ (t : Tree). option_map (λ (ns : List Need). InRegister t ∷ ns) (child_needs (number + 1) stands pairs)) (register_part number pairs) inner is in
        let t : Tree = one.0 in
        let two = map_parts (λ (ns : List Need). InRegister t ∷ ns) (child_needs (number + 1) stands pairs) inner one.2 in
        subst AreInner two.2 (refl, deep two.0 two.1)

flag_is_inner : (it : Option Pair) → AreInner (flag_need it)
flag_is_inner None = tt
flag_is_inner (Some x) = go x.leaf
  where
    go : (l : Leaf) → AreInner (flag_need_at l x.part)
    go (leaf.Register (place.Cell space index) width) = (refl, tt)
    go (leaf.Register (place.Operand space number) width) = tt
    go (leaf.Immediate operand width) = tt
    go (leaf.Extended op operand width) = tt

pub needs_are_inner : (m : Machine) (node : Node) (pairs : List Pair) (inner : List Need) → needs_of m node pairs ≡ Some inner → AreInner inner
needs_are_inner m node pairs inner e =
    let it = map_parts (λ (ns : List Need). ns ++ flag_need (flag_pair m pairs)) (child_needs 0 node.stands pairs) inner e in
    subst AreInner it.2
    (each_append IsInner it.0 (flag_need (flag_pair m pairs)) (children_are_inner 0 node.stands pairs it.0 it.1) (flag_is_inner (flag_pair m pairs)))

-- ---- lists of lines

list_all-append : (test : Line → Bool) (xs ys : List Line) → list_all test xs ≡ true → list_all test ys ≡ true → list_all test (xs ++ ys) ≡ true
list_all-append test [] ys one two = two
list_all-append test (x ∷ xs) ys one two =
    let parts = and_both (test x) (list_all test xs) one in
    and_from (test x) (list_all test (xs ++ ys)) parts.0 (list_all-append test xs ys parts.1 two)

lines_then_last : (test : Bool → Line → Bool) (xs : List Line) (y : Line) → list_all (test false) xs ≡ true → test true y ≡ true → all_lines test (xs ++ (y ∷ [])) ≡ true
lines_then_last test [] y first last = and_from (test true y) true last refl
lines_then_last test (x ∷ []) y first last =
    let parts = and_both (test false x) true first in
    and_from (test false x) (test true y && true) parts.0 (and_from (test true y) true last refl)
lines_then_last test (x ∷ z ∷ xs) y first last =
    let parts = and_both (test false x) (list_all (test false) (z ∷ xs)) first in
    and_from (test false x) (all_lines test ((z ∷ xs) ++ (y ∷ []))) parts.0 (lines_then_last test (z ∷ xs) y parts.1 last)

-- a test that isn't told whether the line is the last
pub each_line : (test : Line → Bool) (xs : List Line) → all_lines (λ last line. test line) xs ≡ true → list_all test xs ≡ true
each_line test [] all = refl
each_line test (x ∷ xs) all =
    let parts = and_both (test x) (all_lines (λ last line. test line) xs) all in
    and_from (test x) (list_all test xs) parts.0 (each_line test xs parts.1)

-- ---- the induction

-- what is known of each need and the slot of its own
abbrev pub AllOwn : (Need → Slot → Type 0) → List Need → List Slot → Type 0
AllOwn Own [] owns = Unit {0}
AllOwn Own (n ∷ ns) [] = Unit {0}
AllOwn Own (n ∷ ns) (own ∷ owns) = Own n own × AllOwn Own ns owns

-- something about a child's node that keeps the rules, with the slot of its own
abbrev pub OfChildren : Task → (Need → Slot → Type 0) → ((own : Slot) (scratch : ℕ) → Node → List Need → Type 0) → Type 0
OfChildren task Own P =
    (need : Need) (own : Slot) (scratch : ℕ) (node : Node) (inner : List Need) → is_root need ≡ false → Own need own →
    KeepsRules task false (goals_of need) node inner → P own scratch node inner

-- the test holds of the node's line
abbrev pub LineHolds : Machine → (Line → Bool) → Slot → ℕ → Node → List Need → Type 0
LineHolds m test own scratch node inner = test (node.instruction, node_slots m own scratch node) ≡ true

-- what is known of needs and slots is known of the node's children
abbrev pub GoesDown : Machine → (Need → Slot → Type 0) → Slot → ℕ → Node → List Need → Type 0
GoesDown m Own own scratch node inner = AllOwn Own inner (own_slots own node (node_slots m own scratch node))

pub forest_lines : (task : Task) (Own : Need → Slot → Type 0) (test : Line → Bool) → OfChildren task Own (LineHolds task.machine test) → OfChildren task Own (GoesDown task.machine Own) →
    (forest : Forest) (needs : List Need) (owns : List Slot) (scratch : ℕ) → AreInner needs → AllOwn Own needs owns → AreValid task needs forest →
    list_all test (lines_of task.machine forest owns scratch) ≡ true
forest_lines task Own test holds down Empty needs owns scratch are known valid = refl
forest_lines task Own test holds down (Grow node children rest) [] owns scratch are known valid = absurd valid
forest_lines task Own test holds down (Grow node children rest) (need ∷ needs) [] scratch are known valid = refl
forest_lines task Own test holds down (Grow node children rest) (need ∷ needs) (own ∷ owns) scratch are known valid =
    let m : Machine = task.machine in
    let slots : List Slot = node_slots m own scratch node in
    let inner : List Need = valid.0 in
    let kept : KeepsRules task false (goals_of need) node inner =
    keeps_rules-of task false (goals_of need) node inner (subst (λ b. children_for task b (goals_of need) node ≡ Some inner) are.0 valid.1) in
    let first = forest_lines task Own test holds down children inner (own_slots own node slots) (scratch + node_scratches m node)
    (needs_are_inner m node kept.pairs inner kept.needs) (down need own scratch node inner are.0 known.0 kept) valid.2 in
    let this = holds need own scratch node inner are.0 known.0 kept in
    let later : List Line = lines_of m rest owns (scratch + (node_scratches m node + scratches_of m children)) in
    let others = forest_lines task Own test holds down rest needs owns (scratch + (node_scratches m node + scratches_of m children)) are.1 known.1 valid.3 in
    list_all-append test (lines_of m children (own_slots own node slots) (scratch + node_scratches m node)) ((node.instruction, slots) ∷ later) first
    (and_from (test (node.instruction, slots)) (list_all test later) this others)

-- something about the root that keeps the rules
abbrev pub OfRoot : Description → Tile → ℕ → (Node → List Need → Type 0) → Type 0
OfRoot d t laws P = (node : Node) (inner : List Need) → KeepsRules (task_of d t laws) true (assignments_of t.rtl) node inner → P node inner

-- the slot of the root's own
abbrev pub root_slot : Tile → Slot
root_slot t = own_slot (assignments_of t.rtl)

pub sequence_lines : (d : Description) (t : Tile) (bounds : Bounds) (derivation : Derivation) (Own : Need → Slot → Type 0) (test : Bool → Line → Bool) → IsValidDerivation d t bounds derivation →
    OfChildren (task_of d t bounds.laws) Own (LineHolds (machine_of d) (test false)) → OfChildren (task_of d t bounds.laws) Own (GoesDown (machine_of d) Own) →
    OfRoot d t bounds.laws (LineHolds (machine_of d) (test true) (root_slot t) 0) → OfRoot d t bounds.laws (GoesDown (machine_of d) Own (root_slot t) 0) →
    all_lines test (sequence_of d t derivation).instances ≡ true
unfolding sequence_of
sequence_lines d t bounds derivation Own test derived holds down root below =
    let m : Machine = machine_of d in
    let task : Task = task_of d t bounds.laws in
    let node : Node = node_of derivation in
    let children : Forest = children_under derivation in
    let tree : forest_of derivation ≡ Grow node children Empty = grows_of-tree derivation Empty in
    let valid : AreValid task (AsTile (assignments_of t.rtl) ∷ []) (Grow node children Empty) = subst (AreValid task (AsTile (assignments_of t.rtl) ∷ [])) tree derived.nodes in
    let inner : List Need = valid.0 in
    let kept : KeepsRules task true (assignments_of t.rtl) node inner = keeps_rules-of task true (assignments_of t.rtl) node inner valid.1 in
    let slots : List Slot = node_slots m (root_slot t) 0 node in
    let first = forest_lines task Own (test false) holds down children inner (own_slots (root_slot t) node slots) (0 + node_scratches m node)
    (needs_are_inner m node kept.pairs inner kept.needs) (below node inner kept) valid.2 in
    subst (λ forest. all_lines test (lines_of m forest (root_slot t ∷ []) 0) ≡ true) (sym tree)
    (lines_then_last test (lines_of m children (own_slots (root_slot t) node slots) (0 + node_scratches m node)) (node.instruction, slots) first (root node inner kept))

-- ---- where nothing needs to be known of slots

abbrev pub Whatever : Need → Slot → Type 0
Whatever need own = Unit {0}

pub whatever : (needs : List Need) (owns : List Slot) → AllOwn Whatever needs owns
whatever [] owns = tt
whatever (n ∷ ns) [] = tt
whatever (n ∷ ns) (own ∷ owns) = (tt, whatever ns owns)
