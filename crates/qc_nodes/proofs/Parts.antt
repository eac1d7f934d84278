-- What a node's children are to compute has the widths that its terms need, where what the node is to compute has them.
use Rattle.std.proofs.Common.{◌≡◌, ℕ, ◌+◌, List, [], ◌∷◌, ◌++◌, Bool, true, false, ◌&&◌, cond, nat_eq, Option, None, Some, refl, sym, subst, option_and_then, slice_get, IfSome}
use Rattle.std.specs.List.{find}
use Rattle.std.specs.Option.{option_map, option_or}
use Rattle.qc_words.specs.declared.operator.Op.{Op}
use Rattle.qc_terms.specs.declared.term.Place.TheVariants as place
use Rattle.qc_terms.specs.Tree.{Tree, Number, Unary, Binary, Register, Immediate, Load, NextInput, AddressAfter}
use Rattle.qc_pool.specs.Widths.{HasWidths}
use Rattle.qc_equations.specs.declared.names.Law.{Law}
use Rattle.qc_equations.specs.Matching.{same_op}
use Rattle.qc_derivations.specs.declared.derivation.Leaf.{Leaf}
use Rattle.qc_derivations.specs.declared.derivation.Leaf.TheVariants as leaf
use Rattle.qc_derivations.specs.Forest.{Node, Stand}
use Rattle.qc_derivations.specs.Goals.{InRegister, Need, goals_after, goals_of, is_root, whole_place, with_place}
use Rattle.qc_derivations.specs.Machine.{Assignment, Destination, Machine, ToMemory}
use Rattle.qc_derivations.specs.Matching.{Pair, address_of, all_pairs, assignment_pairs, both, destination_pairs, extended, goal_met, guard_pairs, is_any_number, meets, none_if, operand_of, operands_of, pair, pairs_at, pairs_of}
use Rattle.qc_derivations.specs.Nodes.{Found, Task, child_needs, children_for, children_of, flag_need, flag_need_at, found, is_child, keeps_rules, need_before, needs_if_kept, needs_of}
use Rattle.qc_derivations.specs.Rules.{flag_pair, is_flag_leaf, is_register_leaf, register_part}
use Rattle.qc_derivations.specs.Same.{is_address_after, is_next_input, is_number}
use Rattle.qc_nodes.specs.declared.need.Need as code
use Rattle.qc_nodes.specs.Needs.{AddressHasWidths, GoalHasWidths, GoalsHaveWidths, GuardHasWidths, NeedHasWidths, NeedsHaveWidths, needs_in}
use Rattle.qc_nodes.proofs.Widths.{chained, mapped, place_keeps}

-- ---- pairs

abbrev PairsHaveWidths : List Pair → Type 0
PairsHaveWidths [] = Unit {0}
PairsHaveWidths (p ∷ ps) = HasWidths p.part × PairsHaveWidths ps

appended : (xs ys : List Pair) → PairsHaveWidths xs → PairsHaveWidths ys → PairsHaveWidths (xs ++ ys)
appended [] ys first second = second
appended (x ∷ xs) ys first second = (first.0, appended xs ys first.1 second)

of_both : (first second : Option (List Pair)) (ps : List Pair) → both first second ≡ Some ps →
    ((xs : List Pair) → first ≡ Some xs → PairsHaveWidths xs) → ((ys : List Pair) → second ≡ Some ys → PairsHaveWidths ys) →
    PairsHaveWidths ps
of_both first second ps e one two =
    chained PairsHaveWidths (λ xs. option_map (λ ys. xs ++ ys) second) first ps e
    (λ xs is more. mapped PairsHaveWidths (λ ys. xs ++ ys) second ps more
    (λ ys also. appended xs ys (one xs is) (two ys also)))

of_none : (test : Bool) (ps : List Pair) → none_if test ≡ Some ps → PairsHaveWidths ps
of_none true ps e = let same : [] ≡ ps = cc in subst PairsHaveWidths same tt
of_none false ps e = cc

of_one : (l : Leaf) (t : Tree) (ps : List Pair) → Some (pair l t) ≡ Some ps → HasWidths t → PairsHaveWidths ps
of_one l t ps e fits = let same : pair l t ≡ ps = cc in subst PairsHaveWidths same (fits, tt)

chosen : {A : Type 0} (test : Bool) (x : A) (y : A) → cond test (Some x) None ≡ Some y → x ≡ y
chosen true x y e = cc
chosen false x y e = cc

of_operand : (op : Op) (t a : Tree) → operand_of op t ≡ Some a → HasWidths t → HasWidths a
of_operand op (Unary o arg) a e fits = subst HasWidths (chosen (same_op op o) arg a e) fits.2
of_operand op (Number v w) a e fits = cc
of_operand op (Binary o l r) a e fits = cc
of_operand op (Register p w) a e fits = cc
of_operand op (Immediate o w) a e fits = cc
of_operand op (Load w address) a e fits = cc
of_operand op (NextInput w) a e fits = cc
of_operand op (AddressAfter w) a e fits = cc

of_operands : (op : Op) (t : Tree) (p : Tree × Tree) → operands_of op t ≡ Some p → HasWidths t → HasWidths p.0 × HasWidths p.1
of_operands op (Binary o l r) p e fits =
    subst (λ (q : Tree × Tree). HasWidths q.0 × HasWidths q.1) (chosen (same_op op o) (l, r) p e) (fits.3, fits.4)
of_operands op (Unary o arg) p e fits = cc
of_operands op (Number v w) p e fits = cc
of_operands op (Register q w) p e fits = cc
of_operands op (Immediate o w) p e fits = cc
of_operands op (Load w address) p e fits = cc
of_operands op (NextInput w) p e fits = cc
of_operands op (AddressAfter w) p e fits = cc

of_address : (width : ℕ) (t a : Tree) → address_of width t ≡ Some a → HasWidths t → HasWidths a
of_address width (Load w address) a e fits = subst HasWidths (chosen (nat_eq width w) address a e) fits
of_address width (Binary o l r) a e fits = cc
of_address width (Unary o arg) a e fits = cc
of_address width (Number v w) a e fits = cc
of_address width (Register q w) a e fits = cc
of_address width (Immediate o w) a e fits = cc
of_address width (NextInput w) a e fits = cc
of_address width (AddressAfter w) a e fits = cc

of_extended : (op : Op) (arg t : Tree) (ps : List Pair) → extended op arg t ≡ Some ps → HasWidths t → PairsHaveWidths ps
of_extended op (Immediate operand width) t ps e fits =
    subst PairsHaveWidths (chosen (is_any_number t) (pair (leaf.Extended op operand width) t) ps e) (fits, tt)
of_extended op (Binary o l r) t ps e fits = cc
of_extended op (Unary o arg) t ps e fits = cc
of_extended op (Number v w) t ps e fits = cc
of_extended op (Register q w) t ps e fits = cc
of_extended op (Load w address) t ps e fits = cc
of_extended op (NextInput w) t ps e fits = cc
of_extended op (AddressAfter w) t ps e fits = cc

either : (first second : Option (List Pair)) (ps : List Pair) → option_or first second ≡ Some ps →
    ((xs : List Pair) → first ≡ Some xs → PairsHaveWidths xs) → ((ys : List Pair) → second ≡ Some ys → PairsHaveWidths ys) →
    PairsHaveWidths ps
either None second ps e one two = two ps e
either (Some xs) second ps e one two = one ps e

of_pairs : (root : Bool) (pattern t : Tree) (ps : List Pair) → pairs_of root pattern t ≡ Some ps → HasWidths t → PairsHaveWidths ps
of_pairs root (Number value width) t ps e fits = of_none (is_number value width t) ps e
of_pairs root (Unary op arg) t ps e fits =
    either (extended op arg t) (option_and_then (pairs_of root arg) (operand_of op t)) ps e
    (λ xs is. of_extended op arg t xs is fits)
    (λ ys is. chained PairsHaveWidths (pairs_of root arg) (operand_of op t) ys is
    (λ a at more. of_pairs root arg a ys more (of_operand op t a at fits)))
of_pairs root (Binary op left right) t ps e fits =
    chained PairsHaveWidths (λ p. both (pairs_of root left p.0) (pairs_of root right p.1)) (operands_of op t) ps e
    (λ p at more.
    let parts = of_operands op t p at fits in
    of_both (pairs_of root left p.0) (pairs_of root right p.1) ps more
    (λ xs is. of_pairs root left p.0 xs is parts.0) (λ ys is. of_pairs root right p.1 ys is parts.1))
of_pairs root (Register p width) t ps e fits = of_one (leaf.Register p width) t ps e fits
of_pairs root (Immediate operand width) t ps e fits = of_one (leaf.Immediate operand width) t ps e fits
of_pairs root (Load width address) t ps e fits =
    chained PairsHaveWidths (pairs_of root address) (address_of width t) ps e
    (λ a at more. of_pairs root address a ps more (of_address width t a at fits))
of_pairs root (NextInput width) t ps e fits = of_none (is_next_input width t) ps e
of_pairs root (AddressAfter width) t ps e fits = of_none (root && is_address_after width t) ps e

of_guards : (root : Bool) (guard goal : Option Tree) (ps : List Pair) → guard_pairs root guard goal ≡ Some ps → GuardHasWidths goal →
    PairsHaveWidths ps
of_guards root None None ps e fits = let same : [] ≡ ps = cc in subst PairsHaveWidths same tt
of_guards root (Some guard) (Some goal) ps e fits = of_pairs root guard goal ps e fits
of_guards root None (Some goal) ps e fits = cc
of_guards root (Some guard) None ps e fits = cc

of_stores : (root : Bool) (test : Bool) (address t : Tree) (ps : List Pair) →
    cond test (pairs_of root address t) None ≡ Some ps → HasWidths t → PairsHaveWidths ps
of_stores root true address t ps e fits = of_pairs root address t ps e fits
of_stores root false address t ps e fits = cc

of_destinations : (root : Bool) (to goal : Destination) (ps : List Pair) → destination_pairs root to goal ≡ Some ps →
    AddressHasWidths goal → PairsHaveWidths ps
of_destinations root (ToMemory width address) (ToMemory w t) ps e fits = of_stores root (nat_eq width w) address t ps e fits
of_destinations root _ _ ps e fits = let same : [] ≡ ps = cc in subst PairsHaveWidths same tt

of_assignments : (root : Bool) (a goal : Assignment) (ps : List Pair) → assignment_pairs root a goal ≡ Some ps → GoalHasWidths goal →
    PairsHaveWidths ps
of_assignments root a goal ps e fits =
    of_both (guard_pairs root a.guard goal.guard) (both (destination_pairs root a.to goal.to) (pairs_of root a.value goal.value)) ps e
    (λ xs is. of_guards root a.guard goal.guard xs is fits.0)
    (λ ys is. of_both (destination_pairs root a.to goal.to) (pairs_of root a.value goal.value) ys is
    (λ zs at. of_destinations root a.to goal.to zs at fits.1) (λ zs at. of_pairs root a.value goal.value zs at fits.2))

-- ---- the goal that an assignment meets

-- the first one that passes a test, by whether this one does
pick : {A : Type 0} (P : A → Type 0) (here : Bool) (x a : A) (rest : Option A) → cond here (Some x) rest ≡ Some a → P x →
    (rest ≡ Some a → P a) → P a
pick P true x a rest e now more = let same : x ≡ a = cc in subst P same now
pick P false x a rest e now more = more e

found_goal : (test : Assignment → Bool) (goals : List Assignment) (goal : Assignment) → find test goals ≡ Some goal →
    GoalsHaveWidths goals → GoalHasWidths goal
found_goal test [] goal e fits = cc
found_goal test (x ∷ xs) goal e fits =
    pick GoalHasWidths (test x) x goal (find test xs) e fits.0 (λ more. found_goal test xs goal more fits.1)

at_goal : (root : Bool) (a : Assignment) (goal : Option Assignment) (ps : List Pair) → pairs_at root a goal ≡ Some ps →
    ((g : Assignment) → goal ≡ Some g → GoalHasWidths g) → PairsHaveWidths ps
at_goal root a None ps e fits = let same : [] ≡ ps = cc in subst PairsHaveWidths same tt
at_goal root a (Some goal) ps e fits = of_assignments root a goal ps e (fits goal refl)

of_all : (root : Bool) (stands : List Stand) (goals assignments : List Assignment) (ps : List Pair) →
    all_pairs root stands goals assignments ≡ Some ps → GoalsHaveWidths goals → PairsHaveWidths ps
of_all root stands goals [] ps e fits = let same : [] ≡ ps = cc in subst PairsHaveWidths same tt
of_all root stands goals (a ∷ others) ps e fits =
    of_both (pairs_at root a (goal_met root stands goals a)) (all_pairs root stands goals others) ps e
    (λ xs is. at_goal root a (goal_met root stands goals a) xs is
    (λ g at. found_goal (λ goal. meets root stands goal.to a.to) goals g at fits))
    (λ ys is. of_all root stands goals others ys is fits)

-- ---- needs

found_pair : (test : Pair → Bool) (ps : List Pair) (p : Pair) → find test ps ≡ Some p → PairsHaveWidths ps → HasWidths p.part
found_pair test [] p e fits = cc
found_pair test (x ∷ xs) p e fits =
    pick (λ (q : Pair). HasWidths q.part) (test x) x p (find test xs) e fits.0 (λ more. found_pair test xs p more fits.1)

of_flag_at : (l : Leaf) (part : Tree) → HasWidths part → NeedsHaveWidths (flag_need_at l part)
of_flag_at (leaf.Register (place.Cell space index) width) part fits = (((tt, tt, fits), tt), tt)
of_flag_at (leaf.Register (place.Operand space number) width) part fits = tt
of_flag_at (leaf.Immediate operand width) part fits = tt
of_flag_at (leaf.Extended op operand width) part fits = tt

of_flag : (first : Option Pair) → ((p : Pair) → first ≡ Some p → HasWidths p.part) → NeedsHaveWidths (flag_need first)
of_flag None fits = tt
of_flag (Some p) fits = of_flag_at p.leaf p.part (fits p refl)

needs_appended : (xs ys : List Need) → NeedsHaveWidths xs → NeedsHaveWidths ys → NeedsHaveWidths (xs ++ ys)
needs_appended [] ys first second = second
needs_appended (x ∷ xs) ys first second = (first.0, needs_appended xs ys first.1 second)

with_child : (here : Bool) (part : Option Tree) (others : Option (List Need)) (needs : List Need) →
    cond here (need_before part others) others ≡ Some needs → ((t : Tree) → part ≡ Some t → HasWidths t) →
    ((ns : List Need) → others ≡ Some ns → NeedsHaveWidths ns) → NeedsHaveWidths needs
with_child true part others needs e fits more =
    chained NeedsHaveWidths (λ t. option_map (λ ns. InRegister t ∷ ns) others) part needs e
    (λ t is rest. mapped NeedsHaveWidths (λ ns. InRegister t ∷ ns) others needs rest
    (λ ns also. (((tt, tt, fits t is), tt), more ns also)))
with_child false part others needs e fits more = more needs e

of_part : (number : ℕ) (ps : List Pair) (t : Tree) → register_part number ps ≡ Some t → PairsHaveWidths ps → HasWidths t
of_part number ps t e fits =
    mapped HasWidths (λ p. p.part) (find (λ p. is_register_leaf number p.leaf) ps) t e
    (λ p is. found_pair (λ p. is_register_leaf number p.leaf) ps p is fits)

of_children : (number : ℕ) (stands : List Stand) (ps : List Pair) (needs : List Need) → child_needs number stands ps ≡ Some needs →
    PairsHaveWidths ps → NeedsHaveWidths needs
of_children number [] ps needs e fits = let same : [] ≡ needs = cc in subst NeedsHaveWidths same tt
of_children number (stand ∷ stands) ps needs e fits =
    with_child (is_child stand) (register_part number ps) (child_needs (number + 1) stands ps) needs e
    (λ t is. of_part number ps t is fits) (λ ns also. of_children (number + 1) stands ps ns also fits)

of_needs : (m : Machine) (node : Node) (ps : List Pair) (needs : List Need) → needs_of m node ps ≡ Some needs → PairsHaveWidths ps →
    NeedsHaveWidths needs
of_needs m node ps needs e fits =
    mapped NeedsHaveWidths (λ ns. ns ++ flag_need (flag_pair m ps)) (child_needs 0 node.stands ps) needs e
    (λ ns is. needs_appended ns (flag_need (flag_pair m ps)) (of_children 0 node.stands ps ns is fits)
    (of_flag (flag_pair m ps) (λ p at. found_pair (λ p. is_flag_leaf m p.leaf) ps p at fits)))

after_steps : (root : Bool) (steps : List (Law × List ℕ)) (goals new : List Assignment) → goals_after root steps goals ≡ Some new →
    GoalsHaveWidths goals → GoalsHaveWidths new
after_steps root [] goals new e fits = let same : goals ≡ new = cc in subst GoalsHaveWidths same fits
after_steps root (step ∷ steps) goals new e fits =
    chained GoalsHaveWidths (goals_after root steps) (with_place step.0 (whole_place root step.1) goals) new e
    (λ mid is more. after_steps root steps mid new more (place_keeps step.0 (whole_place root step.1) goals mid is fits))

kept : (test : Bool) (m : Machine) (node : Node) (ps : List Pair) (needs : List Need) →
    cond test (needs_of m node ps) None ≡ Some needs → PairsHaveWidths ps → NeedsHaveWidths needs
kept true m node ps needs e fits = of_needs m node ps needs e fits
kept false m node ps needs e fits = cc

pub children_have_widths : (task : Task) (root : Bool) (goals : List Assignment) (node : Node) (needs : List Need) →
    children_for task root goals node ≡ Some needs → GoalsHaveWidths goals → NeedsHaveWidths needs
unfolding children_for
children_have_widths task root goals node needs e fits =
    chained NeedsHaveWidths (needs_if_kept task root node) (found task root goals node) needs e
    (λ f is more. kept (keeps_rules task root node f) task.machine node f.pairs needs more (of_found f is))
  where
    of_found : (f : Found) → found task root goals node ≡ Some f → PairsHaveWidths f.pairs
    of_found f e =
        chained (λ (g : Found). PairsHaveWidths g.pairs)
        (λ form. option_and_then
        (λ rewritten. option_map (λ pairs. record { form = form; goals = rewritten; pairs = pairs })
        (all_pairs root node.stands rewritten form.assignments)) (goals_after root node.steps goals))
        (slice_get task.machine.forms node.instruction) f e
        (λ form at more. chained (λ (g : Found). PairsHaveWidths g.pairs)
        (λ rewritten. option_map (λ pairs. record { form = form; goals = rewritten; pairs = pairs })
        (all_pairs root node.stands rewritten form.assignments))
        (goals_after root node.steps goals) f more
        (λ rewritten after last. mapped (λ (g : Found). PairsHaveWidths g.pairs)
        (λ pairs. record { form = form; goals = rewritten; pairs = pairs })
        (all_pairs root node.stands rewritten form.assignments) f last
        (λ pairs of. of_all root node.stands rewritten form.assignments pairs of
        (after_steps root node.steps goals rewritten after fits))))

pub needs_have_widths : (task : Task) (need : Need) (node : Node) (found : Option (List code.Need)) →
    option_map needs_in found ≡ children_of task need node → NeedHasWidths need →
    IfSome found (λ needs. NeedsHaveWidths (needs_in needs))
needs_have_widths task need node None e fits = tt
needs_have_widths task need node (Some needs) e fits =
    children_have_widths task (is_root need) (goals_of need) node (needs_in needs) (sym e) fits
