-- What laws make of a child's goal, and what is found of a node that keeps the rules.
use Rattle.std.proofs.Common.{◌≡◌, ◌&&◌, ℕ, List, [], ◌∷◌, Bool, true, false, not, Some, slice_get, slice_set, option_and_then, length, nat_le, sym, subst}
use Rattle.std.specs.List.{list_all}
use Rattle.std.specs.Option.{option_map}
use Rattle.qc_terms.specs.Tree.{Tree}
use Rattle.qc_equations.specs.declared.names.Law.{Law}
use Rattle.qc_equations.specs.Alike.{AreAlike}
use Rattle.qc_equations.specs.Law.Alike.{alike-refl, alike-trans}
use Rattle.qc_equations.specs.Steps.{rewritten}
use Rattle.qc_derivations.specs.Forest.{Node, is_there}
use Rattle.qc_derivations.specs.Goals.{Need, gets, goals_after, with_part, with_place}
use Rattle.qc_derivations.specs.Machine.{Assignment, Destination, Form}
use Rattle.qc_derivations.specs.Matching.{Pair, all_pairs}
use Rattle.qc_derivations.specs.Nodes.{Found, Task, agree, children_for, found, is_allowed, is_met_once, keeps_rules, keeps_single, needs_if_kept, needs_of, takes_one_input}
use Rattle.qc_derivations.specs.Rules.{addresses_reach, flag_pair, leaf_meets, operand_suits, operands_suit}
use Rattle.qc_soundness.proofs.Optional.{and_both, if_parts, map_parts, then_parts}

-- what a law gives at a place is alike to the term
abbrev pub Laws : Type 0
Laws = (law : Law) (place : List ℕ) (t u : Tree) → rewritten law place t ≡ Some u → AreAlike t u

-- the goal of a child after its steps
pub child_goal : Laws → (steps : List (Law × List ℕ)) (to : Destination) (v : Tree) (goals : List Assignment) →
    goals_after false steps (gets to v ∷ []) ≡ Some goals → (u : Tree) × (goals ≡ gets to u ∷ []) × AreAlike v u
child_goal laws [] to v goals e = let it : Some (gets to v ∷ []) ≡ Some goals = e in (v, let same : goals ≡ gets to v ∷ [] = cc in same, alike-refl v)
child_goal laws (step ∷ steps) to v goals e =
    let it = then_parts (goals_after false steps) (with_place step.0 (0 ∷ 2 ∷ step.1) (gets to v ∷ [])) goals e in
    let new = map_parts (slice_set (gets to v ∷ []) 0) (option_and_then (with_part step.0 2 step.1) (Some (gets to v))) it.0 it.1 in
    let by = map_parts (λ u. gets to u) (rewritten step.0 step.1 v) new.0 new.1 in
    let u : Tree = by.0 in
    let here : gets to u ∷ [] ≡ it.0 = subst (λ a. a ∷ [] ≡ it.0) (sym by.2) new.2 in
    let rest = child_goal laws steps to u goals (subst (λ gs. goals_after false steps gs ≡ Some goals) (sym here) it.2) in
    (rest.0, rest.1, alike-trans v u rest.0 (laws step.0 step.1 v u by.1) rest.2)

-- ---- a node that keeps the rules

pub record KeepsRules (task : Task) (root : Bool) (goals : List Assignment) (node : Node) (inner : List Need) : Type 0 where
  pub form : Form
  pub rewritten : List Assignment
  pub pairs : List Pair
  pub is_form : slice_get task.machine.forms node.instruction ≡ Some form
  pub is_rewritten : goals_after root node.steps goals ≡ Some rewritten
  pub are_pairs : all_pairs root node.stands rewritten form.assignments ≡ Some pairs
  pub input : takes_one_input rewritten ≡ true
  pub met_once : list_all (is_met_once root node.stands form.assignments) rewritten ≡ true
  pub allowed : list_all (is_allowed task.machine root node.stands rewritten) form.assignments ≡ true
  pub leaves : list_all (λ p. leaf_meets task.machine task.target node.stands pairs p.leaf p.part) pairs ≡ true
  pub operands : operands_suit (operand_suits task.machine task.target root form.assignments pairs) node.stands 0 form.kinds ≡ true
  pub flag : agree node.flag (is_there (flag_pair task.machine pairs)) ≡ true
  pub reach : addresses_reach task.machine.align (task.branch && not root) form.coding 0 form.kinds ≡ true
  pub needs : needs_of task.machine node pairs ≡ Some inner

kept_rules : (task : Task) (root : Bool) (goals : List Assignment) (node : Node) (inner : List Need) (f : Found) →
    slice_get task.machine.forms node.instruction ≡ Some f.form → goals_after root node.steps goals ≡ Some f.goals →
    all_pairs root node.stands f.goals f.form.assignments ≡ Some f.pairs → keeps_rules task root node f ≡ true →
    needs_of task.machine node f.pairs ≡ Some inner → KeepsRules task root goals node inner
kept_rules task root goals node inner f is_form is_rewritten are_pairs keeps needs =
    let a8 = (not root) in
    let c8 = keeps_single task node f.form in
    let t7 = addresses_reach task.machine.align (task.branch && not root) f.form.coding 0 f.form.kinds in
    let t6 = agree node.flag (is_there (flag_pair task.machine f.pairs)) in
    let t5 = operands_suit (operand_suits task.machine task.target root f.form.assignments f.pairs) node.stands 0 f.form.kinds in
    let t4 = list_all (λ (p : Pair). leaf_meets task.machine task.target node.stands f.pairs p.leaf p.part) f.pairs in
    let t3 = list_all (is_allowed task.machine root node.stands f.goals) f.form.assignments in
    let t2 = list_all (is_met_once root node.stands f.form.assignments) f.goals in
    let t1 = takes_one_input f.goals in
    let p0 = and_both (nat_le (length node.steps) task.laws) _ keeps in
    let p1 = and_both t1 _ p0.1 in
    let p2 = and_both t2 _ p1.1 in
    let p3 = and_both t3 _ p2.1 in
    let p4 = and_both t4 _ p3.1 in
    let p5 = and_both t5 _ p4.1 in
    let p6 = and_both t6 _ p5.1 in
    let p7 = and_both t7 _ p6.1 in
    record {
      form = f.form;
      rewritten = f.goals;
      pairs = f.pairs;
      is_form = is_form;
      is_rewritten = is_rewritten;
      are_pairs = are_pairs;
      input = p1.0;
      met_once = p2.0;
      allowed = p3.0;
      leaves = p4.0;
      operands = p5.0;
      flag = p6.0;
      reach = p7.0;
      needs = needs;
    }

pub keeps_rules-of : (task : Task) (root : Bool) (goals : List Assignment) (node : Node) (inner : List Need) →
    children_for task root goals node ≡ Some inner → KeepsRules task root goals node inner
unfolding children_for
keeps_rules-of task root goals node inner e =
    let it = then_parts (needs_if_kept task root node) (found task root goals node) inner e in
    let f : Found = it.0 in
    let by = then_parts
    (λ (form : Form). option_and_then (λ (goals : List Assignment). option_map
    (λ (pairs : List Pair). record { form = form; goals = goals; pairs = pairs })
    (all_pairs root node.stands goals form.assignments))
    (goals_after root node.steps goals))
    (slice_get task.machine.forms node.instruction) f it.1 in
    let form : Form = by.0 in
    let two = then_parts
    (λ (goals : List Assignment). option_map (λ (pairs : List Pair). let f : Found = record { form = form; goals = goals; pairs = pairs } in f)
    (all_pairs root node.stands goals form.assignments)) (goals_after root node.steps goals) f by.2 in
    let new : List Assignment = two.0 in
    let three = map_parts (λ (pairs : List Pair). let f : Found = record { form = form; goals = new; pairs = pairs } in f)
    (all_pairs root node.stands new form.assignments) f two.2 in
    let same : record { form = form; goals = new; pairs = three.0 } ≡ f = three.2 in
    let kept = if_parts (keeps_rules task root node f) (needs_of task.machine node f.pairs) inner it.2 in
    kept_rules task root goals node inner f
    (subst (λ (f : Found). slice_get task.machine.forms node.instruction ≡ Some f.form) same by.1)
    (subst (λ (f : Found). goals_after root node.steps goals ≡ Some f.goals) same two.1)
    (subst (λ (f : Found). all_pairs root node.stands f.goals f.form.assignments ≡ Some f.pairs) same three.1)
    kept.0 kept.1
