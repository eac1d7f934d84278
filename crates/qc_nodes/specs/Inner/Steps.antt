-- The rules of a node that are of its operands, and what its children are to compute, from its instruction and its goals after laws on.
use Rattle.std.specs.Prelude.{ℕ, length, nat_le, Bool, ◌&&◌, ◌||◌, not, List, Option, option_and_then}
use Rattle.std.specs.List.{list_all}
use Rattle.std.specs.Option.{option_map}
use Rattle.qc_derivations.specs.Forest.{Node, Stand, is_there}
use Rattle.qc_derivations.specs.Goals.{Need}
use Rattle.qc_derivations.specs.Machine.{Assignment, Form, Machine}
use Rattle.qc_derivations.specs.Matching.{Pair, all_pairs}
use Rattle.qc_derivations.specs.Nodes.{Found, Task, agree, is_allowed, is_met_once, keeps_single, needs_if_kept, takes_one_input}
use Rattle.qc_derivations.specs.Rules.{addresses_reach, flag_pair, leaf_meets, operand_suits, operands_suit}

abbrev pub needs_after : Task → Bool → Node → Form → List Assignment → Option (List Need)
needs_after task root node form goals =
    option_and_then (needs_if_kept task root node)
    (option_map (λ pairs. record { form = form; goals = goals; pairs = pairs }) (all_pairs root node.stands goals form.assignments))

-- the rules of a node that are of its operands
abbrev pub operands_keep_rules : Task → Bool → Node → Form → List Pair → Bool
operands_keep_rules task root node form pairs =
    operands_suit (operand_suits task.machine task.target root form.assignments pairs) node.stands 0 form.kinds
    && (agree node.flag (is_there (flag_pair task.machine pairs))
    && (addresses_reach task.machine.align (task.branch && not root) form.coding 0 form.kinds
    && (not root || keeps_single task node form)))

-- one assignment of the instruction meets each goal
unfoldable pub all_met_once : Bool → List Stand → List Assignment → List Assignment → Bool
all_met_once root stands assignments goals = list_all (is_met_once root stands assignments) goals

-- one assignment of the instruction meets the goal
unfoldable pub met_once : Bool → List Stand → List Assignment → Assignment → Bool
met_once root stands assignments goal = is_met_once root stands assignments goal

-- each assignment meets a goal, or is harmless
unfoldable pub all_allowed : Machine → Bool → List Stand → List Assignment → List Assignment → Bool
all_allowed m root stands goals assignments = list_all (is_allowed m root stands goals) assignments

-- each leaf meets its part of the goal
unfoldable pub all_leaves_meet : Machine → Option ℕ → List Stand → List Pair → Bool
all_leaves_meet m target stands pairs = list_all (λ p. leaf_meets m target stands pairs p.leaf p.part) pairs

-- the rules of a node that are of its assignments, leaves and operands
abbrev pub effects_keep_rules : Task → Bool → Node → Found → Bool
effects_keep_rules task root node f =
    all_allowed task.machine root node.stands f.goals f.form.assignments
    && (all_leaves_meet task.machine task.target node.stands f.pairs && operands_keep_rules task root node f.form f.pairs)

-- the rules of a node
abbrev pub rules_kept : Task → Bool → Node → Found → Bool
rules_kept task root node f =
    nat_le (length node.steps) task.laws
    && (takes_one_input f.goals
    && (all_met_once root node.stands f.form.assignments f.goals && effects_keep_rules task root node f))
