-- When a node of a derivation keeps the rules, and what its children are to compute.
use Rattle.std.specs.Prelude.{ℕ, ◌+◌, Bool, true, false, ◌&&◌, ◌||◌, not, List, [], ◌∷◌, ◌++◌, length, map, sum, count_by, nat_eq, nat_le, slice_get, Option, None, Some, option_and_then, if◌then◌else◌}
use Rattle.std.specs.List.{list_all, list_any}
use Rattle.std.specs.Option.{option_map}
use Rattle.qc_terms.specs.declared.term.Place.TheVariants as place
use Rattle.qc_terms.specs.Tree.{Tree}
use Rattle.qc_descr.specs.declared.description.Description.{Description}
use Rattle.qc_tiles.specs.declared.shape.Shape.{Shape}
use Rattle.qc_tiles.specs.declared.shape.Shape.TheVariants as shape
use Rattle.qc_tiles.specs.declared.tile.Tile.{Tile}
use Rattle.qc_tiles.specs.Names.{shape_of}
use Rattle.qc_derivations.specs.declared.derivation.Leaf.{Leaf}
use Rattle.qc_derivations.specs.declared.derivation.Leaf.TheVariants as leaf
use Rattle.qc_derivations.specs.Forest.{Node, Stand, Spare, Child, is_there}
use Rattle.qc_derivations.specs.Goals.{InFlag, InRegister, Need, goals_after, goals_of, is_root}
use Rattle.qc_derivations.specs.Machine.{Assignment, Destination, Form, Machine, ToPlace, ToMemory, machine_of}
use Rattle.qc_derivations.specs.Matching.{Pair, all_pairs, goal_met, meets}
use Rattle.qc_derivations.specs.Rules.{addresses_reach, flag_pair, is_flag, is_harmless, leaf_meets, operand_suits, operands_suit, register_part}
use Rattle.qc_derivations.specs.Same.{inputs_in}

-- ---- what all nodes of a derivation have in common

abbrev pub is_branch : Shape → Bool
is_branch (shape.Branch op) = true
is_branch _ = false

-- tiles whose derivations are one instruction
abbrev pub is_single : Shape → Bool
is_single shape.SaveLink = true
is_single shape.LoadLink = true
is_single shape.Spill = true
is_single shape.Reload = true
is_single _ = false

-- of these, the tiles whose instruction changes nothing beside the goal
abbrev pub is_bare : Shape → Bool
is_bare shape.Spill = true
is_bare shape.Reload = true
is_bare _ = false

-- the number of the operand that is a tile's target
abbrev pub target_of : Tile → Option ℕ
target_of t = if t.target then Some (t.registers + length t.constants) else None

-- The machine, the tile's target by its operand's number, whether the tile is a branch, one of a single instruction, or one
-- of those that change nothing beside the goal, and how many laws a node may use.
pub record Task : Type 0 where
  pub machine : Machine
  pub target : Option ℕ
  pub branch : Bool
  pub single : Bool
  pub bare : Bool
  pub laws : ℕ

abbrev pub task_of : Description → Tile → ℕ → Task
task_of d t laws = record {
  machine = machine_of d;
  target = target_of t;
  branch = is_branch (shape_of t.name);
  single = is_single (shape_of t.name);
  bare = is_bare (shape_of t.name);
  laws = laws;
}

-- ---- one node

-- what is found of a node: its instruction, the goals after its laws, and the pairs of both
pub record Found : Type 0 where
  pub form : Form
  pub goals : List Assignment
  pub pairs : List Pair

-- The instruction is there, each law matches at its place, and each assignment that meets a goal has the goal's form.
abbrev pub found : Task → Bool → List Assignment → Node → Option Found
found task root goals node =
    option_and_then (λ form. option_and_then (λ rewritten. option_map
    (λ pairs. record { form = form; goals = rewritten; pairs = pairs })
    (all_pairs root node.stands rewritten form.assignments))
    (goals_after root node.steps goals))
    (slice_get task.machine.forms node.instruction)

abbrev pub inputs_in_guard : Option Tree → ℕ
inputs_in_guard None = 0
inputs_in_guard (Some guard) = inputs_in guard

abbrev pub inputs_in_destination : Destination → ℕ
inputs_in_destination (ToMemory width address) = inputs_in address
inputs_in_destination _ = 0

abbrev pub inputs_in_goal : Assignment → ℕ
inputs_in_goal a = inputs_in_guard a.guard + (inputs_in_destination a.to + inputs_in a.value)

-- the input is read in one place at most
abbrev pub takes_one_input : List Assignment → Bool
takes_one_input goals = nat_le (sum (map inputs_in_goal goals)) 1

-- one assignment of the instruction meets the goal
abbrev pub is_met_once : Bool → List Stand → List Assignment → Assignment → Bool
is_met_once root stands assignments goal =
    nat_eq (count_by (λ a. meets root stands goal.to a.to) assignments) 1

-- an assignment meets a goal, or is harmless
abbrev pub is_allowed : Machine → Bool → List Stand → List Assignment → Assignment → Bool
is_allowed m root stands goals a = is_there (goal_met root stands goals a) || is_harmless m stands a

abbrev pub is_child : Stand → Bool
is_child Child = true
is_child _ = false

abbrev pub stands_spare : Stand → Bool
stands_spare Spare = true
stands_spare _ = false

abbrev pub is_flag_destination : Machine → Destination → Bool
is_flag_destination m (ToPlace p) = is_flag m p
is_flag_destination m _ = false

abbrev pub writes_flag : Machine → Assignment → Bool
writes_flag m a = is_flag_destination m a.to

-- a tile of one instruction has no child; where it changes nothing beside the goal, no register is spare and no flag is written
abbrev pub keeps_single : Task → Node → Form → Bool
keeps_single task node form =
    (not task.single || (not node.flag && not (list_any is_child node.stands)))
    && (not task.bare || (not (list_any stands_spare node.stands) && not (list_any (writes_flag task.machine) form.assignments)))

-- both tests hold, or neither does
abbrev pub agree : Bool → Bool → Bool
agree true other = other
agree false other = not other

-- The rules of a node: few laws; the input read once; one assignment for each goal, and the others harmless; each leaf meets
-- its part of the goal; something fitting stands for each operand; a child computes a flag exactly where one is read;
-- addresses reach, and in a branch a relative one stands in the root alone; and the rule of tiles of one instruction.
abbrev pub keeps_rules : Task → Bool → Node → Found → Bool
keeps_rules task root node f =
    nat_le (length node.steps) task.laws
    && (takes_one_input f.goals
    && (list_all (is_met_once root node.stands f.form.assignments) f.goals
    && (list_all (is_allowed task.machine root node.stands f.goals) f.form.assignments
    && (list_all (λ p. leaf_meets task.machine task.target node.stands f.pairs p.leaf p.part) f.pairs
    && (operands_suit (operand_suits task.machine task.target root f.form.assignments f.pairs) node.stands 0 f.form.kinds
    && (agree node.flag (is_there (flag_pair task.machine f.pairs))
    && (addresses_reach task.machine.align (task.branch && not root) f.form.coding 0 f.form.kinds
    && (not root || keeps_single task node f.form))))))))

-- ---- its children

abbrev pub flag_need_at : Leaf → Tree → List Need
flag_need_at (leaf.Register (place.Cell space index) width) part = InFlag space index part ∷ []
flag_need_at _ part = []

-- what a flag's child is to compute, if there is one
abbrev pub flag_need : Option Pair → List Need
flag_need None = []
flag_need (Some p) = flag_need_at p.leaf p.part

abbrev pub need_before : Option Tree → Option (List Need) → Option (List Need)
need_before part needs = option_and_then (λ t. option_map (λ ns. InRegister t ∷ ns) needs) part

-- What the children at operands are to compute, from the operand of one number on. There is none where one of these operands
-- meets no part of the goal.
abbrev pub child_needs : ℕ → List Stand → List Pair → Option (List Need)
child_needs number [] pairs = Some []
child_needs number (stand ∷ stands) pairs =
    if is_child stand then need_before (register_part number pairs) (child_needs (number + 1) stands pairs)
    else child_needs (number + 1) stands pairs

-- what the children are to compute, in order, the flag last
abbrev pub needs_of : Machine → Node → List Pair → Option (List Need)
needs_of m node pairs = option_map (λ needs. needs ++ flag_need (flag_pair m pairs)) (child_needs 0 node.stands pairs)

-- the needs of what was found, where it keeps the rules
abbrev pub needs_if_kept : Task → Bool → Node → Found → Option (List Need)
needs_if_kept task root node f = if keeps_rules task root node f then needs_of task.machine node f.pairs else None

-- what the children of a node for these goals are to compute, or none where the node breaks a rule
unfoldable pub children_for : Task → Bool → List Assignment → Node → Option (List Need)
children_for task root goals node = option_and_then (needs_if_kept task root node) (found task root goals node)

abbrev pub children_of : Task → Need → Node → Option (List Need)
children_of task need node = children_for task (is_root need) (goals_of need) node
