-- What a node's children are to compute, by its instruction and its goals after laws.
use Rattle.std.proofs.Common.{◌≡◌, ◌∙◌, Bool, List, Option, Some, ap, sym, option_and_then, slice_get}
use Rattle.std.specs.Option.{option_map}
use Rattle.qc_derivations.specs.Forest.{Node}
use Rattle.qc_derivations.specs.Goals.{Need, goals_after, goals_of, is_root}
use Rattle.qc_derivations.specs.Machine.{Assignment, Form}
use Rattle.qc_derivations.specs.Matching.{all_pairs}
use Rattle.qc_derivations.specs.Nodes.{Found, Task, children_for, children_of, needs_if_kept}
use Rattle.qc_nodes.specs.Inner.Steps.{needs_after}

-- the pairs of an instruction and the goals, with both
abbrev with_pairs : Bool → Node → Form → List Assignment → Option Found
with_pairs root node form goals =
    option_map (λ pairs. record { form = form; goals = goals; pairs = pairs }) (all_pairs root node.stands goals form.assignments)

node_children : (task : Task) (root : Bool) (goals rewritten : List Assignment) (node : Node) (form : Form) →
    slice_get task.machine.forms node.instruction ≡ Some form → goals_after root node.steps goals ≡ Some rewritten →
    children_for task root goals node ≡ needs_after task root node form rewritten
unfolding children_for
node_children task root goals rewritten node form there after =
    ap (λ (x : Option Form). option_and_then (needs_if_kept task root node)
    (option_and_then (λ f. option_and_then (with_pairs root node f) (goals_after root node.steps goals)) x)) there
    ∙ ap (λ (y : Option (List Assignment)). option_and_then (needs_if_kept task root node)
    (option_and_then (with_pairs root node form) y)) after

pub children_are : (task : Task) (need : Need) (node : Node) (form : Form) (root : Bool) (rewritten goals : List Assignment) →
    root ≡ is_root need → slice_get task.machine.forms node.instruction ≡ Some form →
    goals_after (is_root need) node.steps (goals_of need) ≡ Some rewritten → goals ≡ rewritten →
    needs_after task root node form goals ≡ children_of task need node
children_are task need node form root rewritten goals is there after same =
    ap (λ (r : Bool). needs_after task r node form goals) is
    ∙ ap (needs_after task (is_root need) node form) same
    ∙ sym (node_children task (is_root need) (goals_of need) rewritten node form there after)
