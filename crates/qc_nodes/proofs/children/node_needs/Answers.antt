use Rattle.std.proofs.Common.{◌≡◌, ◌∙◌, ap, sym}
use Rattle.std.proofs.lemmas.Result.{IfOk-weaker}
use Rattle.std.specs.Option.{option_map}
use Rattle.qc_derivations.specs.Forest.{node_of}
use Rattle.qc_derivations.specs.Machine.{form_of}
use Rattle.qc_derivations.specs.Nodes.{children_of}
use Rattle.qc_nodes.specs.Inner.Steps.{needs_after}
use Rattle.qc_nodes.specs.Inner.Views.{assignments_in}
use Rattle.qc_nodes.specs.Needs.{need_of, needs_in}
use Rattle.qc_nodes.specs.Tasks.{task_in}
use Rattle.qc_nodes.proofs.Found.{children_are}
use Rattle.qc_nodes.proofs.children.node_needs.Goals as goal

pub returns : goal.returns
returns c =
    let task = task_in c.args.descr.now c.args.job in
    let need = need_of c.args.need.now in
    let node = node_of c.args.derivation.now in
    let form = form_of c.in-Some.instruction.now in
    let goals = assignments_in c.as_slice-goals.result.now in
    let same =
    children_are task need node form c.is_root-root.result (assignments_in c.in-Some-found.goals) goals c.is_root-root.ensures
    (sym c.in-Some.ensures) (sym c.in_ok-found.ensures ∙ ap (option_map assignments_in) c.in-Some-found.is)
    (ap assignments_in c.as_slice-goals.ensures) in
    IfOk-weaker c.needs_after.result (λ found. option_map needs_in found ≡ needs_after task c.is_root-root.result node form goals)
    (λ found. option_map needs_in found ≡ children_of task need node) (λ found e. e ∙ same) c.needs_after.ensures
