use Rattle.std.proofs.Common.{◌∙◌, ap}
use Rattle.qc_nodes.specs.Inner.Views.{assignments_in}
use Rattle.qc_nodes.proofs.Widths.{set_mapped}
use Rattle.qc_nodes.proofs.goals.with_goal.Goals as goal

pub returns : goal.returns
returns c = ap assignments_in c.set.ensures ∙ set_mapped c.args.goals c.args.number c.args.goal
