use Rattle.qc_derivations.specs.Forest.{node_of}
use Rattle.qc_nodes.specs.Needs.{need_of}
use Rattle.qc_nodes.specs.Tasks.{task_in}
use Rattle.qc_nodes.proofs.Parts.{needs_have_widths}
use Rattle.qc_nodes.proofs.children.children_of.Goals as goal

pub returns-clause-widths : goal.returns-clause-widths
returns-clause-widths c =
    needs_have_widths (task_in c.args.descr.now c.args.job) (need_of c.args.need.now) (node_of c.args.derivation.now)
    c.in_ok-found.found c.in_ok-found.ensures c.requires
