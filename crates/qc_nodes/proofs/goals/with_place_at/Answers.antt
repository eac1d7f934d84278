use Rattle.std.proofs.Common.{◌∙◌, List, ap, slice_get, sym}
use Rattle.qc_terms.specs.declared.term.Effect.{Effect}
use Rattle.qc_derivations.specs.Machine.{assignment_of}
use Rattle.qc_nodes.specs.Inner.Views.{assignments_in}
use Rattle.qc_nodes.proofs.Widths.{goal_at}
use Rattle.qc_nodes.proofs.goals.with_place_at.Goals as goal

pub with_part-requires : goal.with_part-requires
with_part-requires c =
    goal_at (assignments_in c.args.goals) c.args.number (assignment_of c.in-Some.effect.now)
    (sym (ap (λ (gs : List Effect). slice_get (assignments_in gs) c.args.number) c.as_slice.ensures) ∙ sym c.in-Some.ensures.goal)
    c.requires
