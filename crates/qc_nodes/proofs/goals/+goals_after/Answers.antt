use Rattle.std.proofs.Common.{◌∙◌, sym, ap, rules}
use Rattle.std.specs.Option.{option_map}
use Rattle.qc_derivations.specs.Goals.{whole_place}
use Rattle.qc_nodes.specs.Inner.Views.{assignments_in}
use Rattle.qc_nodes.proofs.Widths.{place_keeps}
use Rattle.qc_nodes.proofs.goals.+goals_after.Goals as goal

pub goals_after-requires : goal.goals_after-requires
goals_after-requires t c = (
  search rules,
  place_keeps c.step-item.result.law (whole_place c.args.root c.step-item.result.place) (assignments_in c.args.goals)
      (assignments_in c.in-Some.goals)
      (sym c.in_ok-goals-in-len1-up.ensures ∙ ap (option_map assignments_in) c.in-Some.is)
      c.requires,
)
