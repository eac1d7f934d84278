use Rattle.std.proofs.Common.{ap, ◌∙◌}
use Rattle.std.proofs.lemmas.Result.{on_ok_weaker}
use Rattle.qc_widths.specs.Inner.Repeated.{noted_all}
use Rattle.qc_widths.proofs.repeated.see_item.Goals as goal

pub returns-in-Some : goal.returns-in-Some
returns-in-Some c =
    on_ok_weaker c.see.result (λ e. e ∙ ap (noted_all c.args.seen.now) c.in-Some.ensures) c.see.ensures.after
