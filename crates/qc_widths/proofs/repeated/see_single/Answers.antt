use Rattle.std.specs.Prelude.{[], ◌∷◌, map}
use Rattle.std.proofs.Common.{ap, ◌∙◌}
use Rattle.std.proofs.lemmas.Result.{on_ok_weaker}
use Rattle.qc_names.specs.Seen.{noted}
use Rattle.qc_facts.specs.declared.faults.WidthFault.TheVariants.{TwiceNamed}
use Rattle.qc_facts.specs.Faults.{token_of, rank_of}
use Rattle.qc_widths.specs.Inner.Repeated.{named_single, noted_all}
use Rattle.qc_widths.proofs.repeated.see_single.Goals as goal

pub returns-in-Some : goal.returns-in-Some
returns-in-Some c =
    on_ok_weaker c.see_text.result
    (λ e. e
    ∙ ap (λ n. noted token_of rank_of TwiceNamed c.args.seen.now (record { token = c.in-Some.token; text = n ∷ [] }))
    c.number_of.ensures
    ∙ ap (λ items. noted_all c.args.seen.now (map named_single items)) c.in-Some.ensures)
    c.see_text.ensures.after
