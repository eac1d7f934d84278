use Rattle.std.proofs.Common.{ap, ◌∙◌}
use Rattle.qc_names.specs.Law.Reported.{reported_four}
use Rattle.qc_facts.specs.Faults.{token_of, rank_of, reported_of_both}
use Rattle.qc_widths.proofs.repeated.second_names.Goals as goal

pub returns : goal.returns
returns c =
    c.earlier-3.ensures ∙ ap (reported_of_both c.in_ok-single.single)
    (c.earlier-2.ensures ∙ ap (reported_of_both c.in_ok-spaces.spaces) c.earlier.ensures)
    ∙ reported_four token_of rank_of _ _ _ _ c.in_ok-single.single c.in_ok-spaces.spaces c.in_ok-functions.functions
    c.in_ok-instructions.instructions
    c.in_ok-single.ensures c.in_ok-spaces.ensures c.in_ok-functions.ensures c.in_ok-instructions.ensures
