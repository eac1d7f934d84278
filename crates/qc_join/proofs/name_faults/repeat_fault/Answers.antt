use Rattle.std.proofs.Common.{ap, ◌∙◌}
use Rattle.qc_join.specs.Faults.{reported_of_both, token_of, rank_of}
use Rattle.qc_names.specs.Law.Reported.{reported_four}
use Rattle.qc_join.proofs.name_faults.repeat_fault.Goals as goal

pub returns : goal.returns
returns c =
    c.earlier-3.ensures ∙ ap (reported_of_both c.in_ok-tokens.tokens)
    (c.earlier-2.ensures ∙ ap (reported_of_both c.args.fields) c.earlier.ensures)
    ∙ reported_four token_of rank_of _ _ _ _ c.in_ok-tokens.tokens c.args.fields c.in_ok-patterns.patterns
    c.in_ok-constructors.constructors
    c.in_ok-tokens.ensures c.requires c.in_ok-patterns.ensures c.in_ok-constructors.ensures
