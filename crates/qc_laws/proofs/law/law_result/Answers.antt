use Rattle.std.proofs.Common.{◌∙◌, sym, ap}
use Rattle.std.specs.Option.{option_map}
use Rattle.qc_pool.specs.Nodes.{term_at}
use Rattle.qc_pool.specs.Widths.{HasWidths}
use Rattle.qc_equations.specs.Law.Widths.{gives-width}
use Rattle.qc_laws.specs.Law.Widths.{by_widths}
use Rattle.qc_laws.proofs.law.law_result.Goals as goal

pub returns-clause-alike : goal.returns-clause-alike
returns-clause-alike c =
    let new = c.law_gives.new.pool in
    c.laws_keep_terms_alike.ensures c.args.law (term_at c.args.pool.now c.args.id) (term_at new c.in-Some.given)
    (sym c.in_ok-given.ensures.given.term ∙ ap (option_map (term_at new)) c.in-Some.is)

pub returns-clause-width : goal.returns-clause-width
returns-clause-width c =
    let new = c.law_gives.new.pool in
    let old = c.args.pool.now in
    gives-width HasWidths by_widths c.args.law (term_at old c.args.id) (term_at new c.in-Some.given)
    (sym c.in_ok-given.ensures.given.term ∙ ap (option_map (term_at new)) c.in-Some.is) c.width-width.ensures.fits
