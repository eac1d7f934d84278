use Rattle.std.proofs.Common.{List, arith, ◌∙◌, sym, ap, length, subst}
use Rattle.qc_terms.specs.Tree.{Number, Tree, width_of}
use Rattle.qc_pool.specs.Nodes.{term_at}
use Rattle.qc_pool.proofs.Sound.{known_at, length-terms_of}
use Rattle.std.proofs.lemmas.Option.{slice_get-get_or}
use Rattle.qc_pool.specs.Widths.{HasWidths}
use Rattle.qc_pool.specs.Entries.{terms_of}
use Rattle.qc_pool.proofs.Added.{region}
use Rattle.qc_pool.proofs.region.Pool.width.Goals as goal

pub entry-requires : goal.entry-requires
entry-requires c = omega (arith, length-terms_of c.self.inside.entries.keys, ap length c.self.view_is)

pub returns-clause-width : goal.returns-clause-width
returns-clause-width c =
    let es = c.self.inside.entries.keys in
    let known = known_at es c.self.invariant.sound c.args.id c.entry.result.now c.entry.ensures in
    known.shows.width ∙ ap width_of (sym known.term) ∙ ap (λ ts. width_of (term_at ts c.args.id)) c.self.view_is

pub returns-clause-fits : goal.returns-clause-fits
returns-clause-fits c =
    let es = c.self.inside.entries.keys in
    let within = c.requires in
    let P : List Tree → Type 0 = λ ts. HasWidths (term_at ts c.args.id) in
    subst P c.self.view_is
    ((region es c.self.invariant).widths c.args.id (term_at (terms_of es) c.args.id)
    (slice_get-get_or (terms_of es) c.args.id (Number 0 1) (omega (arith, within, ap length c.self.view_is))))
