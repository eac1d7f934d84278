use Rattle.std.proofs.Common.{arith, ◌∙◌, sym, ap, length}
use Rattle.qc_equations.specs.Matching.{is_constant}
use Rattle.qc_pool.specs.Nodes.{term_at}
use Rattle.qc_pool.proofs.Sound.{known_at, length-terms_of}
use Rattle.qc_pool.proofs.region.Pool.is_constant.Goals as goal

pub entry-requires : goal.entry-requires
entry-requires c = omega (arith, length-terms_of c.self.inside.entries.keys, ap length c.self.view_is)

pub returns : goal.returns
returns c =
    let es = c.self.inside.entries.keys in
    let known = known_at es c.self.invariant.sound c.args.id c.entry.result.now c.entry.ensures in
    known.shows.constant ∙ ap is_constant (sym known.term) ∙ ap (λ ts. is_constant (term_at ts c.args.id)) c.self.view_is
