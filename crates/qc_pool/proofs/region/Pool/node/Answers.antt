use Rattle.std.proofs.Common.{arith, ◌≡◌, sym, ap, subst, List, length, take}
use Rattle.qc_terms.specs.Tree.{Tree}
use Rattle.qc_pool.specs.Nodes.{NodeFits, term_at, term_of}
use Rattle.qc_pool.proofs.Sound.{known_at, length-terms_of}
use Rattle.qc_pool.proofs.region.Pool.node.Goals as goal

pub entry-requires : goal.entry-requires
entry-requires c = omega (arith, length-terms_of c.self.inside.entries.keys, ap length c.self.view_is)

pub returns-clause-term : goal.returns-clause-term
returns-clause-term c =
    let es = c.self.inside.entries.keys in
    let known = known_at es c.self.invariant.sound c.args.id c.entry.result.now c.entry.ensures in
    let P : List Tree → Type 0 = λ ts. term_of ts c.entry.result.now.node ≡ term_at ts c.args.id in
    subst P c.self.view_is (sym known.term)

pub returns-clause-before : goal.returns-clause-before
returns-clause-before c =
    let es = c.self.inside.entries.keys in
    let known = known_at es c.self.invariant.sound c.args.id c.entry.result.now c.entry.ensures in
    let P : List Tree → Type 0 = λ ts. NodeFits (take c.args.id ts) c.entry.result.now.node in
    subst P c.self.view_is known.before
