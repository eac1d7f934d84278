use Rattle.std.proofs.Common.{sym, subst, List}
use Rattle.qc_terms.specs.Tree.{Tree}
use Rattle.qc_pool.specs.declared.node.Entry.{Entry}
use Rattle.qc_pool.specs.Nodes.{NodeFits, term_of}
use Rattle.qc_pool.specs.Regions.{IsAdded}
use Rattle.qc_pool.specs.Entries.{IsPut, Shows, terms_of}
use Rattle.qc_pool.proofs.Added.{added, sound_after}
use Rattle.std.proofs.lemmas.Result.{IfOk-weaker}
use Rattle.qc_pool.proofs.region.Pool.add.Goals as goal

pub invariant_of-self : goal.invariant_of-self
invariant_of-self c =
    let e : Entry = record { node = c.args.node; width = c.width_of_node-width.result; constant = c.is_constant_node-constant.result } in
    let P : List Tree → Type 0 = λ ts. NodeFits ts c.args.node in
    let Q : List Tree → Type 0 = λ ts. Shows e (term_of ts c.args.node) in
    let shows : Q c.args.self.now = record { width = c.width_of_node-width.ensures; constant = c.is_constant_node-constant.ensures } in
    record {
      sound = sound_after c.put.result c.self.inside.entries.keys c.put.new.entries.keys e c.self.invariant.sound
          (subst P (sym c.self.view_is) c.requires) (subst Q (sym c.self.view_is) shows)
          c.put.ensures.put c.put.ensures.refused;
      apart = c.put.ensures.apart;
    }

pub returns-clause-added : goal.returns-clause-added
returns-clause-added c =
    let e : Entry = record { node = c.args.node; width = c.width_of_node-width.result; constant = c.is_constant_node-constant.result } in
    let old = c.self.inside.entries.keys in
    let new = c.put.new.entries.keys in
    let P : List Tree → Type 0 = λ ts. NodeFits ts c.args.node in
    let Q : List Tree → Type 0 = λ ts. Shows e (term_of ts c.args.node) in
    let fits = subst P (sym c.self.view_is) c.requires in
    let all : Q c.args.self.now = record { width = c.width_of_node-width.ensures; constant = c.is_constant_node-constant.ensures } in
    let shows = subst Q (sym c.self.view_is) all in
    IfOk-weaker c.put.result (λ id. IsPut old new e id) (λ id. IsAdded c.args.self.now (terms_of new) (term_of c.args.self.now c.args.node) id)
    (λ id put.
    let R : List Tree → Type 0 = λ ts. IsAdded ts (terms_of new) (term_of ts c.args.node) id in
    subst R c.self.view_is (added old new e id c.self.invariant fits shows put))
    c.put.ensures.put
