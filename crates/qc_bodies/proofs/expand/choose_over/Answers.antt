use Rattle.std.proofs.Common.{◌-◌, List, ℕ, length, take, subst, sym, ◌∙◌}
use Rattle.std.specs.List.{AllZip}
use Rattle.qc_bodies.specs.Nodes.{IsAt}
use Rattle.qc_bodies.proofs.Placed.{each_ok, keep_all}
use Rattle.qc_bodies.proofs.Tasks.{both_ok, split_last}
use Rattle.qc_bodies.proofs.expand.choose_over.Goals as goal

pub returns-clause-places : goal.returns-clause-places
returns-clause-places c =
    both_ok _ _ _ c.choose.result (each_ok _ _ c.choose.result c.choose.ensures.places) c.choose.ensures.keeps (λ p h keeps us ps are count.
    let old = c.args.nodes.now in
    let new = c.choose.new.nodes in
    let base = length c.args.done.now.items - c.args.count in
    let halves = split_last (IsAt old) c.args.done.now.items us ps c.args.count count are in
    let A : List ℕ → Type 0 = λ l. AllZip (IsAt old) l ps in
    let Q : List ℕ → Type 0 = λ l. AllZip (IsAt new) l us in (
      subst Q (sym c.in_ok-args.ensures.rest) (keep_all old new keeps (take base c.args.done.now.items) us halves.0),
      h ps (subst A (sym (c.as_slice.ensures.value ∙ c.in_ok-args.ensures.last)) halves.1),
    ))
