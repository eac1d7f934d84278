use Rattle.std.proofs.Common.{◌∙◌, sym, ap, Some}
use Rattle.std.specs.Option.{option_map}
use Rattle.qc_terms.specs.Tree.{Tree, tree_of}
use Rattle.qc_pool.specs.Law.Kept.{at_id}
use Rattle.qc_pool.specs.Nodes.{term_at}
use Rattle.qc_equations.specs.Table.{gives}
use Rattle.qc_nodes.proofs.goals.given.Goals as goal

pub returns-in-Some : goal.returns-in-Some
returns-in-Some c =
    let here = at_id c.intern.new.self c.in_ok-id.id (tree_of c.args.term.now) c.in_ok-id.ensures.interned.at in
    ap (λ (t : Tree). Some t) c.in_ok-tree-in-Some.ensures ∙ sym (ap (option_map (term_at c.law_gives.new.pool)) c.in-Some.is)
    ∙ c.in_ok-id-2.ensures.given.term ∙ ap (gives c.args.law) here.1

pub returns : goal.returns
returns c =
    let here = at_id c.intern.new.self c.in_ok-id.id (tree_of c.args.term.now) c.in_ok-id.ensures.interned.at in
    sym (ap (option_map (term_at c.law_gives.new.pool)) c.in-None.is) ∙ c.in_ok-id-2.ensures.given.term
    ∙ ap (gives c.args.law) here.1
