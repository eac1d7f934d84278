use Rattle.std.proofs.Common.{rules, ◌≡◌, ◌<◌, ◌^◌, ℕ, Option, IfSome, sym, subst}
use Rattle.qc_terms.specs.Law.Values.{value_of-lt}
use Rattle.qc_terms.specs.Tree.{tree_of, width_of}
use Rattle.qc_terms.specs.Value.{value_of}
use Rattle.qc_terms.proofs.evaluate.value.Goals as goal

pub returns-clause-word : goal.returns-clause-word
returns-clause-word c =
    let tree = tree_of c.args.term.now in
    let P : Option ℕ → Type 0 = λ r. IfSome r (λ v. v < 2 ^ width_of tree) in
    let same : c.map.result ≡ value_of tree c.args.operands.now c.args.after c.args.state.now = search rules in
    subst P (sym same)
    (value_of-lt c.args.state.now c.args.operands.now c.args.after c.requires.state c.requires.after tree c.requires.typed
    c.requires.operands)
