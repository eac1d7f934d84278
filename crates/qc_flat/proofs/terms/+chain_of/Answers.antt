use Rattle.std.proofs.Common.{◌≡◌, ◌∙◌, ◌/◌, [], ap, subst, sym, rules}
use Rattle.std.proofs.lemmas.Option.{IfSome_then}
use Rattle.qc_terms.specs.State.{context_of}
use Rattle.qc_terms.specs.Tree.{Binary, Load, Unary, tree_of, tree_of-bin, tree_of-mem, tree_of-un}
use Rattle.qc_terms.specs.Typing.{IsTyped}
use Rattle.qc_flat.specs.Chain.{IsChainOf}
use Rattle.qc_flat.proofs.Chains.{of_binary, of_load, of_unary}
use Rattle.qc_flat.proofs.terms.+chain_of.Goals as goal

pub returns-in_ok-start-in-Un-clause-chain : goal.returns-in_ok-start-in-Un-clause-chain
returns-in_ok-start-in-Un-clause-chain t c =
    let s = c.args.state.now in
    let op = c.in-Un.op in
    let arg = c.in-Un.arg in
    let d = c.in_ok-start-in-Un.field-0 in
    let tree : tree_of c.args.term.now ≡ Unary op (tree_of arg) = ap tree_of c.in-Un.is ∙ tree_of-un op arg in
    let is : IsChainOf (context_of s) s.facts.zero c.args.operands.now c.args.after (tree_of arg) d = search rules in
    let typed : IsTyped (context_of s) (Unary op (tree_of arg)) = subst (IsTyped (context_of s)) tree c.requires.typed in
    IfSome_then c.applied_to_one.result c.applied_to_one.ensures.chain
    (λ r made. subst (λ x. IsChainOf (context_of s) s.facts.zero c.args.operands.now c.args.after x r) (sym tree)
    (of_unary (context_of s) s.facts.zero c.args.operands.now c.args.after op (tree_of arg) d r typed is made))

pub returns-in_ok-start-in-Bin-clause-chain : goal.returns-in_ok-start-in-Bin-clause-chain
returns-in_ok-start-in-Bin-clause-chain t c =
    let s = c.args.state.now in
    let op = c.in-Bin.op in
    let left = c.in-Bin.left in
    let right = c.in-Bin.right in
    let d = c.in_ok-start-in-Bin.field-0 in
    let e = c.in_ok-second-in-Bin.second in
    let tree : tree_of c.args.term.now ≡ Binary op (tree_of left) (tree_of right) = ap tree_of c.in-Bin.is ∙ tree_of-bin op left right in
    let is : IsChainOf (context_of s) s.facts.zero c.args.operands.now c.args.after (tree_of left) d = search rules in
    let other : IsChainOf (context_of s) s.facts.zero c.args.operands.now c.args.after (tree_of right) e = search rules in
    let alone : e.links.items ≡ [] = search rules in
    let typed : IsTyped (context_of s) (Binary op (tree_of left) (tree_of right)) = subst (IsTyped (context_of s)) tree c.requires.typed in
    IfSome_then c.applied.result c.applied.ensures.chain
    (λ r made. subst (λ x. IsChainOf (context_of s) s.facts.zero c.args.operands.now c.args.after x r) (sym tree)
    (of_binary (context_of s) s.facts.zero c.args.operands.now c.args.after op (tree_of left) (tree_of right) d e r typed is other alone made))

pub returns-in_ok-start-in-Mem-clause-chain : goal.returns-in_ok-start-in-Mem-clause-chain
returns-in_ok-start-in-Mem-clause-chain t c =
    let s = c.args.state.now in
    let width = c.in-Mem.width in
    let address = c.in-Mem.address in
    let d = c.in_ok-start-in-Mem.field-0 in
    let tree : tree_of c.args.term.now ≡ Load width (tree_of address) = ap tree_of c.in-Mem.is ∙ tree_of-mem width address in
    let is : IsChainOf (context_of s) s.facts.zero c.args.operands.now c.args.after (tree_of address) d = search rules in
    let typed : IsTyped (context_of s) (Load width (tree_of address)) = subst (IsTyped (context_of s)) tree c.requires.typed in
    IfSome_then c.linked.result c.linked.ensures.chain
    (λ r made. subst (λ x. IsChainOf (context_of s) s.facts.zero c.args.operands.now c.args.after x r) (sym tree)
    (of_load (context_of s) s.facts.zero c.args.operands.now c.args.after width (c.bits.result / 8) (tree_of address) d r typed is
    (ap (λ n. n / 8) c.bits.ensures.value) made))
