use Rattle.std.proofs.Common.{arith, ◌≡◌, ◌∙◌, ℕ, ◌+◌, ◌*◌, ◌-◌, List, [], ◌∷◌, Option, IfSome, ap, drop, length, subst, sym, take}
use Rattle.std.proofs.lemmas.Result.{IfOk-weaker}
use Rattle.std.specs.Option.{option_map}
use Rattle.qc_derivations.specs.declared.derivation.Binding.{Binding}
use Rattle.qc_derivations.specs.declared.derivation.Derivation.{out-Derivation}
use Rattle.qc_derivations.specs.Forest.{children_in, forest_of, grows_of, nodes_of}
use Rattle.qc_derivations.specs.Goals as goals
use Rattle.qc_derivations.specs.Valid.{first_fault}
use Rattle.qc_nodes.specs.declared.need.Need.{Need}
use Rattle.qc_nodes.specs.Needs.{NeedsHaveWidths, need_of, needs_in}
use Rattle.qc_nodes.specs.Tasks.{task_in}
use Rattle.qc_derive.specs.Inner.Walks.{walked}
use Rattle.qc_sequences.specs.Law.Weights.{before_weight, tree_weight, weight}
use Rattle.qc_derive.proofs.Walks.{cons_is, empty_fault, next_before, tail_fits, tree_none, tree_some}
use Rattle.qc_derive.proofs.walk.+walk.Goals as goal

pub first_tree-trees-requires : goal.first_tree-trees-requires
first_tree-trees-requires t c =
    let rest = children_in c.args.bindings.now c.args.flag.now in
    let whole = before_weight c.args.child.now rest in
    let some = tree_weight c.args.child.now in
    (omega (arith, c.decreases, whole, some), tail_fits c.args.needs.now c.requires)

pub first_tree-returns-in-empty : goal.first_tree-returns-in-empty
first_tree-returns-in-empty t c =
    let rest = children_in c.args.bindings.now c.args.flag.now in
    empty_fault (task_in c.args.descr.now c.args.job) c.args.node (c.args.node + nodes_of (grows_of c.args.child.now rest))
    c.args.child.now rest c.args.needs.now c.in-empty.len_below

pub first_tree-returns-in-Next : goal.first_tree-returns-in-Next
first_tree-returns-in-Next t c =
    let task = task_in c.args.descr.now c.args.job in
    let rest = children_in c.args.bindings.now c.args.flag.now in
    let child = c.args.child.now in
    let ns = c.args.needs.now in
    let item = c.need-item.result in
    let tail = take (length ns - 1) (drop 1 ns) in
    let m = c.in-Next.node in
    let n = c.args.node in
    let step = next_before task n m child rest (need_of item) (needs_in tail) (sym c.in-Next.is ∙ c.in_ok-node-in-len1-up.ensures) in
    let whole = cons_is ns item c.need-item.is c.in-len1-up.len_at_least in
    let back = ap (λ (needs : List goals.Need). walked (first_fault task n (grows_of child rest) needs) (n + nodes_of (grows_of child rest))) whole in
    IfOk-weaker c.trees.result (λ answer. answer ≡ walked (first_fault task m rest (needs_in tail)) (m + nodes_of rest))
    (λ answer. answer ≡ walked (first_fault task n (grows_of child rest) (needs_in ns)) (n + nodes_of (grows_of child rest)))
    (λ answer e. e ∙ sym step ∙ sym back) c.trees.ensures

pub tree-trees-requires : goal.tree-trees-requires
tree-trees-requires t c =
    let d = c.args.derivation.now in
    let whole = tree_weight d in
    let same =
    ap (λ (bs : List Binding). 5 * weight (children_in bs (out-Derivation d).flag) + (length bs + 4)) c.as_slice-bindings.ensures in
    let P : Option (List Need) → Type 0 = λ found. IfSome found (λ needs. NeedsHaveWidths (needs_in needs)) in
    let fits : NeedsHaveWidths (needs_in c.in-Some.needs) = subst P c.in-Some.is c.in_ok-needs.ensures.widths in
    (omega (arith, c.decreases, whole, same), subst (λ (needs : List Need). NeedsHaveWidths (needs_in needs)) (sym c.as_slice.ensures) fits)

pub tree-returns-in_ok-first-in-Some : goal.tree-returns-in_ok-first-in-Some
tree-returns-in_ok-first-in-Some t c =
    let task = task_in c.args.descr.now c.args.job in
    let d = c.args.derivation.now in
    let need = need_of c.args.need.now in
    let flag = (out-Derivation d).flag in
    let n = c.args.node in
    let first = c.in_ok-first-in-Some.first in
    let bs = c.as_slice-bindings.result.now in
    let slice = c.as_slice.result.now in
    let answer_of = λ (k : ℕ) (bindings : List Binding) (needs : List Need). walked (first_fault task k (children_in bindings flag) (needs_in needs)) (k + nodes_of (children_in bindings flag)) in
    let found = sym c.in_ok-needs.ensures.children ∙ ap (option_map needs_in) c.in-Some.is in
    let same =
    ap (λ (k : ℕ). answer_of k bs slice) c.in_ok-first-in-Some.ensures
    ∙ ap (λ (bindings : List Binding). answer_of (n + 1) bindings slice) c.as_slice-bindings.ensures
    ∙ ap (λ (needs : List Need). answer_of (n + 1) (out-Derivation d).bindings needs) c.as_slice.ensures
    ∙ sym (tree_some task n d need (needs_in c.in-Some.needs) found) in
    IfOk-weaker c.trees.result (λ answer. answer ≡ answer_of first bs slice)
    (λ answer. answer ≡ walked (first_fault task n (forest_of d) (need ∷ [])) (n + nodes_of (forest_of d)))
    (λ answer e. e ∙ same) c.trees.ensures

pub tree-returns-in-None : goal.tree-returns-in-None
tree-returns-in-None t c =
    let task = task_in c.args.descr.now c.args.job in
    let d = c.args.derivation.now in
    sym (tree_none task c.args.node (c.args.node + nodes_of (forest_of d)) d (need_of c.args.need.now)
    (sym c.in_ok-needs.ensures.children ∙ ap (option_map needs_in) c.in-None.is))
