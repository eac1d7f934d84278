use Rattle.std.proofs.Common.{◌≡◌, List, length, map, sym, ap, ◌∙◌, arith}
use Rattle.std.proofs.lemmas.List.{length-map}
use Rattle.std.proofs.lemmas.Result.{IfOk-weaker}
use Rattle.std.specs.Option.{option_map}
use Rattle.qc_facts.specs.Numbers.{access_width, width_in}
use Rattle.qc_bodies.specs.declared.tree.Leaf.TheVariants as leaf
use Rattle.qc_bodies.specs.declared.tree.Wrap.TheVariants as wrap
use Rattle.qc_bodies.specs.Trees.{Leaf, Wrap, core-leaf}
use Rattle.qc_lrtl.specs.declared.syntax.Expr.{Expr}
use Rattle.qc_named.specs.Inner.Scopes.{like_kept, standing_at}
use Rattle.qc_named.specs.Resolved.{Resolved, resolved, tree_in, alone, cell_tree, use_of, use_of_placed}
use Rattle.qc_named.specs.Standing.{Standing, own_in}
use Rattle.qc_named.proofs.Arguments.{arguments_more, arguments_all, used_so}
use Rattle.qc_named.proofs.Cores.{resolved-input, resolved-after, resolved-mem, resolved-zx, resolved-sx, resolved-slice, resolved-name, resolved-call, resolved-cell}
use Rattle.qc_named.proofs.expression.+trees.Goals as goal

-- an expression's tree is that of what it is
shown : (standing : Standing) (e v : Expr) (r : Resolved) → e ≡ v → resolved v ≡ r → r.tree standing ≡ tree_in standing e
shown standing e v r is by = sym (ap (λ x. x.tree standing) (ap resolved is ∙ by))

pub arguments_of-loop-place-preserved : goal.arguments_of-loop-place-preserved
arguments_of-loop-place-preserved t c =
    arguments_more (standing_at c.args.scope.now.names) resolved c.args.params.now c.args.args.now c.loop-place.place _
    c.index-args-place.result (omega arith) (omega arith) c.index-args-place.is c.loop-place.found c.add_argument.new.found
    c.loop-place.invariant c.in_ok-add_argument.ensures

pub arguments_of-returns : goal.arguments_of-returns
arguments_of-returns t c =
    arguments_all (standing_at c.args.scope.now.names) resolved c.args.params.now c.args.args.now c.loop-place.place
    (omega arith) c.loop-place.found c.loop-place.invariant

pub tree_of-returns-in-Input : goal.tree_of-returns-in-Input
unfolding standing_at
tree_of-returns-in-Input t c =
    core-leaf c.in-Input.token leaf.Input c.word-word.result
    ∙ ap (Leaf c.in-Input.token leaf.Input) c.word-word.ensures
    ∙ shown (standing_at c.args.scope.now.names) c.args.expr.now _ _ c.in-Input.is (resolved-input c.in-Input.token)

pub tree_of-returns-in-After : goal.tree_of-returns-in-After
unfolding standing_at
tree_of-returns-in-After t c =
    core-leaf c.in-After.token leaf.After c.word-word.result
    ∙ ap (Leaf c.in-After.token leaf.After) c.word-word.ensures
    ∙ shown (standing_at c.args.scope.now.names) c.args.expr.now _ _ c.in-After.is (resolved-after c.in-After.token)

pub tree_of-returns-in-Mem : goal.tree_of-returns-in-Mem
unfolding standing_at
tree_of-returns-in-Mem t c =
    let standing : Standing = standing_at c.args.scope.now.names in
    let x = c.in-Mem in
    IfOk-weaker c.wrapped.result _ _ (λ tree h. h
    ∙ ap (λ w. Wrap x.token wrap.Load w (tree_in standing c.get.result.now))
    (c.access_width-width.ensures ∙ ap (λ w. access_width w x.bits) c.word-word.ensures)
    ∙ ap (λ e. Wrap x.token wrap.Load (access_width standing.facts.word x.bits) (tree_in standing e)) c.get.ensures
    ∙ shown standing c.args.expr.now _ _ x.is (resolved-mem x.token x.bits x.address)) c.wrapped.ensures

pub tree_of-returns-in-Zx : goal.tree_of-returns-in-Zx
tree_of-returns-in-Zx t c =
    let standing : Standing = standing_at c.args.scope.now.names in
    let x = c.in-Zx in
    IfOk-weaker c.wrapped-in-Zx.result _ _ (λ tree h. h
    ∙ ap (λ w. Wrap x.token wrap.Zx w (tree_in standing c.get-in-Zx.result.now)) c.width_in.ensures
    ∙ ap (λ e. Wrap x.token wrap.Zx (width_in x.bits) (tree_in standing e)) c.get-in-Zx.ensures
    ∙ shown standing c.args.expr.now _ _ x.is (resolved-zx x.token x.bits x.arg)) c.wrapped-in-Zx.ensures

pub tree_of-returns-in-Sx : goal.tree_of-returns-in-Sx
tree_of-returns-in-Sx t c =
    let standing : Standing = standing_at c.args.scope.now.names in
    let x = c.in-Sx in
    IfOk-weaker c.wrapped-in-Sx.result _ _ (λ tree h. h
    ∙ ap (λ w. Wrap x.token wrap.Sx w (tree_in standing c.get-in-Sx.result.now)) c.width_in-in-Sx.ensures
    ∙ ap (λ e. Wrap x.token wrap.Sx (width_in x.bits) (tree_in standing e)) c.get-in-Sx.ensures
    ∙ shown standing c.args.expr.now _ _ x.is (resolved-sx x.token x.bits x.arg)) c.wrapped-in-Sx.ensures

pub tree_of-returns-in-Slice : goal.tree_of-returns-in-Slice
tree_of-returns-in-Slice t c =
    let standing : Standing = standing_at c.args.scope.now.names in
    let x = c.in-Slice in
    IfOk-weaker c.wrapped-in-Slice.result _ _ (λ tree h. h
    ∙ ap (λ w. Wrap x.token (wrap.Slice x.low.value) w (tree_in standing c.get-in-Slice.result.now)) c.width_in-in-Slice.ensures
    ∙ ap (λ e. Wrap x.token (wrap.Slice x.low.value) (width_in x.bits) (tree_in standing e)) c.get-in-Slice.ensures
    ∙ shown standing c.args.expr.now _ _ x.is (resolved-slice x.token x.low x.bits x.arg)) c.wrapped-in-Slice.ensures

pub tree_of-returns-in-Name : goal.tree_of-returns-in-Name
unfolding standing_at
tree_of-returns-in-Name t c =
    let standing : Standing = standing_at c.args.scope.now.names in
    c.alone.ensures
    ∙ ap (λ w. alone w c.own_in.result c.in-Name.name.token) c.word-word.ensures
    ∙ ap (λ o. alone standing.facts.word o c.in-Name.name.token) (c.own_in.ensures ∙ ap (own_in standing) c.as_slice.ensures)
    ∙ shown standing c.args.expr.now _ _ c.in-Name.is (resolved-name c.in-Name.name)

pub tree_of-returns-in-Call : goal.tree_of-returns-in-Call
tree_of-returns-in-Call t c =
    let standing : Standing = standing_at c.args.scope.now.names in
    IfOk-weaker c.use_of.result _ _ (λ tree h. h
    ∙ ap (λ l. use_of standing c.in-Call.name (map resolved l)) c.as_slice-in-Call.ensures
    ∙ shown standing c.args.expr.now _ _ c.in-Call.is (resolved-call c.in-Call.name c.in-Call.args)) c.use_of.ensures

pub tree_of-returns-in-Cell : goal.tree_of-returns-in-Cell
unfolding standing_at
tree_of-returns-in-Cell t c =
    let standing : Standing = standing_at c.args.scope.now.names in
    c.cell_tree.ensures
    ∙ ap (λ o. cell_tree o c.in-Cell.space.token) c.cell.ensures
    ∙ shown standing c.args.expr.now _ _ c.in-Cell.is (resolved-cell c.in-Cell.space c.in-Cell.cell)

pub used-returns-in_ok-found-in-Some : goal.used-returns-in_ok-found-in-Some
used-returns-in_ok-found-in-Some t c =
    let standing : Standing = standing_at c.args.scope.now.names in
    let args : List Resolved = map resolved c.args.args.now in
    let s = c.in-Some.signature.now in
    used_so standing s c.in-Some.number c.args.token (length c.args.args.now) args c.as_slice.result.now
    c.in_ok-found-in-Some.found (length-map c.args.args.now resolved) c.as_slice.ensures c.in_ok-found-in-Some.ensures
    (sym c.takes.ensures ∙ c.if-takes.true)
    ∙ ap (λ o. use_of_placed standing (like_kept (option_map (λ p. (p.0, p.1.now)) o)) c.args.token args) (sym c.in-Some.is)
