use Rattle.std.proofs.Common.{rules, ◌≡◌, ◌∙◌, Ok, Err, sym, ap, subst}
use Rattle.qc_terms.specs.Clashes.{clashes_of, width_or_clash}
use Rattle.qc_terms.specs.Tree.{Tree, Binary, tree_of, tree_of-bin, width_of}
use Rattle.qc_terms.proofs.Widths.{own_clash, right_clash}
use Rattle.qc_terms.proofs.typing.+width_of.Goals as goal

pub returns-in_err-second-in-Bin : goal.returns-in_err-second-in-Bin
returns-in_err-second-in-Bin t c =
    let P : Tree → Type 0 = λ x. c.from_residual-in_err-second-in-Bin.result ≡ width_or_clash (clashes_of x) (width_of x) in
    let op = c.in-Bin.op in
    let left = c.in-Bin.left in
    let right = c.in-Bin.right in
    let tree : tree_of c.args.term.now ≡ Binary op (tree_of left) (tree_of right) = ap tree_of c.in-Bin.is ∙ tree_of-bin op left right in
    let first : Ok c.in_ok-first-in-Bin.first ≡ width_or_clash (clashes_of (tree_of left)) (width_of (tree_of left)) = search rules in
    let second : Err c.in_err-second-in-Bin.field-0.0 ≡ width_or_clash (clashes_of (tree_of right)) (width_of (tree_of right)) = search rules in
    let result : c.from_residual-in_err-second-in-Bin.result ≡ Err c.in_err-second-in-Bin.field-0.0 = search rules in
    subst P (sym tree) (result ∙ right_clash op (tree_of left) (tree_of right) c.in_ok-first-in-Bin.first c.in_err-second-in-Bin.field-0.0 first second)

pub returns-in_ok-second-in-Bin : goal.returns-in_ok-second-in-Bin
returns-in_ok-second-in-Bin t c =
    let P : Tree → Type 0 = λ x. c.binary_width.result ≡ width_or_clash (clashes_of x) (width_of x) in
    let op = c.in-Bin.op in
    let left = c.in-Bin.left in
    let right = c.in-Bin.right in
    let tree : tree_of c.args.term.now ≡ Binary op (tree_of left) (tree_of right) = ap tree_of c.in-Bin.is ∙ tree_of-bin op left right in
    let first : Ok c.in_ok-first-in-Bin.first ≡ width_or_clash (clashes_of (tree_of left)) (width_of (tree_of left)) = search rules in
    let second : Ok c.in_ok-second-in-Bin.second ≡ width_or_clash (clashes_of (tree_of right)) (width_of (tree_of right)) = search rules in
    subst P (sym tree) (c.binary_width.ensures ∙ own_clash op (tree_of left) (tree_of right) c.in_ok-first-in-Bin.first c.in_ok-second-in-Bin.second first second)
