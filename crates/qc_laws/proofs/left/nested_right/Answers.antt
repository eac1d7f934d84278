use Rattle.std.proofs.Common.{rules, ◌∙◌, ap, Some}
use Rattle.qc_equations.specs.Pattern.{Parts}
use Rattle.qc_pool.specs.Nodes.{term_at}
use Rattle.qc_words.specs.Width.{IsWidth}
use Rattle.qc_terms.specs.Tree.{width_of}
use Rattle.qc_laws.proofs.Nested.{is_right_nested}
use Rattle.qc_laws.proofs.left.nested_right.Goals as goal

pub returns-clause-parts : goal.returns-clause-parts
returns-clause-parts c =
    let at = term_at c.args.pool.now in
    let there = c.three.ensures.there in
    let width : IsWidth (width_of (at c.in_ok-a.a)) = search (rules, there) in
    ap (λ (p : Parts). Some p) c.three.ensures.parts
    ∙ is_right_nested c.args.op (at c.args.id) (at c.in_ok-a.right) (at c.in_ok-a.a) (at c.in_ok-b.b) (at c.in_ok-b.c) width
    c.in_ok-a.ensures.operands c.in_ok-b.ensures.operands
