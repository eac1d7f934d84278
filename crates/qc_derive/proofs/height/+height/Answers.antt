use Rattle.std.proofs.Common.{arith, ◌∙◌, ◌+◌, ◌*◌, ◌-◌, List, ap, length, nat_le, sym}
use Rattle.qc_derivations.specs.declared.derivation.Binding.{Binding}
use Rattle.qc_derivations.specs.declared.derivation.Derivation.{out-Derivation}
use Rattle.qc_derivations.specs.Forest.{children_in, height_of}
use Rattle.qc_sequences.specs.Law.Weights.{tree_weight, weight}
use Rattle.qc_derive.proofs.Walks.{within_tree}
use Rattle.qc_derive.proofs.height.+height.Goals as goal

pub is_within-are_within-requires : goal.is_within-are_within-requires
is_within-are_within-requires t c =
    let d = c.args.derivation.now in
    let whole = tree_weight d in
    let same =
    ap (λ (bs : List Binding). 3 * weight (children_in bs (out-Derivation d).flag) + (length bs + 2)) c.as_slice-bindings.ensures in
    (omega (arith, c.decreases, whole, same), tt)

pub is_within-returns-else-height-eq0 : goal.is_within-returns-else-height-eq0
is_within-returns-else-height-eq0 t c =
    let d = c.args.derivation.now in
    c.are_within.ensures
    ∙ ap (λ (bs : List Binding). nat_le (height_of (children_in bs (out-Derivation d).flag)) (c.args.height - 1)) c.as_slice-bindings.ensures
    ∙ sym (within_tree d c.args.height c.if-height-eq0.false)
